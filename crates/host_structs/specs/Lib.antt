-- Inputs (what the host names), Answers (what it is told).
pub mod Inputs
pub mod Answers
