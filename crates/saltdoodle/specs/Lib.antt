-- What each call promises on a lent sender, and what is told of a packet's record.
pub mod Lent
pub mod Record
