-- Whole (a call on a lent state), Passed (a call that passes on what it is lent), Items (a part of that state, read and stored in place).
pub mod Whole
pub mod Passed
pub mod Items
