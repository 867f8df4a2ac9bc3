-- Read in this order: Stores, Replies, Plays.
pub mod Plays
pub mod Replies
pub mod Stores
