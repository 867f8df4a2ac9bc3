-- Read in this order: Bytes, Words, Numbers, Line, Lines, Reader, Put.
pub mod Bytes
pub mod Line
pub mod Lines
pub mod Numbers
pub mod Put
pub mod Reader
pub mod Words
