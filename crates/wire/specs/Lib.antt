-- Read in this order: Packing, Record, RecordPromises; RecordWords is how the code goes about it.
pub mod Packing
pub mod Record
pub mod RecordWords
pub mod RecordPromises
