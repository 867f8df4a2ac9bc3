-- Read in this order: Words, Limits, Refusals, Partition, PartitionPromises, Toi, Allocator.
pub mod Words
pub mod Limits
pub mod Refusals
pub mod Partition
pub mod PartitionPromises
pub mod Toi
pub mod Allocator
