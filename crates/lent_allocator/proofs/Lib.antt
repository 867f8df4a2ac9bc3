-- What the proofs of both calls share.
pub mod Allocator
