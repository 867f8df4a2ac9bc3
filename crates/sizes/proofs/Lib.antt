-- Laws that belong to no one function; the layers above cite them.
pub mod Tests
pub mod Lists
pub mod Arrays
pub mod Folds
pub mod Tables
pub mod Collects
pub mod Arithmetic
pub mod Lengths
pub mod PartitionLaws
pub mod ToiLaws
pub mod Widths
pub mod AllocatorLaws
pub mod AllocatorViews
