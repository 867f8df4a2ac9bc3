-- The definition: Parts, Lifecycle, Setup, Fdt. The code's records and what its calls make of them: FileDesc, Announce, Slots, FdtCalls.
pub mod Parts
pub mod Lifecycle
pub mod Setup
pub mod Fdt
pub mod FileDesc
pub mod Announce
pub mod Slots
pub mod FdtCalls
