-- The definition of the desk, in this order: Encoder, FdtSession, Session, Desk, Payload. Then what is promised of it: Promises, TotalPromises, Apart; and examples: Sheet.
pub mod Encoder
pub mod FdtSession
pub mod Session
pub mod Desk
pub mod Payload
pub mod Promises
pub mod TotalPromises
pub mod Apart
pub mod Sheet
