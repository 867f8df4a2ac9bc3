-- What the proofs of the lent calls share; and what is told of a packet.
pub mod Rows
pub mod Cuts
pub mod Settles
pub mod PacketLaws
