-- The record of a sender's packet.
pub mod PacketRecord
