pub mod PacketLaws
pub mod FieldLaws
