pub mod PacketLaws
pub mod PutLaws
pub mod DownLoop
pub mod TurnLaws
mod DownLaws
