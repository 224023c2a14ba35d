pub mod CallLaws
pub mod RunLaws
