pub mod CallLaws
pub mod RunLaws
pub mod RunLoop
pub mod Stateless
pub mod SeenLaws
pub mod CallsLoop
pub mod CutLaws
pub mod Pieces
