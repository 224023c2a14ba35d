pub mod CountLaws
pub mod BoundLaws
