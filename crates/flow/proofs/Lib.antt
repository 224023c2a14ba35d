pub mod BoundLaws
pub mod ListLaws
pub mod PanelLaws
