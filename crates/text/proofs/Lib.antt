pub mod LineLaws
pub mod LampLaws
pub mod MessageLaws
pub mod RescueLaws
pub mod RowLaws
