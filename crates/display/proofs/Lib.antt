pub mod Back
pub mod LineLaws
pub mod ShowLaws
