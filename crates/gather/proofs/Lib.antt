pub mod LineLaws
pub mod GatherLaws
pub mod GatherLoop
