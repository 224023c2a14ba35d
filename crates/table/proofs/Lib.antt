pub mod TableLaws
pub mod KeptLaws
pub mod KnownLaws
pub mod Asking
pub mod StepLaws
pub mod Turns
