pub mod CallLaws
pub mod RowLaws
pub mod MessageLaws
pub mod ExclusiveLaws
pub mod PayloadLaws
pub mod StepLaws
