pub mod ByteLaws
pub mod UnitLaws
