pub mod LiftLaws
pub mod WayLaws
pub mod EffectLaws
