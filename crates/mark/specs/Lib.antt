pub mod Lesson
pub mod Mark
