pub mod Rows
pub mod FigureLaws
