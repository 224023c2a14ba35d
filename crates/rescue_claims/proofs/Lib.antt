pub mod PieceLaws
pub mod HeaderLaws
pub mod KeptLaws
pub mod AgainLaws
pub mod SumLaws
pub mod TickLaws
pub mod BufferLaws
