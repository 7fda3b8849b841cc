pub mod RowLaws
pub mod ArrowLaws
pub mod CloseLaws
pub mod GroupLaws
pub mod TableLaws
pub mod ListLaws
