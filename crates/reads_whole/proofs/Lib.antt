pub mod RowLaws
pub mod EntryLaws
pub mod ListLaws
pub mod Samples
