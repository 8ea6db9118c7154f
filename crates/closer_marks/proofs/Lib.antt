pub mod MarkLaws
pub mod OverlapLaws
