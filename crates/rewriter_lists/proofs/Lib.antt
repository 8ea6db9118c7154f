pub mod RunLaws
pub mod ListLaws
