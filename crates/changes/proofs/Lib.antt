pub mod LineLaws
pub mod Samples
pub mod SelfLaws
