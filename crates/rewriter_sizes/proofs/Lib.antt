pub mod PartLaws
pub mod LengthLaws
pub mod MinorLaws
