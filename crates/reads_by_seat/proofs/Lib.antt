pub mod ObjectLaws
pub mod SumLaws
