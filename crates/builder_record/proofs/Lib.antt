pub mod JudgeLaws
pub mod LayLaws
pub mod FillLaws
