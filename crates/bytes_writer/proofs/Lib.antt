pub mod StoreLaws
pub mod RecordLaws
