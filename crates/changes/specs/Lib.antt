pub mod Changes
pub mod ChangeLaws
