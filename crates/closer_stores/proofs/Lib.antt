pub mod StoreLaws
pub mod TurnLaws
