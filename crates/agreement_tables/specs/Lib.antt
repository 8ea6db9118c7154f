pub mod Cases
pub mod BuildCases
