pub mod Cases
pub mod Samples
pub mod Figures
pub mod Rules
