pub mod Records
pub mod Rules
