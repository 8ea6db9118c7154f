pub mod Shown
pub mod Names
pub mod Coverage
pub mod Numbered
