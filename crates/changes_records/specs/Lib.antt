pub mod Told
pub mod ToldLaws
pub mod AllLaws
pub mod Walk
