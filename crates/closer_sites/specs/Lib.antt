pub mod Walk
pub mod Going
