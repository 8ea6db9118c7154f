pub mod ReadCases
pub mod RewriteCases
