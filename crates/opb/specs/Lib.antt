pub mod Summands
pub mod Counts
pub mod Tokens
pub mod Judged
