pub mod Stepping
pub mod Numbered
