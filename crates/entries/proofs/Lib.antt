pub mod Partly
pub mod Same
