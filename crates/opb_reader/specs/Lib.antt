pub mod Ids
pub mod Standing
pub mod Reading
