pub mod Stack
pub mod Pushing
