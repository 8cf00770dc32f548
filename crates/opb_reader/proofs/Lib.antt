pub mod Ids
pub mod Assuming
pub mod Looping
pub mod Both
