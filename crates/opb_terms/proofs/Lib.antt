pub mod Putting
pub mod Turning
pub mod Products
pub mod Summing
