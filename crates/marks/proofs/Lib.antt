pub mod Arguments
pub mod Statements
pub mod Values
pub mod Reaching
