pub mod Naming
pub mod Sorting
pub mod Choosing
pub mod Wording
pub mod Finishing
