pub mod Answering
pub mod Taking
pub mod Filing
pub mod Lining
pub mod Marking
pub mod Pushing
pub mod Reporting
pub mod Joining
