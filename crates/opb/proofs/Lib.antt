pub mod Counting
pub mod Comments
pub mod Meanings
pub mod Inside
pub mod Storing
pub mod Parts
pub mod Judging
pub mod Outside
