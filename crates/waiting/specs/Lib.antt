pub mod Entry
pub mod Answers
pub mod Doing
