pub mod Reached
pub mod Words
pub mod Endings
pub mod Stored
pub mod Samples
