pub mod Unique
pub mod Theorems
