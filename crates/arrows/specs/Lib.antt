pub mod Arrows
pub mod Lists
pub mod Places
pub mod Table
pub mod Codec
pub mod Rows
pub mod Loops
pub mod Runs
