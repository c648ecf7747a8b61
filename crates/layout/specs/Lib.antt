pub mod Layout
pub mod Lists
pub mod Laws
pub mod Loops
