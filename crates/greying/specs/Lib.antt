pub mod Greying
pub mod Rows
pub mod Laws
pub mod Exactly
