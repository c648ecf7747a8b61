pub mod Cabinet
pub mod Rows
pub mod Laws
