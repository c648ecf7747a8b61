pub mod Values
pub mod Lent
pub mod Folded
pub mod Laws
