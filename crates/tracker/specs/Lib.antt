pub mod Tracker
pub mod Laws
