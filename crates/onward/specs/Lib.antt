pub mod Tracks
pub mod Endless
pub mod Laws
