pub mod Journal
pub mod Ran
pub mod Run
pub mod Walk
pub mod Inner
pub mod Laws
pub mod Allowed
pub mod Singles
