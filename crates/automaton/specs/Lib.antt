pub mod Paper
pub mod States
pub mod Same
