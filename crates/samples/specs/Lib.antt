pub mod Job
pub mod Samples
