pub mod Bytes
pub mod Spelling
