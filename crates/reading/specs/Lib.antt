pub mod Reading
pub mod Laws
pub mod Judged
pub mod Filled
