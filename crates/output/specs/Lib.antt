pub mod Status
pub mod Text
