pub mod Words
pub mod Lists
pub mod Standing
pub mod Checked
pub mod Journals
pub mod Round
pub mod Sheets
