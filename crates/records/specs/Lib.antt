pub mod Records
pub mod Answers
pub mod Laws
pub mod WellFormed
pub mod Answered
