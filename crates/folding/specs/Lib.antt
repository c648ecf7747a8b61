pub mod Fold
pub mod Effect
pub mod Possible
pub mod Answers
pub mod Laws
pub mod Answered
