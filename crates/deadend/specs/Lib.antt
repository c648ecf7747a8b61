pub mod Taker
pub mod DeadEnd
pub mod Takers
pub mod Order
pub mod Trying
pub mod Levels
pub mod Going
pub mod Answers
