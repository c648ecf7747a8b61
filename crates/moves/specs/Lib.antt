pub mod First
pub mod Move
pub mod Given
pub mod Inside
pub mod Handed
