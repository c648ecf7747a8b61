-- A theorem that rests on the definition of a run.
pub mod Stopping
