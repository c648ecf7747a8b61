-- A theorem that rests on the definition of H.
pub mod Pool
mod State
