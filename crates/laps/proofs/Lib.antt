-- Theorems that rest on what a starved step is: what is computed is an answer, and there is only one.
pub mod Right
pub mod Laws
