-- Theorems that rest on the definitions of specs/Paper.antt.
pub mod Taken
