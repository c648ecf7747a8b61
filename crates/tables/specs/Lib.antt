pub mod Tables
pub mod Gathered
pub mod Laws
