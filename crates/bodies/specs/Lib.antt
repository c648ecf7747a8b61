pub mod Tables
pub mod Bodies
pub mod Laws
pub mod Markings
