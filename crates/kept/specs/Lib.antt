pub mod Keep
pub mod Laws
