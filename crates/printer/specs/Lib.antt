pub mod Dialect
pub mod Fault
pub mod Inner
pub mod Keys
pub mod Laws
pub mod Text
