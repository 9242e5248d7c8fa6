pub mod Grammar
pub mod Field
pub mod Meaning
pub mod Values
pub mod Text
pub mod Inner
pub mod Laws
