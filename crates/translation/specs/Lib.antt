pub mod Table
pub mod Translated
pub mod Laws
pub mod Inner
