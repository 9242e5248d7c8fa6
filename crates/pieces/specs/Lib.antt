pub mod Inner
pub mod Template
