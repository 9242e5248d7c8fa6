pub mod Inner
pub mod Refusal
