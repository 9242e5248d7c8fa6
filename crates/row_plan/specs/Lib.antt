pub mod Inner
pub mod Plan
