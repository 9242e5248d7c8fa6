-- Words that private calls and proofs cite.
pub mod Built
pub mod Fields
pub mod Found
pub mod Parts
pub mod Spans
