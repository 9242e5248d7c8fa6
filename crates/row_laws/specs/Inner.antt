-- What only proofs cite.
pub mod Directives
