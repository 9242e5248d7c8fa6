-- What only private calls and proofs cite.
pub mod Fast
pub mod State
pub mod Clear
