-- What only private calls and proofs cite.
pub mod State
pub mod Appending
