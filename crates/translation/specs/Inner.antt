-- What only private calls and proofs cite.
pub mod Options
pub mod Plans
