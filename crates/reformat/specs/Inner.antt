-- What only private calls and proofs cite.
pub mod Said
