-- What only private calls and proofs cite.
pub mod Serves
pub mod Shapes
pub mod Steps
