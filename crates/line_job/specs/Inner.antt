-- What only private calls and proofs cite.
pub mod NextLine
pub mod Goes
pub mod Step
