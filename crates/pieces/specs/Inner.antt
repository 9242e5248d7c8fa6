-- What only private calls and proofs cite.
pub mod Copied
pub mod Formatx
pub mod Layout
pub mod Printf
pub mod Sound
pub mod Source
pub mod Strfmt
