-- What private calls and the proofs of laws cite; no public clause does.
pub mod LineSteps
pub mod ReaderSteps
pub mod ReadingProofs
pub mod WordProofs
pub mod ReaderProofs
