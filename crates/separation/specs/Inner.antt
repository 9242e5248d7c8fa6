-- Words that private calls and proofs cite.
pub mod Conditions
pub mod Table
pub mod Touching
