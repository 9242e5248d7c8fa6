pub mod GoodLemmas
pub mod DecideLemmas
