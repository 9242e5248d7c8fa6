mod RowLemmas
mod RewriteLemmas
pub mod ReformatLemmas
