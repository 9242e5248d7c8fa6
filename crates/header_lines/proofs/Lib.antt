pub mod Decimals
pub mod ClearHeaders
pub mod ClearHeadings
pub mod KindWords
pub mod MessageLemmas
pub mod NameLemmas
