mod NoMemory
mod Joining
mod Tokens
mod KeptLines
mod Headings
pub mod WrittenLemmas
mod MessageLemmas
