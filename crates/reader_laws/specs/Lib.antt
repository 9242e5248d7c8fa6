pub mod Good
pub mod Alike
pub mod AlikeProofs
pub mod ListProofs
pub mod ZeroProofs
