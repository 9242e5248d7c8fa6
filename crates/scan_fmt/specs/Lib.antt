pub mod Grammar
pub mod Expressions
pub mod Inner
pub mod Values
pub mod Scanned
pub mod Sets
pub mod Slices
pub mod Tokens
