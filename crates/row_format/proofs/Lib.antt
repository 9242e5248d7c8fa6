pub mod Elements
pub mod Printing
