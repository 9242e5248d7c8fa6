mod Eights
pub mod Digits
pub mod Fields
pub mod Filled
pub mod Forms
pub mod Integers
pub mod Rows
pub mod Tables
pub mod Words
