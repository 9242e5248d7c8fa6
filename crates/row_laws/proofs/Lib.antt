pub mod Literals
pub mod Cutting
pub mod Induction
pub mod Texts
pub mod OneList
pub mod Reading
pub mod Fields
