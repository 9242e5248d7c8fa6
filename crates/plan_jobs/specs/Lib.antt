pub mod Plan
pub mod Scan
pub mod Translate
pub mod TranslateMessage
pub mod Written
pub mod Inner
