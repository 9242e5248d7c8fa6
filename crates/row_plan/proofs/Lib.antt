pub mod Ascii
pub mod Escaped
pub mod Lines
pub mod OneCharacter
pub mod Prefixes
pub mod Texts
pub mod Widths
