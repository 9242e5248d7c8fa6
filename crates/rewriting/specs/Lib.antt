pub mod Rewrite
pub mod Rewritten
pub mod Error
pub mod Rules
pub mod Reformats
pub mod Inner
