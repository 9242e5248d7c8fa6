pub mod Columns
pub mod Fit
pub mod Inner
pub mod Laws
pub mod Plannable
pub mod Planned
pub mod Row
