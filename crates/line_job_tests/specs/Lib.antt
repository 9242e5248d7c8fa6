pub mod Quote
pub mod QuoteClear
pub mod Head
