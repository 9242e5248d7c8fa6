pub mod Kind
pub mod Datum
pub mod Decimal
pub mod Templates
