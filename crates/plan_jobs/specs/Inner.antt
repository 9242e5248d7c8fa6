-- What only private calls and proofs cite.
pub mod State
pub mod PlanClear
pub mod ScanClear
pub mod TranslateState
pub mod TranslateClear
