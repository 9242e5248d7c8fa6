pub mod LayoutLemmas
pub mod ValueLemmas
pub mod PrintfLemmas
pub mod CopiedLemmas
pub mod FormatxLemmas
pub mod StrfmtLemmas
