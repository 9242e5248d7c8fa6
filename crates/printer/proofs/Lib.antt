pub mod KeyLemmas
pub mod ValueLemmas
pub mod AppendLemmas
pub mod LawLemmas
