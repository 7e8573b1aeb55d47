pub mod WritingLemmas
pub mod MapLemmas
pub mod EditLemmas
pub mod MoveLemmas
