mod Checks
pub mod CarryLemmas
pub mod CreateLemmas
pub mod DropLemmas
pub mod EpochLemmas
pub mod GrowLemmas
pub mod HandleLemmas
pub mod KeptLemmas
pub mod LinkLemmas
pub mod MoveLemmas
pub mod ProcedureLemmas
pub mod RemoveLemmas
pub mod RenameLemmas
pub mod ValidityLemmas
pub mod WayLemmas
