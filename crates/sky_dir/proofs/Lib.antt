pub mod RowsLemmas
pub mod OrderlyLemmas
pub mod KeptLemmas
pub mod KeptSteps
pub mod SizeLemmas
pub mod CommandLemmas
pub mod ReplaceLemmas
