pub mod Sizes
pub mod ArgsLaws
pub mod ResultsLaws
pub mod Known
