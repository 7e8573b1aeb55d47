pub mod Sizes
pub mod Words
pub mod HeadReads
pub mod EntryLaws
pub mod ReadLaws
pub mod Known
