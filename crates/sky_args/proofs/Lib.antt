pub mod PartReads
pub mod CallReads
pub mod ArgsLaws
pub mod ReadLaws
pub mod Lengths
pub mod WrittenLaws
pub mod Known
pub mod SizeLaws
