pub mod AscendLaws
pub mod FoundLaws
mod Known
pub mod PageLaws
