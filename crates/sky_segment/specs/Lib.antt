pub mod Objects
pub mod Damages
pub mod Drafts
