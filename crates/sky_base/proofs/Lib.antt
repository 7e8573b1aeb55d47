pub mod NameTextLaws
pub mod OrderLaws
