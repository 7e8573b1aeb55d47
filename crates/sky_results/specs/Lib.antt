pub mod Answers
pub mod Attributes
pub mod Ranges
pub mod Results
pub mod Wcc
