pub mod Parts
pub mod Args
pub mod Sizes
pub mod Reading
