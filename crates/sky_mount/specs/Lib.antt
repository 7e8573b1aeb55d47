pub mod Mount
pub mod Reading
pub mod Values
