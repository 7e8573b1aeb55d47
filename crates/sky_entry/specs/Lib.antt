pub mod Entry
pub mod Faults
pub mod Reading
