pub mod Sound
pub mod Machine
pub mod Reading
pub mod Feeding
pub mod Examples
