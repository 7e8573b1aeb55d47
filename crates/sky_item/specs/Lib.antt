pub mod Encoding
pub mod Writing
pub mod Items
pub mod Reading
pub mod Fields
pub mod Taking
