pub mod Durable
pub mod Stable
