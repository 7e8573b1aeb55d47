pub mod Adapter
pub mod FileSite
pub mod Lengths
