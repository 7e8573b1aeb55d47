pub mod Call
pub mod Reading
pub mod Reply
pub mod Values
