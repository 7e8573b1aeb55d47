pub mod Uints
pub mod Replies
pub mod Auths
pub mod Calls
pub mod Encodings
pub mod ReplyReading
pub mod Known
