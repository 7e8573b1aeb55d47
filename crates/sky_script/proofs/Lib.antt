pub mod FrameLaws
mod Headers
mod Taken
pub mod Beginnings
