mod Endings
mod Comparing
mod Completing
mod OneReading
pub mod Existing
mod Sites
mod Going
mod Leaving
mod Stopping
mod Beginning
mod Asked
