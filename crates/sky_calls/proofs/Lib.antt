pub mod Carried
pub mod Framed
pub mod Moments
