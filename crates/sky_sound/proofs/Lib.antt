pub mod Above
pub mod Bases
pub mod Blank
pub mod Claims
pub mod Clouds
pub mod Once
pub mod Settled
pub mod Texts
