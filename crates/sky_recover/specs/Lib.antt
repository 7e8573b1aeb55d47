pub mod Faults
pub mod Opening
pub mod Refusals
pub mod Replaying
pub mod Settling
pub mod Steps
