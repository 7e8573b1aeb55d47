pub mod Boot
pub mod Cloud
pub mod Entries
pub mod Invariant
pub mod Kept
pub mod Recovery
pub mod Refusal
pub mod Settled
