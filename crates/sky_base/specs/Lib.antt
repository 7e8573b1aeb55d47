pub mod Access
pub mod Limits
pub mod Listing
pub mod NameText
pub mod Order
pub mod Status
