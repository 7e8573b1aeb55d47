pub mod Creating
pub mod Setting
pub mod Memory
pub mod Linking
pub mod Listing
pub mod Renaming
pub mod AttrChanges
