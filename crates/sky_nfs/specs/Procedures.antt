-- Each procedure's rules of refusal, its change of the tree, and its results.
pub mod Access
pub mod Commit
pub mod Create
pub mod FsStat
pub mod Link
pub mod Lookup
pub mod Mkdir
pub mod Mknod
pub mod Read
pub mod ReadDir
pub mod ReadLink
pub mod Remove
pub mod Rename
pub mod SetAttr
pub mod Write
