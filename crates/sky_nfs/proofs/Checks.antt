-- Answers that the check computes from the definitions.
mod GetAttr
mod Sample
mod SetAttr
mod Lookup
mod Write
mod Create
mod Mkdir
mod Remove
mod Rename
mod Link
mod ReadDir
mod FsStat
mod Validity
mod Room
