pub mod Commands
pub mod Items
pub mod Kept
pub mod Kinds
pub mod Orderly
pub mod Pages
pub mod Rows
-- what a listing is, and its limits
pub use Rattle.sky_base.specs.Limits
pub use Rattle.sky_base.specs.Listing
