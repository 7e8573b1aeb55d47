pub mod Kept
pub mod Links
pub mod PageMap
-- the limits of a page
pub use Rattle.sky_base.specs.Limits
-- what is an item of the format
pub use Rattle.sky_item.specs.Items
