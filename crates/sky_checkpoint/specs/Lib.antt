pub mod Checks
pub mod Listing
pub mod Pages
pub mod SoFar
-- the limits of the numbers in a name, and the order of names
pub use Rattle.sky_base.specs.Limits
pub use Rattle.sky_base.specs.Order
-- what is an item of the format, and items that go by numbers as a map
pub use Rattle.sky_item.specs.Items
pub use Rattle.sky_imap.specs.Links
