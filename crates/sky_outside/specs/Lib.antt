pub mod CloudMap
pub mod Count
pub mod Image
pub mod Moments
pub mod Told
-- the limits of the numbers in a name, and the order of names
pub use Rattle.sky_base.specs.Limits
pub use Rattle.sky_base.specs.Order
