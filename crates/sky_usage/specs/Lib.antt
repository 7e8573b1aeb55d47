pub mod Counts
pub mod LiveBytes
-- the order of names
pub use Rattle.sky_base.specs.Order
