pub mod Feeding
pub mod Inside
pub mod Parts
pub mod Record
pub mod Stream
-- the limit of a record
pub use Rattle.sky_base.specs.Limits
