pub mod Calls
pub mod Device
pub mod Entries
pub mod Kept
pub mod MemSite
pub mod Objects
pub mod Past
pub mod PastLaws
pub mod Record
pub mod Replay
-- the limits of the numbers in a name, and the order of names
pub use Rattle.sky_base.specs.Limits
pub use Rattle.sky_base.specs.Order
-- how calls count as failed
pub use Rattle.sky_outside.specs.Count
-- what a disk and a cloud tell
pub use Rattle.sky_outside.specs.CloudMap
pub use Rattle.sky_outside.specs.Image
pub use Rattle.sky_outside.specs.Moments
pub use Rattle.sky_outside.specs.Told
