pub mod Calls
pub mod Changes
pub mod Handles
pub mod History
pub mod Laws
pub mod NfsStatus
pub mod Procedure
pub mod Procedures
pub mod Results
pub mod Rules
pub mod Tree
pub mod Validity
-- what trees, rules and limits are made of
pub use Rattle.sky_base.specs.Access
pub use Rattle.sky_base.specs.Limits
pub use Rattle.sky_base.specs.Listing
