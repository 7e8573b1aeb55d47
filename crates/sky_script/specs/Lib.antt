pub mod Frame
pub mod Beginning
pub mod Values
pub use Rattle.sky_base.specs.Status
pub use Rattle.sky_outside.specs.Count
pub use Rattle.sky_outside.specs.Told
pub use Rattle.sky_xdr.specs.Encoding
