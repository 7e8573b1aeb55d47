-- who may do what with an object
pub use Rattle.sky_base.specs.Access
