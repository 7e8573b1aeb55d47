pub mod LengthLaws
