pub mod Numbers
pub mod Opaques
pub mod Faults
pub mod Puts
pub mod FixedData
pub mod Grammars
pub mod Known
