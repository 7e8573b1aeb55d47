pub mod Contents
pub mod Lending
pub mod Ascending
