pub mod CountLaws
pub mod KeptLaws
mod Known
