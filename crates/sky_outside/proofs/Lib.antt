pub mod CloudLaws
pub mod CountLaws
pub mod ImageLaws
pub mod MomentLaws
mod Parts
pub mod ToldLaws
