pub mod ItemsRead
pub mod Headers
pub mod ObjectLaws
pub mod DraftLaws
