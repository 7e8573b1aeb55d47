pub mod ObjectLaws
pub mod RecordLaws
pub mod SiteLaws
pub mod SiteMeets
pub mod StopLaws
