pub mod Shown
pub mod Made
