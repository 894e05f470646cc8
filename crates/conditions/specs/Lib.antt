pub mod Reading
pub mod Made
pub mod Fixed
pub mod Valued
pub mod Asks
pub mod Calls
