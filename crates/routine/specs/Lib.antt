pub mod Limits
pub mod Rows
pub mod Commands
pub mod Runs
pub mod Decoding
pub mod Standing
pub mod Checking
