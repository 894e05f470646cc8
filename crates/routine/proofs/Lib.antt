pub mod Splits
pub mod Terms
pub mod Readings
pub mod Finished
pub mod Soundness
pub mod Completeness
