pub mod Padding
pub mod PaddingLaws
pub mod Merging
pub mod Measuring
pub mod Pieces
pub mod Writing
pub mod Calls
pub mod Checked
