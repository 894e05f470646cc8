pub mod Rows
pub mod Passive
pub mod Outcomes
pub mod Uses
pub mod Agreement
pub mod Layout
pub mod Stated
