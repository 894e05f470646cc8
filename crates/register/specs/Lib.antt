pub mod Held
pub mod Answers
pub mod Histories
pub mod Promise
pub mod Views
pub mod Printed
