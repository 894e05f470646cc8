pub mod Kind
pub mod Numbers
pub mod Flags
pub mod Refusals
pub mod Printed
