pub mod Filled
pub mod Lines
pub mod MadeEvents
pub mod MadeLines
