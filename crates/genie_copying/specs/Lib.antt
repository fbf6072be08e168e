pub mod Kinds
pub mod Ranges
pub mod Bounds
pub mod Spending
pub mod Getting
pub mod Lemmas
pub mod Rows
