-- Bytes under weak transfers.
pub mod OtherEvents
pub mod Runs
pub mod SomeElement
pub mod Stores
