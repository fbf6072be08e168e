pub mod Evicted
pub mod Gone
pub mod Swept
pub mod Rounds
