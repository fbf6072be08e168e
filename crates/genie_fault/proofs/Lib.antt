pub mod Benches
pub mod Bringing
pub mod Ending
pub mod Loading
pub mod Reading
pub mod Resolved
