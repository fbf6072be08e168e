pub mod Handles
pub mod Loans
pub mod Rooms
