pub mod Calls
pub mod Answering
pub mod OutputLaws
pub mod Sharing
pub mod GivingUp
pub mod Lending
