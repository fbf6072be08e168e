pub mod Lending
pub mod Processes
pub mod Spaces
pub mod Translations
