pub mod Processes
pub mod Translations
