-- Lemmas on the forms, for the crates above.
pub mod Meanings
