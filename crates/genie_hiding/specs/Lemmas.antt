-- Lemmas on hidden regions and on room that was made, for the crates above.
pub mod Making
pub mod Naming
pub mod Searching
pub mod Sweeping
