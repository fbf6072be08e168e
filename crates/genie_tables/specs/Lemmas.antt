pub mod Succeeding
