pub mod Command
pub mod Forms
pub mod Lemmas
pub mod Shapes
