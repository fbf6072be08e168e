pub mod Serving
pub mod Ends
pub mod EndingLaws
pub mod Named
