pub mod FrameTable
pub mod Frames
pub mod Lending
