pub mod Mapped
pub mod PageLaws
