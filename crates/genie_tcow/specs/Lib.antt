pub mod Costs
pub mod Laws
pub mod Lending
pub mod Owning
pub mod Ranges
