-- Lemmas on orderly states, for proofs here and above.
pub mod AcceptedCalls
pub mod AcceptedEvents
pub mod AddedRegions
pub mod BufferRegions
pub mod ChangedRegions
pub mod ChangedTransfers
pub mod FoundRegions
pub mod Growth
pub mod KeptCalls
pub mod KeptSent
pub mod NamedRanges
pub mod NamingTransfers
pub mod Receivers
pub mod RegionNumbers
