-- Lemmas on these definitions, for proofs here and above.
pub mod Causes
pub mod Ends
pub mod FreshNumbers
pub mod Lists
pub mod OnlyRegions
pub mod PendingCalls
pub mod ReceiveSteps
pub mod RegionCounts
pub mod SendQueues
pub mod Steps
