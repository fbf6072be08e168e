-- What receive steps store.
pub mod OtherBytes
pub mod Payloads
pub mod ReceiveSteps
pub mod StoredBytes
