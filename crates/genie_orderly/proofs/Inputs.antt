-- Inputs, and the datagrams that devices receive.
pub mod ReceiveSteps
pub mod Receivers
