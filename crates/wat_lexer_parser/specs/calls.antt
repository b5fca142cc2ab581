-- Sequences of calls, their replies, and the state after them.
pub mod Calls
