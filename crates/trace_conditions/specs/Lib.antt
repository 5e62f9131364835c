-- Stamps, and the conditions on an order of operations with futures.
pub mod Conditions
pub mod Spans
pub mod Stamps
