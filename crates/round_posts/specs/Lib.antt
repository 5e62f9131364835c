-- The rule of the parker, and what is seen of the end that takes.
pub mod Law
pub mod Taking
