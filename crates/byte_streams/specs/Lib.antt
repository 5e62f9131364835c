-- What is written of a text where a write fails, and what a call did to a stream.
pub mod Output
pub mod Streams
