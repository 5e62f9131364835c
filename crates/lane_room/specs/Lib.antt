-- How many rows of a caller can be in use, and what is known where a search for one fails.
pub mod Busy
pub mod Share
pub mod Search
pub mod Roomy
