-- Lemmas on the definitions of specs/, in files named for their topics.
pub mod Applies
pub mod Done
pub mod Enqueued
pub mod Makes
pub mod NewPasses
pub mod Passes
pub mod Commands
pub mod Grown
pub mod Calls
pub mod Refusals
pub mod Gathers
