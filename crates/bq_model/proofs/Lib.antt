-- Lemmas on the definitions of specs/, in files named for their topics.
pub mod Histories
pub mod Growing
pub mod Values
pub mod QueuedItems
pub mod ComingLemmas
pub mod NoShuts
pub mod OpenQueues
