-- Lemmas on the definitions of specs/, in files named for their topics.
pub mod Pending
pub mod Names
pub mod Kept
pub mod Whole
pub mod Evaluated
pub mod Faults
pub mod Tickets
