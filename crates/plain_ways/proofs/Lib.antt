-- Lemmas on the definitions of specs/, in files named for their topics.
pub mod Looks
pub mod Finishes
pub mod Dequeues
pub mod Puts
