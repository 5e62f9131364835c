-- Lemmas on the definitions of specs/, in files named for their topics.
pub mod Single
pub mod Links
pub mod RowSteps
pub mod Helps
