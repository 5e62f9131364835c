-- Lemmas on the definitions of the crates below, in files named for their topics.
pub mod Roomed
