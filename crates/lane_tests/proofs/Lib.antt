-- Lemmas of the tests, in files named for their topics.
pub mod Lasts
