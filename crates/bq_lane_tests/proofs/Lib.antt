-- Lemmas that the tests share.
pub mod Lasts
pub mod Pushes
