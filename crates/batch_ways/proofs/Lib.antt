-- Lemmas on the definitions of specs/, in files named for their topics.
pub mod Fills
pub mod Announces
pub mod Stoppers
