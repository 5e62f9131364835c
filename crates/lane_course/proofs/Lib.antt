-- Lemmas on the definitions of specs/, in files named for their topics.
pub mod Losing
pub mod Advances
pub mod Continues
pub mod Seeks
pub mod Ways
pub mod Begins
