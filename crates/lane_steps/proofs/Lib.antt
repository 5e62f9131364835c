-- Lemmas on the definitions of specs/, in files named for their topics.
pub mod Origins
pub mod Sorted
