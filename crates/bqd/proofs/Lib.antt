-- Lemmas on the definitions of specs/, in files named for their topics.
pub mod InputLemmas
pub mod CauseLemmas
pub mod TextLemmas
pub mod RunLemmas
pub mod DrillLemmas
