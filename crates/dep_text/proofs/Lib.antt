-- Lemmas on the definitions of specs/, in files named for their topics.
pub mod GrownLemmas
pub mod LevelLemmas
pub mod SoFarLemmas
pub mod RangeLemmas
pub mod CauseLemmas
