-- Lemmas on the definitions of specs/, in files named for their topics.
pub mod CutLemmas
pub mod FindLemmas
pub mod RoundLemmas
pub mod ReaderLemmas
pub mod LongLemmas
