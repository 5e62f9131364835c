-- Lemmas on the definitions of specs/, in files named for their topics.
pub mod SizeLemmas
pub mod PackingLemmas
pub mod LayoutLemmas
pub mod HomeLemmas
pub mod OrderLemmas
pub mod ContentLemmas
pub mod MemoryLemmas
