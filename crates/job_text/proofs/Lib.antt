-- Lemmas on the definitions of specs/, in files named for their topics.
pub mod GrammarLemmas
pub mod CauseLemmas
pub mod JobFileLemmas
pub mod RangeLemmas
pub mod ReplyLemmas
pub mod CanonWords
pub mod CanonLines
pub mod GeneratorLemmas
