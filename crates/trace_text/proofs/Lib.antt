-- Lemmas on the definitions of specs/, in files named for their topics.
pub mod HistoryLemmas
pub mod GrammarLemmas
pub mod JudgingLemmas
pub mod LegalLemmas
pub mod PlayLemmas
pub mod ShapeLemmas
pub mod PrintLemmas
pub mod ReadBack
pub mod PrintedLegal
pub mod ShutWords
