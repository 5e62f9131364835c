-- Lemmas on the definitions of specs/, in files named for their topics.
pub mod Named
pub mod AnswerLemmas
pub mod LevelFiles
pub mod Puts
pub mod Reached
pub mod Replied
pub mod Files
pub mod Rounds
pub mod PlainLemmas
