-- Lemmas on the definitions of specs/, in files named for their topics.
pub mod NumberLemmas
pub mod LineLemmas
pub mod WordLemmas
pub mod HexLemmas
pub mod EachLemmas
pub mod FirstCauses
pub mod ReadingLemmas
pub mod IsWordLemmas
pub mod PrintedLines
pub mod PrintedValues
