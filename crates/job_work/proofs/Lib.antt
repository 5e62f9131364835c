-- Lemmas on the definitions of specs/, in files named for their topics.
pub mod Joined
pub mod Rising
pub mod WordCounts
pub mod WordLaws
