-- Lemmas on the definitions of specs/, in files named for their topics.
pub mod BegunBatches
pub mod InTurn
pub mod LatestMade
pub mod LatestOfCallers
pub mod Strong
