-- The rank of a lane, what callers expect while it is the same, and how a command comes to its end.
pub mod Rank
pub mod Expected
pub mod Weight
pub mod Return
pub mod Runs
