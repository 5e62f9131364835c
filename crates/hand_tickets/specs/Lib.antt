-- What a hand holds between its rounds.
pub mod Holds
