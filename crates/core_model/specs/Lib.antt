-- What is true of a lane at every moment.
pub mod Ghost
pub mod Kept
pub mod Chosen
pub mod Once
pub mod Ended
pub mod Alone
pub mod Noted
pub mod Rows
pub mod Facts
pub mod Lawful
pub mod Held
pub mod Shown
pub mod Saying
pub mod Few
pub mod Uses
