-- The machine's state as contracts see it.
pub mod Words
pub mod Calls
pub mod Due
pub mod Refused
pub mod Lists
pub mod Machine
pub mod Commands
pub mod Schedule
pub mod Started
