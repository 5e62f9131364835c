-- What the desks of a set of lanes show.
pub mod Seats
pub mod Rows
pub mod Rest
