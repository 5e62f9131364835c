-- Lemmas on the definitions of specs/, in files named for their topics.
pub mod Courses
pub mod Totals
pub mod Callers
pub mod Fields
pub mod Openings
pub mod Landings
pub mod Refusals
pub mod Sound
pub mod Shuts
pub mod Begins
pub mod Enqueued
pub mod Schedules
pub mod Runs
pub mod Commands
