-- The text of a history, and what is found of it.
pub mod Claims
pub mod HistoryText
pub mod Verdicts
pub mod Legal
pub mod Judging
pub mod Refusals
pub mod Shapes
pub mod Kinds
pub mod Played
pub mod PlayState
pub mod ScheduleText
pub mod Printed
pub mod Ranges
