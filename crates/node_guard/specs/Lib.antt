-- Which of a caller's announcements is picked, and what a list of retired rows gives.
pub mod Pick
pub mod Retired
