-- The text of a job file, and the replies to its jobs.
pub mod JobFile
pub mod JobWords
pub mod Grammar
pub mod LineCauses
pub mod Counted
pub mod InProgress
pub mod Reads
pub mod Replies
pub mod Canon
pub mod Generator
