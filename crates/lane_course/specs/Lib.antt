-- What a call has at hand, and what comes after a step of it.
pub mod Scratch
pub mod Next
pub mod Running
pub mod Along
pub mod Led
