-- A stream of job files that are parted by lines of the word `go`, and what it is served with.
pub mod Stream
pub mod Rounds
pub mod Served
pub mod Cutting
pub mod Reading
pub mod Coming
