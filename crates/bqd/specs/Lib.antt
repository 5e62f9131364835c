-- What a user meets: the commands, the usage line and the fault lines, and how much is read and written.
pub mod Command
pub mod Usage
pub mod Line
pub mod VerdictLine
pub mod DrillLine
pub mod Due
pub mod Causes
pub mod Status
pub mod Runs
