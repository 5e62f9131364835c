-- The rule of a lane's table.
pub mod Rule
pub mod Goes
pub mod Begun
pub mod Seating
pub mod Plays
