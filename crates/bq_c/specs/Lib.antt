pub mod Address
pub mod Crossing
pub mod Gathering
