-- What all texts have in common: lines, words, numbers, hex words, and the order of faults.
pub mod Lines
pub mod Words
pub mod Number
pub mod Hex
pub mod Printed
pub mod Cause
pub mod Parts
pub mod Each
pub mod Reading
pub mod LineCauses
pub mod Refusals
