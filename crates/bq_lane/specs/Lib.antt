-- A lane over its table.
pub mod Applied
pub mod Made
pub mod Pass
