-- In reading order: a file in blocks and back; what an image has of a state, row by row, and the state that is made of
-- rows; rows in their sections; ranks of directories; journals in parts.
pub mod Blocks
pub mod Rows
pub mod Parts
pub mod Ranks
pub mod Chains
