-- In reading order: how an image is spelled out; a row as words; the setup that a state tells of; what is wrong with a
-- row, and with all at the end; what an image says; what the types of rows can hold; the laws, and worked examples;
-- what is wrong with one row more.
pub mod Spelling
pub mod RowsRead
pub mod Setups
pub mod Faults
pub mod Counts
pub mod Images
pub mod Held
pub mod Laws
pub mod Examples
pub mod FaultExamples
pub mod NextFaults
