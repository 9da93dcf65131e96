-- What the proofs of more than one file share: entries in key order, tables, the names in all directories, the tree, rows;
-- then what the crates above cite of directories.
pub mod InOrder
pub mod Read
pub mod Numbered
pub mod Bytes
pub mod AllNames
pub mod NoNames
pub mod TreeChanges
pub mod Changed
pub mod Pushed
pub mod Shuffled
pub mod Sorted
pub mod Gathered
pub mod Rows
pub mod Listed
pub mod Directories
