pub mod File
pub mod Input
pub mod WriteRoom
pub mod Row
pub mod Rows
pub mod KeptData
