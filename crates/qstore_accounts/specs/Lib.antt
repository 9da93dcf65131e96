-- In reading order. A module that no public clause cites says so.
pub mod KeptHolders
pub mod Claims
pub mod Books
pub mod Callers
pub mod Bills
pub mod Replacements
pub mod Parts
pub mod Rows
pub mod Ledgers
pub mod Decisions
pub mod Boards
pub mod Pushed
pub mod Kept
