-- What the proofs of more than one file share: of one transcript's receipts, then of all transcripts; of boards; then
-- rows of a table, numbers in order, names in any order, and the three parts of an audit of a state's own rows.
pub mod Receipts
pub mod Mismatches
pub mod SeenBoards
pub mod Rows
pub mod Ids
pub mod AnyOrder
pub mod Uses
pub mod Owners
pub mod Links
pub mod Agree
