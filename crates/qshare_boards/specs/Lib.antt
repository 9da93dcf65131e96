-- In reading order: boards of histories, what a reader may rely on in a board, what is published, and what readers have
-- seen. A module that no public clause cites says so.
pub mod Boards
pub mod Whole
pub mod Looks
pub mod Laws
pub mod Sheets
pub mod Views
