-- In reading order: when a journal and its transcripts tell the same, which boards are a journal's, the numbers of
-- their faults, and the rows of a state; then what is found on the way. A module that no public clause cites says so.
pub mod Gathered
pub mod LawfulBoards
pub mod BoardFaults
pub mod OwnRows
pub mod FirstMismatch
pub mod SeenBoards
