-- In reading order: what workers leave, where the answers to their lines stand, transcripts whose lines and replies
-- stand in a journal alone, what a replay leaves, and the numbers of its faults. A module that no public clause cites
-- says so.
pub mod Runs
pub mod Places
pub mod Placed
pub mod Replays
pub mod ReplayFaults
pub mod Left
pub mod KeptPlaces
