-- In reading order: what a session holds, what a call makes of it, by which numbers that is told, what the structs
-- that cross to other languages stand for, and how a session tells of itself, of its inodes and of its names. A module
-- that no public clause cites says so.
pub mod Holdings
pub mod Recorded
pub mod Steps
pub mod Answers
pub mod Codes
pub mod Faults
pub mod Brought
pub mod Called
pub mod Requests
pub mod BorrowedCalls
pub mod Replies
pub mod ReadReplies
pub mod Tellings
pub mod Inodes
pub mod Names
pub mod Slots
