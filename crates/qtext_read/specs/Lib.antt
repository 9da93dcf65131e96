-- In reading order: callers, arguments, the table of calls, words judged one by one, calls; how they are spelled
-- out; replies, written, read and spelled out.
pub mod Callers
pub mod Arguments
pub mod Rows
pub mod Judged
pub mod Calls
pub mod Journaled
pub mod Spelling
pub mod Replies
pub mod RepliesRead
pub mod RepliesSpelled
