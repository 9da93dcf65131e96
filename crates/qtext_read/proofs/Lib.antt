-- What edition 1 lacks; that arguments, callers, calls and replies that are spelled out are read again, that what was read is spelled so, and that
-- the text of a reply is its words.
pub mod Editions
pub mod ArgumentsAgain
pub mod CallersAgain
pub mod CallsAgain
pub mod RepliesAgain
pub mod JournaledAgain
pub mod RepliesJoined
pub mod ArgumentsFound
pub mod CallersFound
pub mod CallsFound
pub mod RepliesFound
mod FewGroups
pub mod Judged
pub mod UpperLanes
