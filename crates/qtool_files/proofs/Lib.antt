-- What a writer holds that refuses to be flushed, what a draft holds, and what comes of a file for boards.
pub mod Drafts
pub mod Flushes
pub mod Boards
