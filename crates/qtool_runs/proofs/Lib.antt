-- The first text that is no script.
pub mod Readers
-- What is answered for a text that is replayed.
pub mod TextReplays
-- The journal of a service of one client.
pub mod Hosts
