-- In reading order: lines of a reader, what clients are told, as what that is counted, on which terms they are served,
-- what is known of their streams, what a client says and is told in all; and what no public clause cites.
pub mod BoundedLines
pub mod Responses
pub mod Counted
pub mod Terms
pub mod Turns
pub mod Wires
pub mod Conversations
pub mod Hearings
pub mod Stages
pub mod Talks
