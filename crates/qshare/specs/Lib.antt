-- In reading order: what contracts see of seats, of a lock that is held and of what lies under it; what calls and ends
-- leave; the numbers of faults. A module that no public clause cites says so.
pub mod Seats
pub mod Holds
pub mod Calls
pub mod Ends
pub mod ShareFaults
pub mod Locked
pub mod Waiting
