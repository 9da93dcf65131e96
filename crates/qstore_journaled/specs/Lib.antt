-- In reading order: what contracts see of a journaled store, what it is taken apart into, and when a call that is ready
-- may be carried out. A module that no public clause cites says so.
pub mod Journaled
pub mod Taken
pub mod Lines
pub mod Next
pub mod KeptJournaled
pub mod Origins
