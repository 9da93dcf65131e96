-- In reading order: values and members, what lines ask for and are answered, lines, records and the rest of an outcome
-- as objects, an outcome as lines of JSON, the report as records of CSV, and an outcome in a format.
pub mod Values
pub mod Calls
pub mod Replies
pub mod Lines
pub mod Records
pub mod Rest
pub mod Json
pub mod Csv
pub mod Formats
