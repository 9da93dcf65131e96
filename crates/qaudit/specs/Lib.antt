-- In reading order: the recount of any rows, its differences from the records, the texts of reports and of audits.
pub mod Recount
pub mod Differences
pub mod Reports
pub mod Audits
pub mod Owners
