-- In reading order: lines of counts, looks at the boards, outcomes of runs, and how they are told: as of which moment,
-- beside which calls, in which units, under which view, and which lines were refused or failed.
pub mod Counts
pub mod Boards
pub mod Outcomes
pub mod Moments
pub mod Calls
pub mod Units
pub mod Reports
pub mod Views
pub mod Denials
