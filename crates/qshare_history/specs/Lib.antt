-- In reading order: what tells stores apart, prefixes of a history, its moments, what was counted. A module that no
-- public clause cites says so.
pub mod StoreIds
pub mod Histories
pub mod Moments
pub mod Counted
pub mod Shares
pub mod Laws
