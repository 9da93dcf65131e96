-- The digits of a size, the keys of tables, lists of tables.
pub mod ConfigDigits
pub mod ConfigKeyLaws
pub mod ConfigLaws
