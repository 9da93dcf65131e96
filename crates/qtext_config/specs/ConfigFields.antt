-- The fields of a table of a configuration.
use Rattle.std.specs.Prelude.{ℕ, ℤ, pos, negsuc, List, [], ◌∷◌, Option, Some, None, option_and_then, option_map, Result, Ok}
use Rattle.std.specs.Prelude.{Err}
use Rattle.toml.specs.Data.{Data, Items, Members, no_items, item, as_str, as_integer, as_array, as_table, get_member}
use Rattle.qtext.specs.Reading.{◌>>=◌, each_of}
use Rattle.qtext_config.specs.ConfigFaults.{Cause, Field, Range}

-- what is there, or else the key is at fault
abbrev pub found : {A : Type 0} → List ℕ → Option A → Result A Cause
found key (Some value) = Ok value
found key None = Err (Field key)

-- the text that stands at the key
unfoldable pub text_at : List ℕ → Members → Result (List ℕ) Cause
text_at key table = found key (option_and_then as_str (get_member key table))

-- the integer that stands at the key
unfoldable pub integer_at : List ℕ → Members → Result ℤ Cause
integer_at key table = found key (option_and_then as_integer (get_member key table))

-- the integer at the key, if anything stands there
abbrev pub integer_if_any : List ℕ → Members → Option Data → Result (Option ℤ) Cause
integer_if_any key table None = Ok None
integer_if_any key table (Some value) = do
  integer ← integer_at key table
  Ok (Some integer)

-- the integer at a key that may be absent
unfoldable pub optional_integer_at : List ℕ → Members → Result (Option ℤ) Cause
optional_integer_at key table = integer_if_any key table (get_member key table)

-- the number that an integer is; a negative one is out of range
abbrev pub number_of : ℤ → Result ℕ Cause
number_of (pos n) = Ok n
number_of (negsuc n) = Err Range

-- the integer of a limit: 0 where nothing stands
abbrev pub limit_of : List ℕ → Option Data → Result ℤ Cause
limit_of key None = Ok (pos 0)
limit_of key (Some value) = found key (as_integer value)

-- the limit that stands at the key, 0 where the key is absent
unfoldable pub limit_at : List ℕ → Members → Result ℤ Cause
limit_at key table = limit_of key (get_member key table)

-- the values of a list in their order
abbrev pub values_at : Items → List Data
values_at no_items = []
values_at (item value others) = value ∷ values_at others

-- the values of what is a list
abbrev pub list_of : List ℕ → Option Data → Result (List Data) Cause
list_of key value = found key (option_map values_at (option_and_then as_array value))

-- the list that stands at the key
unfoldable pub list_at : List ℕ → Members → Result (List Data) Cause
list_at key table = list_of key (get_member key table)

-- a table of the list at the key; where it is no table, the list is at fault
abbrev pub table_of : List ℕ → Data → Result Members Cause
table_of key value = found key (as_table value)

-- the tables of the list that stands at the key
unfoldable pub tables_at : List ℕ → Members → Result (List Members) Cause
tables_at key table = do
  list ← list_at key table
  each_of (table_of key) list

-- the tables of the list that stands at the key, if one does: none where nothing stands
abbrev pub tables_if_any : List ℕ → Members → Option Data → Result (List Members) Cause
tables_if_any key table None = Ok []
tables_if_any key table (Some value) = tables_at key table

-- the tables of the list at a key that may be absent
unfoldable pub optional_tables_at : List ℕ → Members → Result (List Members) Cause
optional_tables_at key table = tables_if_any key table (get_member key table)
