-- Values and members of objects as JSON (RFC 8259): no space, numbers in decimal, texts escaped as the kit does it.
use Rattle.std.specs.Prelude.{ℕ, Bool, List, [], ◌∷◌, ◌++◌, Option, Some, None, codes, decimal, if◌then◌else◌}
use Rattle.std.specs.List.{concat, flat_map}
use Rattle.hex.specs.Hex.{encode_lower}
use Rattle.json.specs.Print.{quoted}
use Rattle.qblocks.specs.Input.{input_bytes}
use Rattle.qtext_rows.specs.declared.value.Value.{Value}
use Rattle.qtext_rows.specs.declared.value.Value.TheVariants.{Null, Flag, Number, Wide, Text, Digits}
use Rattle.qtext_rows.specs.declared.part.Part.{Part}
use Rattle.qtext_rows.specs.declared.part.Part.TheVariants.{Open, Member, Nested, Shut, Close}

-- whether something holds
abbrev pub flag_text : Bool → List ℕ
flag_text holds = if holds then codes "true" else codes "false"

-- bytes as a text of lower case hexadecimal digits, none of which needs an escape
abbrev pub digits_text : List ℕ → List ℕ
digits_text bytes = codes "\"" ++ (encode_lower bytes ++ codes "\"")

-- a number, or null where there is none
abbrev pub or_null : Option ℕ → List ℕ
or_null None = codes "null"
or_null (Some n) = decimal n

-- the text of a value
abbrev pub value_text : Value → List ℕ
value_text Null = codes "null"
value_text (Flag holds) = flag_text holds
value_text (Number n) = decimal n
value_text (Wide n) = decimal n
value_text (Text t) = quoted t.now
value_text (Digits bytes) = digits_text (input_bytes bytes)

-- the front of an object of this type
abbrev pub object_start : List ℕ → List ℕ
object_start type = concat (codes "{\"type\":\"" ∷ type ∷ codes "\"" ∷ [])

-- what stands before the value of a further member
abbrev pub key : List ℕ → List ℕ
key name = concat (codes ",\"" ∷ name ∷ codes "\":" ∷ [])

-- a further member
abbrev pub member : List ℕ → List ℕ → List ℕ
member name value = key name ++ value

-- a further member that is an object of this name, but for its end
abbrev pub nested : List ℕ → List ℕ → List ℕ
nested name of = concat (codes ",\"" ∷ name ∷ codes "\":{\"name\":\"" ∷ of ∷ codes "\"" ∷ [])

-- the text of a part of an object
abbrev pub part_text : Part → List ℕ
part_text (Open type) = object_start type.now
part_text (Member name value) = member name.now (value_text value)
part_text (Nested name of) = nested name.now of.now
part_text Shut = codes "}"
part_text Close = codes "}\n"

-- the text of parts, one after the other
abbrev pub parts_text : List Part → List ℕ
parts_text parts = flat_map part_text parts
