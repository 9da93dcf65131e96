-- A line's caller and call as members of its object (profile).
use Rattle.std.specs.Prelude.{ℕ, List, [], ◌∷◌, codes, decimal, map}
use Rattle.std.specs.List.{concat, flat_map, zip}
use Rattle.json.specs.Print.{quoted}
use Rattle.qplain.specs.Caller.{Caller}
use Rattle.qplain.specs.declared.call.Call.{Call}
use Rattle.qtext.specs.RuleWords.{kind_text}
use Rattle.qtext_read.specs.declared.row.Verb.{Verb}
use Rattle.qtext_read.specs.declared.row.Verb.TheVariants as verb
use Rattle.qtext_read.specs.Rows.{Value, PathValue, DataValue, NumberValue, KindValue, OwnerValue, ProjectValue, name, row}
use Rattle.qtext_read.specs.Calls.{Of, Parts, parts_of}
use Rattle.qtext_read.specs.Spelling.{caller_text}
use Rattle.qtext_read.specs.Rows.{verb_text}
use Rattle.qtext_rows.specs.Values.{digits_text, member, nested, or_null}

-- what stands in the place of an argument: null for an owner that stays
abbrev pub argument_text : Value → List ℕ
argument_text (PathValue path) = quoted path
argument_text (DataValue bytes) = digits_text bytes
argument_text (NumberValue n) = decimal n
argument_text (KindValue kind) = quoted (kind_text kind)
argument_text (OwnerValue owner) = or_null owner
argument_text (ProjectValue project) = or_null project

-- a call of this verb, with these texts in the places of its arguments, each by the argument's name
abbrev pub named_call : Verb → List (List ℕ) → List ℕ
named_call v texts = concat (nested (codes "call") (verb_text v)
    ∷ flat_map (λ p. member (name p.0) p.1) (zip (row v) texts) ∷ codes "}" ∷ [])

-- a verb and what stands in the places of its arguments
abbrev pub parts_members : Parts → List ℕ
parts_members (Of v values) = named_call v (map argument_text values)

-- a call: its name and its arguments by theirs
abbrev pub call_members : Call → List ℕ
call_members call = parts_members (parts_of call)

-- a write of N equal bytes, as the fill that asks for it
abbrev pub fill_members : List ℕ → ℕ → ℕ → ℕ → List ℕ
fill_members path off count byte =
    parts_members (Of verb.Fill (PathValue path ∷ NumberValue off ∷ NumberValue count ∷ DataValue (byte ∷ []) ∷ []))

-- the moment and the caller of a line
abbrev pub caller_members : ℕ → Caller → List ℕ
caller_members moment caller = concat (member (codes "moment") (decimal moment)
    ∷ member (codes "caller") (quoted (caller_text caller)) ∷ [])
