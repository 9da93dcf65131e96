-- What parts of an expansion answer, seen as lists of bytes.
use Rattle.std.specs.Prelude.{◌≡◌, ◌⊎◌, ℕ, List, map, Result, Ok, Err}
use Rattle.std.specs.Global.{Global}
use Rattle.std.specs.declared.vec.Vec.{Vec}
use Rattle.qtext.specs.declared.read_fault.ReadFault.{ReadFault}
use Rattle.qtext.specs.declared.text_fault.TextFault.{TextFault}
use Rattle.qtext.specs.declared.text_fault.TextKind.{TextKind}
use Rattle.qtext.specs.Gives.{Fails}
use Rattle.qtext.specs.TextFaults.{want_of_memory}

-- what was answered, seen so, is what there is, or its fault, unless memory ran out
abbrev pub GivesBy : {X Y : Type 0} → (X → Y) → Result X ReadFault → Result Y TextKind → Type 0
GivesBy view (Ok x) given = given ≡ Ok (view x)
GivesBy view (Err fault) given = Fails fault given

-- the same of texts
abbrev pub GivesTexts : Result (Vec (Vec ℕ Global) Global) ReadFault → Result (List (List ℕ)) TextKind → Type 0
GivesTexts answer given = GivesBy (λ texts. map (λ text. text.items) texts.items) answer given

-- what was answered, as bytes, is what a text says, unless memory ran out
abbrev pub ReadsBytes : Result (Vec ℕ Global) TextFault → Result (List ℕ) TextFault → Type 0
ReadsBytes (Ok bytes) said = said ≡ Ok bytes.items
ReadsBytes (Err fault) said = (fault ≡ want_of_memory) ⊎ (said ≡ Err fault)

-- these bytes were answered
abbrev pub AreBytes : Result (Vec ℕ Global) TextFault → List ℕ → Type 0
AreBytes (Ok bytes) text = bytes.items ≡ text
AreBytes (Err fault) text = ⊥
