-- What is there in edition 2 alone.
use Rattle.std.proofs.Common.{◌≡◌, Bool, true, false, refl}
use Rattle.std.proofs.lemmas.Bool.{or_parts}
use Rattle.qplain.specs.declared.edition.Edition.{Edition}
use Rattle.qplain.specs.declared.edition.Edition.TheVariants.{One, Two}
use Rattle.qplain.specs.declared.entry.Entry.{Entry}
use Rattle.qplain.specs.Projects.{call_names_project, is_of_edition, reply_names_project}
use Rattle.qtext.proofs.Joining.{not_true}

-- it is not so in edition 1
abbrev pub OnlyInTwo : Edition → Bool → Type 0
OnlyInTwo edition b = edition ≡ One → b ≡ false

-- edition 2 may have it
pub in_two : (b : Bool) → OnlyInTwo Two b
in_two b old = absurd (cc old)

-- what an entry of an edition names, its call and its reply do
pub parts_of_edition : (edition : Edition) (e : Entry) → is_of_edition edition e ≡ true
    → OnlyInTwo edition (call_names_project e.call) × OnlyInTwo edition (reply_names_project e.reply)
parts_of_edition One e is =
    let none = or_parts (call_names_project e.call) (reply_names_project e.reply) (not_true _ is) in
    (λ _. none.0, λ _. none.1)
parts_of_edition Two e is = (in_two (call_names_project e.call), in_two (reply_names_project e.reply))

-- an entry whose call and reply are of an edition is of it
pub is_of_its_edition : (edition : Edition) (e : Entry) → OnlyInTwo edition (call_names_project e.call)
    → OnlyInTwo edition (reply_names_project e.reply) → is_of_edition edition e ≡ true
is_of_its_edition One e call reply = rw (call refl, reply refl) refl
is_of_its_edition Two e call reply = refl
