use Rattle.std.proofs.Common.{rules, ◌≡◌, ℕ, ◌<◌, List, [], ◌∷◌, length, Err, refl, arith}
use Rattle.qtext.specs.declared.text_fault.TextKind.TheVariants.{BadCred}
use Rattle.qtext.specs.Words.{parts}
use Rattle.qtext_read.specs.Callers.{own_ids_of, own_ids_in}
use Rattle.qtext.proofs.Splitting.{only_part, next_part, some_part}
use Rattle.qtext_read.proofs.caller.own_ids_of.Goals as goal

no_gid : (text u : List ℕ) → parts 58 text ≡ u ∷ [] → own_ids_of (parts 58 text) ≡ Err BadCred
unfolding own_ids_of
no_gid text u e = rw e refl

both_ids : (text u after g : List ℕ) → parts 58 text ≡ u ∷ parts 58 after → parts 58 after ≡ g ∷ [] → own_ids_of (parts 58 text) ≡ own_ids_in u g
unfolding own_ids_of
both_ids text u after g e f = rw (e, f) refl

three : (u g : List ℕ) (ps : List (List ℕ)) → 0 < length ps → own_ids_of (u ∷ g ∷ ps) ≡ Err BadCred
unfolding own_ids_of
three u g [] lt = absurd (omega arith)
three u g (p ∷ ps) lt = refl

more_parts : (text u after g last : List ℕ) → parts 58 text ≡ u ∷ parts 58 after → parts 58 after ≡ g ∷ parts 58 last → own_ids_of (parts 58 text) ≡ Err BadCred
more_parts text u after g last e f = rw (e, f) (three u g (parts 58 last) (some_part 58 last))

pub returns-in_default : goal.returns-in_default
returns-in_default c = no_gid c.args.text.now _ (only_part (λ t. t.now) 58 c.args.text.now _ _ c.first_part.ensures.parts c.in_default.is)

pub returns-in_err-id_of-in-None : goal.returns-in_err-id_of-in-None
unfolding own_ids_in
returns-in_err-id_of-in-None c =
    let one = next_part (λ t. t.now) 58 c.args.text.now _ _ _ c.first_part.ensures.parts c.in-Some.is in
    let two = only_part (λ t. t.now) 58 c.in-Some.after.now _ _ c.first_part-2.ensures.parts c.in-None.is in
    rw (both_ids c.args.text.now _ c.in-Some.after.now _ one two) (search rules)

pub returns-in_err-id_of-in-None-2 : goal.returns-in_err-id_of-in-None-2
unfolding own_ids_in
returns-in_err-id_of-in-None-2 c =
    let one = next_part (λ t. t.now) 58 c.args.text.now _ _ _ c.first_part.ensures.parts c.in-Some.is in
    let two = only_part (λ t. t.now) 58 c.in-Some.after.now _ _ c.first_part-2.ensures.parts c.in-None.is in
    rw (both_ids c.args.text.now _ c.in-Some.after.now _ one two) (search rules)

pub returns-in_ok-id_of-in-None-2 : goal.returns-in_ok-id_of-in-None-2
unfolding own_ids_in
returns-in_ok-id_of-in-None-2 c =
    let one = next_part (λ t. t.now) 58 c.args.text.now _ _ _ c.first_part.ensures.parts c.in-Some.is in
    let two = only_part (λ t. t.now) 58 c.in-Some.after.now _ _ c.first_part-2.ensures.parts c.in-None.is in
    rw (both_ids c.args.text.now _ c.in-Some.after.now _ one two) (search rules)

pub returns-in-Some-after : goal.returns-in-Some-after
returns-in-Some-after c =
    let one = next_part (λ t. t.now) 58 c.args.text.now _ _ _ c.first_part.ensures.parts c.in-Some.is in
    let two = next_part (λ t. t.now) 58 c.in-Some.after.now _ _ _ c.first_part-2.ensures.parts c.in-Some-after.is in
    more_parts c.args.text.now _ c.in-Some.after.now _ c.in-Some-after.field-0.now one two
