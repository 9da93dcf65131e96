-- Further groups that are read into a room for so many.
use Rattle.std.proofs.Common.{◌≡◌, ℕ, ◌-◌, ◌^◌, ◌≤◌, ◌<◌, Bool, cond, true, false, leb, List, [], ◌∷◌, ◌++◌, length, Option, Some, None, Result, Ok, Err, refl, arith, length-append}
use Rattle.std.proofs.lemmas.Bool.Decides.{nat_tests}
use Rattle.qtext.specs.declared.text_fault.TextKind.{TextKind}
use Rattle.qtext.specs.declared.text_fault.TextKind.TheVariants.{BadCred}
use Rattle.qtext.specs.declared.read_fault.ReadFault.{ReadFault}
use Rattle.qtext.specs.declared.read_fault.ReadFault.TheVariants as faults
use Rattle.qtext.specs.Gives.{Fails}
use Rattle.qtext.specs.Reading.{◌>>=◌, each_of}
use Rattle.qtext.specs.Words.{at_most, id_of, numeral}
use Rattle.qtext.proofs.Loops.{with_front}
use Rattle.qtext_read.specs.Callers.{few_groups_of, groups_of}

-- no other fault than that of a bad caller
abbrev BadAlone : {X : Type 0} → Result X TextKind → Type 0
BadAlone {X} (Ok x) = Unit {0}
BadAlone {X} (Err kind) = kind ≡ BadCred

pub few : (words : List (List ℕ)) (groups : List ℕ) → length groups ≤ 16 → groups_of words ≡ Ok groups
    → few_groups_of words ≡ Ok groups
unfolding few_groups_of
few words groups le is =
    let within : leb (length groups) 16 ≡ true = grind (arith, nat_tests) in
    rw (is, within) refl

pub fails : (words : List (List ℕ)) (fault : ReadFault) → Fails fault (groups_of words) → Fails fault (few_groups_of words)
unfolding few_groups_of
fails words faults.Memory is = tt
fails words (faults.Fault kind) is = rw is refl

at_most_bad : (most : ℕ) (spelled : Option ℕ) → BadAlone (at_most BadCred most spelled)
at_most_bad most None = refl
at_most_bad most (Some n) = by_test (leb n most)
  where
    by_test : (within : Bool) → BadAlone (cond within (Ok n) (Err BadCred))
    by_test true = tt
    by_test false = refl

-- a step and the steps after it
both_bad : {A B : Type 0} (first : Result A TextKind) (others : Result (List B) TextKind) (join : A → List B → List B)
    → BadAlone first → BadAlone others → BadAlone (first >>= λ x. others >>= λ xs. Ok (join x xs))
both_bad (Ok x) (Ok xs) join a b = tt
both_bad (Ok x) (Err kind) join a b = b
both_bad (Err kind) others join a b = a

bad_alone : (words : List (List ℕ)) → BadAlone (groups_of words)
unfolding each_of
bad_alone [] = tt
bad_alone (word ∷ words) =
    both_bad (id_of BadCred word) (groups_of words) (λ x xs. x ∷ xs)
    (at_most_bad (2 ^ 32 - 1) (numeral word)) (bad_alone words)

-- one group more than there is room for, and whatever stands after it
many : (all : List (List ℕ)) (groups : List ℕ) (group : ℕ) (others : Result (List ℕ) TextKind) → length groups ≡ 16
    → BadAlone others → with_front groups (others >>= λ xs. Ok (group ∷ xs)) ≡ groups_of all
    → few_groups_of all ≡ Err BadCred
unfolding few_groups_of
many all groups group (Ok xs) len bad is =
    let more : leb (length (groups ++ group ∷ xs)) 16 ≡ false =
    let long = length-append groups (group ∷ xs) in
    let beyond : 16 < length (groups ++ group ∷ xs) = omega arith in
    grind (arith, nat_tests) in
    rw (← is, more) refl
many all groups group (Err kind) len bad is = rw (← is, bad) refl

pub too_many : (all words rest : List (List ℕ)) (word : List ℕ) (groups : List ℕ) (group : ℕ) → length groups ≡ 16
    → id_of BadCred word ≡ Ok group → rest ≡ word ∷ words → with_front groups (groups_of rest) ≡ groups_of all
    → few_groups_of all ≡ Err BadCred
unfolding each_of
too_many all words rest word groups group len read cut so =
    many all groups group (groups_of words) len (bad_alone words) (rw (cut, read) at so)
