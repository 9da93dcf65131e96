-- A walk that is made one name after another.
use Rattle.std.proofs.Common.{◌≡◌, ℕ, ◌-◌, ◌<◌, ◌==◌, ◌||◌, Bool, false, List, [], ◌∷◌, length, take, fold, Option, Some, None, is_some, true, Result, Ok, Err, refl, sym, ap, subst, ◌∙◌, arith}
use Rattle.std.specs.List.{slice_split}
use Rattle.std.specs.Result.{IfErr}
use Rattle.std.proofs.lemmas.List.Splits.{length-slice_split}
use Rattle.qplain.specs.declared.refusal.Refusal.{Refusal}
use Rattle.qplain.specs.declared.bounds.TheConstants.{ROOT}
use Rattle.qplain.specs.State.{State}
use Rattle.qplain.specs.Walk.{as_directory, follow, last_name}
use Rattle.qplain.specs.Attempt.{Attempt, Refuse, in_reached, under}
use Rattle.qplain_laws.proofs.Meeting.{meets_from, meets_from-first}
use Rattle.qstore_walk.specs.Parents.{parent}

-- what is so of a fault is so of the result that it is
pub told-fault : {A : Type 0} (P : Refusal → Type 0) (result : Result A Refusal) (refusal : Refusal) → result ≡ Err refusal → P refusal → IfErr result P
told-fault {A = A} P result refusal is told = subst (λ (r : Result A Refusal). IfErr r P) (sym is) told

-- what is reached from here, where one name waits and the last of all is not followed
abbrev pub parent_from : State → Result ℕ Refusal → List ℕ → List (List ℕ) → Result ℕ Refusal
parent_from S reached name [] = reached
parent_from S reached name (next ∷ names) = parent_from S (follow S reached name) next names

parent_from-fold : (S : State) (reached : Result ℕ Refusal) (name : List ℕ) (names : List (List ℕ))
    → fold (follow S) reached (take (length names) (name ∷ names)) ≡ parent_from S reached name names
parent_from-fold S reached name [] = refl
parent_from-fold S reached name (next ∷ names) = parent_from-fold S (follow S reached name) next names

-- the names but the last, followed from the root
pub parent-from : (S : State) (name : List ℕ) (names : List (List ℕ)) → parent S (name ∷ names) ≡ parent_from S (Ok ROOT) name names
parent-from S name names =
    let less : length (name ∷ names) - 1 ≡ length names = omega arith in
    ap (λ n. fold (follow S) (Ok ROOT) (take n (name ∷ names))) less ∙ parent_from-fold S (Ok ROOT) name names

-- the first fault stays here, too
pub parent_from-fault : (S : State) (refusal : Refusal) (name : List ℕ) (names : List (List ℕ)) → parent_from S (Err refusal) name names ≡ Err refusal
parent_from-fault S refusal name [] = refl
parent_from-fault S refusal name (next ∷ names) = parent_from-fault S refusal next names

stops : (S : State) (reached : Result ℕ Refusal) (name : List ℕ) (refusal : Refusal) (parts : List (List ℕ)) → 0 < length parts
    → follow S reached name ≡ Err refusal → parent_from S reached name parts ≡ Err refusal
stops S reached name refusal [] some fault = absurd (omega (arith, some))
stops S reached name refusal (next ∷ names) some fault = ap (λ r. parent_from S r next names) fault ∙ parent_from-fault S refusal next names

-- a fault at the name that waits is that of the whole walk, since parts follow it
pub parent_from-stops : (S : State) (reached : Result ℕ Refusal) (name : List ℕ) (refusal : Refusal) (p : ℕ → Bool) (rest : List ℕ)
    → follow S reached name ≡ Err refusal → parent_from S reached name (slice_split p rest) ≡ Err refusal
parent_from-stops S reached name refusal p rest fault = stops S reached name refusal (slice_split p rest) (omega (arith, length-slice_split p rest)) fault

-- ---- the parent of a path's last component

-- there is a last name where there is one
some-last : (names : List (List ℕ)) → 0 < length names → is_some (last_name names) ≡ true
some-last [] some = absurd (omega (arith, some))
some-last (name ∷ []) some = refl
some-last (name ∷ next ∷ rest) some = some-last (next ∷ rest) (omega arith)

under-fault : (S : State) (of_root : Refusal) (try : ℕ → List ℕ → Attempt) (names : List (List ℕ)) (refusal : Refusal) (last : Option (List ℕ))
    → is_some last ≡ true → parent S names ≡ Err refusal → under S of_root try names last ≡ Refuse refusal
under-fault S of_root try names refusal None some fault = cc
under-fault S of_root try names refusal (Some name) some fault = ap (λ r. in_reached try name (as_directory S r)) fault

-- a fault of the walk to the parent is the call's
pub parent-fault : (S : State) (of_root : Refusal) (try : ℕ → List ℕ → Attempt) (p : ℕ → Bool) (bytes : List ℕ) (refusal : Refusal)
    → parent S (slice_split p bytes) ≡ Err refusal → under S of_root try (slice_split p bytes) (last_name (slice_split p bytes)) ≡ Refuse refusal
parent-fault S of_root try p bytes refusal fault =
    let some : 0 < length (slice_split p bytes) = omega (arith, length-slice_split p bytes) in
    under-fault S of_root try (slice_split p bytes) refusal (last_name (slice_split p bytes)) (some-last (slice_split p bytes) some) fault

-- ---- what the walk to the parent of a path's last component meets

-- after a fault it meets nothing
meets_from-fault : (S : State) (number : ℕ) (refusal : Refusal) (names : List (List ℕ)) → meets_from S number (Err refusal) names ≡ false
meets_from-fault S number refusal [] = refl
meets_from-fault S number refusal (name ∷ rest) = meets_from-first S number (Err refusal) name rest ∙ meets_from-fault S number refusal rest

module _ (S : State) (number reached : ℕ) (names : List (List ℕ)) (name : List ℕ) (rest : List (List ℕ)) (parts : names ≡ name ∷ rest) where
  first : meets_from S number (Ok reached) names ≡ (reached == number || meets_from S number (follow S (Ok reached) name) rest)
  first = ap (meets_from S number (Ok reached)) parts ∙ meets_from-first S number (Ok reached) name rest

  -- what is reached is met
  pub meets_from-here : (reached == number) ≡ true → meets_from S number (Ok reached) names ≡ true
  meets_from-here here = first ∙ ap (λ b. b || meets_from S number (follow S (Ok reached) name) rest) here

  -- else what is met after it is
  pub meets_from-on : (next : ℕ) → (reached == number) ≡ false → follow S (Ok reached) name ≡ Ok next
      → meets_from S number (Ok reached) names ≡ meets_from S number (Ok next) rest
  meets_from-on next other step =
      first ∙ (λ i. other i || meets_from S number (step i) rest)

  -- and nothing where the walk ends in a fault
  pub meets_from-stops : (refusal : Refusal) → (reached == number) ≡ false → follow S (Ok reached) name ≡ Err refusal
      → meets_from S number (Ok reached) names ≡ false
  meets_from-stops refusal other fault =
      first ∙ (λ i. other i || meets_from S number (fault i) rest) ∙ meets_from-fault S number refusal rest
