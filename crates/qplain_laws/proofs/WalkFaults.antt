-- No walk is refused for want of space or of quota.
use Rattle.std.proofs.Common.{◌≡◌, ℕ, ◌-◌, true, false, cond, List, [], ◌∷◌, length, take, fold, Option, Some, None, Result, Ok, Err, refl}
use Rattle.qplain.specs.declared.bounds.TheConstants.{ROOT}
use Rattle.qplain.specs.declared.refusal.Refusal.{Refusal}
use Rattle.qplain.specs.declared.refusal.Refusal.TheVariants.{ENOTDIR}
use Rattle.qplain.specs.State.{State, is_directory, named}
use Rattle.qplain.specs.Walk.{as_directory, follow, led_to, parent, walk}
use Rattle.qplain_laws.specs.Laws.{is_for_limits}

-- a walk is refused for no limit
abbrev pub Plain : Result ℕ Refusal → Type 0
Plain (Ok n) = Unit {0}
Plain (Err r) = is_for_limits r ≡ false

pub led_to-plain : (o : Option ℕ) → Plain (led_to o)
led_to-plain None = refl
led_to-plain (Some n) = tt

module _ (S : State) where
  follow-plain : (r : Result ℕ Refusal) (name : List ℕ) → Plain r → Plain (follow S r name)
  follow-plain (Err e) name h = h
  follow-plain (Ok d) name h =
      elim (is_directory S d) as (λ b. Plain (cond b (led_to (named S d name)) (Err ENOTDIR))) [
        | true ↦ led_to-plain (named S d name)
        | false ↦ refl
      ]

  pub walk-plain : (r : Result ℕ Refusal) (names : List (List ℕ)) → Plain r → Plain (fold (follow S) r names)
  walk-plain r [] h = h
  walk-plain r (name ∷ rest) h = walk-plain (follow S r name) rest (follow-plain r name h)

  as_directory-plain : (r : Result ℕ Refusal) → Plain r → Plain (as_directory S r)
  as_directory-plain (Err e) h = h
  as_directory-plain (Ok d) h = elim (is_directory S d) as (λ b. Plain (cond b (Ok d) (Err ENOTDIR))) [ true ↦ tt | false ↦ refl ]

  -- nor is a walk to a parent
  pub parent-plain : (names : List (List ℕ)) → Plain (parent S names)
  parent-plain names =
      as_directory-plain (walk S (take (length names - 1) names)) (walk-plain (Ok ROOT) (take (length names - 1) names) tt)
