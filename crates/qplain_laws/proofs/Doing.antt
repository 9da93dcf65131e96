-- What a call that is done has done.
use Rattle.std.proofs.Common.{◌≡◌, ℕ, ◌-◌, Bool, true, false, cond, List, [], ◌∷◌, length, take, fold, Option, Some, None, Result, Ok, Err, refl, sym, ap, ◌∙◌}
use Rattle.qplain.specs.declared.bounds.TheConstants.{ROOT}
use Rattle.qplain.specs.declared.change.Change.{Change}
use Rattle.qplain.specs.declared.refusal.Refusal.{Refusal}
use Rattle.qplain.specs.declared.refusal.Refusal.TheVariants.{ENOTDIR}
use Rattle.qplain.specs.declared.reply.Reply.TheVariants.{Done}
use Rattle.qplain.specs.State.{Inode, State, inode_at, is_directory, named}
use Rattle.qplain.specs.Walk.{as_directory, components, follow, last_name, led_to, parent, walk}
use Rattle.qplain.specs.Decision.{ends_after}
use Rattle.qplain.specs.Attempt.{Attempt, Refuse, Answer, Becomes, at_inode, at_name, at_path, at_reached, in_parent, in_reached, under}
use Rattle.qplain_laws.specs.Done.{LeadsNowhere, LeadsTo}
use Rattle.qplain_laws.proofs.Moving.{as-ok, parent-ok}
use Rattle.qplain_laws.proofs.Trying.{led_to-ok}
use Rattle.qplain_laws.proofs.Walking.{parent-from_root, parent_from}
use Rattle.qplain_laws.proofs.Reaching.{walk-kept}

-- ---- where a path leads by its parent

-- the path's last name is this one, in this directory
pub record IsPlace (S : State) (path : List ℕ) (dir : ℕ) (name : List ℕ) : Type 0 where
  pub parent : parent S (components path) ≡ Ok dir
  pub last : last_name (components path) ≡ Some name

-- a walk from what was reached ends where the last name leads
walk-last : (S : State) (r : Result ℕ Refusal) (names : List (List ℕ)) (dir : ℕ) (name : List ℕ) → parent_from S r names ≡ Ok dir
    → last_name names ≡ Some name → fold (follow S) r names ≡ led_to (named S dir name)
walk-last S r [] dir name h last = cc
walk-last S (Err e) (nm ∷ []) dir name h last = cc
walk-last S (Ok d) (nm ∷ []) dir name h last =
    let parts = as-ok S d dir h in
    let same : nm ≡ name = cc in
    (λ i. cond (parts.0 i) (led_to (named S (parts.1 i) (same i))) (Err ENOTDIR))
walk-last S r (nm ∷ next ∷ rest) dir name h last = walk-last S (follow S r nm) (next ∷ rest) dir name h last

-- so does a path
pub walk-place : (S : State) (path : List ℕ) (dir : ℕ) (name : List ℕ) → IsPlace S path dir name → walk S (components path) ≡ led_to (named S dir name)
walk-place S path dir name place =
    walk-last S (Ok ROOT) (components path) dir name (sym (parent-from_root S (components path)) ∙ place.parent) place.last

pub leads-place : (S : State) (path : List ℕ) (dir : ℕ) (name : List ℕ) (number : ℕ) → IsPlace S path dir name → named S dir name ≡ Some number
    → LeadsTo S path number
leads-place S path dir name number place led = walk-place S path dir name place ∙ ap led_to led

pub leads-no_place : (S : State) (path : List ℕ) (dir : ℕ) (name : List ℕ) → IsPlace S path dir name → named S dir name ≡ None → LeadsNowhere S path
leads-no_place S path dir name place none = walk-place S path dir name place ∙ ap led_to none

-- ---- places that stay

-- where every step is kept but those to dead ends, so is every place that is in none
pub place-kept : (S S1 : State) (bad : ℕ → Bool)
    (keeps : (d : ℕ) (nm : List ℕ) (m : ℕ) → follow S (Ok d) nm ≡ Ok m → bad m ≡ false → follow S1 (Ok d) nm ≡ Ok m)
    (dead : (m : ℕ) (nm : List ℕ) (x : ℕ) → bad m ≡ true → follow S (Ok m) nm ≡ Ok x → ⊥) (path : List ℕ) (dir : ℕ) (name : List ℕ)
    → bad dir ≡ false → is_directory S1 dir ≡ true → IsPlace S path dir name → IsPlace S1 path dir name
place-kept S S1 bad keeps dead path dir name good at place =
    let names : List (List ℕ) = components path in
    let front : List (List ℕ) = take (length names - 1) names in
    let kept : walk S1 front ≡ Ok dir = walk-kept S S1 bad keeps dead ROOT front dir (parent-ok S names dir place.parent).0 good in
    record { parent = ap (as_directory S1) kept ∙ ap (λ b. cond b (Ok dir) (Err ENOTDIR)) at; last = place.last }

-- ---- other ends lead nowhere else

follow-ends : (T : State) (moment : ℕ) (r : Result ℕ Refusal) (name : List ℕ) → follow (ends_after T moment) r name ≡ follow T r name
follow-ends T moment (Err e) name = refl
follow-ends T moment (Ok d) name = refl

walk_from-ends : (T : State) (moment : ℕ) (r : Result ℕ Refusal) (names : List (List ℕ)) → fold (follow (ends_after T moment)) r names ≡ fold (follow T) r names
walk_from-ends T moment r [] = refl
walk_from-ends T moment r (name ∷ rest) =
    ap (λ x. fold (follow (ends_after T moment)) x rest) (follow-ends T moment r name) ∙ walk_from-ends T moment (follow T r name) rest

-- a walk leads where it led
pub walk-ends : (T : State) (moment : ℕ) (names : List (List ℕ)) → walk (ends_after T moment) names ≡ walk T names
walk-ends T moment names = walk_from-ends T moment (Ok ROOT) names

-- ---- the attempts

-- what holds of an attempt that is done: of its plain result, or of the state that an answer leaves
abbrev pub OnDone : (ℕ → State → Type 0) → State → Attempt → Type 0
OnDone P S (Refuse r) = Unit {0}
OnDone P S (Answer reply) = (number : ℕ) (change : Change) → reply ≡ Done number change → P number S
OnDone P S (Becomes T number) = P number T

module _ (P : ℕ → State → Type 0) (S : State) where
  -- either of two attempts
  pub pick : (b : Bool) (x y : Attempt) → (b ≡ true → OnDone P S x) → (b ≡ false → OnDone P S y) → OnDone P S (cond b x y)
  pick true x y p q = p refl
  pick false x y p q = q refl

  -- a refusal, or another attempt
  pub unless_refused : (b : Bool) (r : Refusal) (a : Attempt) → (b ≡ false → OnDone P S a) → OnDone P S (cond b (Refuse r) a)
  unless_refused b r a q = pick b (Refuse r) a (λ e. tt) q

  at_inode-done : (try : ℕ → Inode → Attempt) (number : ℕ) (o : Option Inode)
      → ((inode : Inode) → o ≡ Some inode → OnDone P S (try number inode)) → OnDone P S (at_inode try number o)
  at_inode-done try number None each = tt
  at_inode-done try number (Some inode) each = each inode refl

  at_reached-done : (try : ℕ → Inode → Attempt) (r : Result ℕ Refusal)
      → ((number : ℕ) (inode : Inode) → r ≡ Ok number → inode_at S number ≡ Some inode → OnDone P S (try number inode)) → OnDone P S (at_reached S try r)
  at_reached-done try (Err e) each = tt
  at_reached-done try (Ok number) each = at_inode-done try number (inode_at S number) (λ inode there. each number inode refl there)

  -- what holds of each inode that the path leads to
  pub at_path-done : (try : ℕ → Inode → Attempt) (path : List ℕ)
      → ((number : ℕ) (inode : Inode) → LeadsTo S path number → inode_at S number ≡ Some inode → OnDone P S (try number inode))
      → OnDone P S (at_path S try path)
  at_path-done try path each = at_reached-done try (walk S (components path)) each

  -- of each that the name leads to
  pub at_name-done : (try : ℕ → Inode → Attempt) (dir : ℕ) (name : List ℕ)
      → ((number : ℕ) (inode : Inode) → named S dir name ≡ Some number → inode_at S number ≡ Some inode → OnDone P S (try number inode))
      → OnDone P S (at_name S try dir name)
  at_name-done try dir name each =
      at_reached-done try (led_to (named S dir name)) (λ number inode led there. each number inode (led_to-ok (named S dir name) number led) there)

  in_reached-done : (try : ℕ → List ℕ → Attempt) (name : List ℕ) (r : Result ℕ Refusal)
      → ((dir : ℕ) → r ≡ Ok dir → OnDone P S (try dir name)) → OnDone P S (in_reached try name r)
  in_reached-done try name (Err e) each = tt
  in_reached-done try name (Ok dir) each = each dir refl

  under-done : (of_root : Refusal) (try : ℕ → List ℕ → Attempt) (names : List (List ℕ)) (o : Option (List ℕ))
      → ((dir : ℕ) (name : List ℕ) → parent S names ≡ Ok dir → o ≡ Some name → OnDone P S (try dir name))
      → OnDone P S (under S of_root try names o)
  under-done of_root try names None each = tt
  under-done of_root try names (Some name) each = in_reached-done try name (parent S names) (λ dir placed. each dir name placed refl)

  -- and of each place that is the path's
  pub in_parent-done : (of_root : Refusal) (try : ℕ → List ℕ → Attempt) (path : List ℕ)
      → ((dir : ℕ) (name : List ℕ) → IsPlace S path dir name → is_directory S dir ≡ true → OnDone P S (try dir name))
      → OnDone P S (in_parent S of_root try path)
  in_parent-done of_root try path each =
      under-done of_root try (components path) (last_name (components path)) (λ dir name placed last.
      each dir name (record { parent = placed; last = last }) (parent-ok S (components path) dir placed).1)
