-- What holds of the plain result of an attempt, if it comes to one: of each that is tried of a path or of a name.
use Rattle.std.proofs.Common.{◌≡◌, ℕ, Bool, true, false, not, cond, ◌-◌, List, length, take, subst, Option, Some, None, is_some, Result, Ok, Err, refl}
use Rattle.qplain.specs.declared.refusal.Refusal.{Refusal}
use Rattle.qplain.specs.declared.refusal.Refusal.TheVariants.{ENOTDIR}
use Rattle.qplain.specs.State.{Inode, State, inode_at, is_directory, named}
use Rattle.qplain.specs.Walk.{as_directory, components, last_name, led_to, parent, walk}
use Rattle.qplain.specs.Attempt.{Attempt, Refuse, Answer, Becomes, at_inode, at_name, at_path, at_reached, in_parent, in_reached, under}
use Rattle.qplain.specs.Calls.{unless}

-- the fact holds of the plain result, if there is one
abbrev pub OnBecomes : (State → Type 0) → Attempt → Type 0
OnBecomes P (Refuse r) = Unit {0}
OnBecomes P (Answer reply) = Unit {0}
OnBecomes P (Becomes S number) = P S

-- of two attempts, each of which the fact allows, either
pub choice : (P : State → Type 0) (b : Bool) (x y : Attempt) → OnBecomes P x → (b ≡ false → OnBecomes P y) → OnBecomes P (cond b x y)
choice P true x y p q = p
choice P false x y p q = q refl

ok_parts : (b : Bool) (d dir : ℕ) → cond b (Ok d) (Err ENOTDIR) ≡ Ok dir → (b ≡ true) × (d ≡ dir)
ok_parts true d dir h = (refl, cc)
ok_parts false d dir h = cc

-- a number reached as a directory is one
pub as_directory-ok : (S : State) (r : Result ℕ Refusal) (dir : ℕ) → as_directory S r ≡ Ok dir → is_directory S dir ≡ true
as_directory-ok S (Err e) dir h = cc
as_directory-ok S (Ok d) dir h =
    let parts : (is_directory S d ≡ true) × (d ≡ dir) = ok_parts (is_directory S d) d dir h in
    let at : ℕ → Type 0 = λ n. is_directory S n ≡ true in
    subst at parts.1 parts.0

-- what is not some is none
pub none-from_not_some : (o : Option ℕ) → is_some o ≡ false → o ≡ None
none-from_not_some None h = refl
none-from_not_some (Some n) h = cc

-- what is not refused holds
pub true-from_not : (b : Bool) → not b ≡ false → b ≡ true
true-from_not true h = refl
true-from_not false h = cc

-- what a name leads to
pub led_to-ok : (o : Option ℕ) (number : ℕ) → led_to o ≡ Ok number → o ≡ Some number
led_to-ok None number h = cc
led_to-ok (Some n) number h = cc

-- a refusal before it, or the attempt
pub unless-becomes : (P : State → Type 0) (o : Option Refusal) (a : Attempt) → (o ≡ None → OnBecomes P a) → OnBecomes P (unless o a)
unless-becomes P None a holds = holds refl
unless-becomes P (Some r) a holds = tt

module _ (P : State → Type 0) (S : State) where
  at_inode-becomes : (try : ℕ → Inode → Attempt) (number : ℕ) (o : Option Inode)
      → ((inode : Inode) → o ≡ Some inode → OnBecomes P (try number inode)) → OnBecomes P (at_inode try number o)
  at_inode-becomes try number None each = tt
  at_inode-becomes try number (Some inode) each = each inode refl

  at_reached-becomes : (try : ℕ → Inode → Attempt) (r : Result ℕ Refusal)
      → ((number : ℕ) (inode : Inode) → r ≡ Ok number → inode_at S number ≡ Some inode → OnBecomes P (try number inode)) → OnBecomes P (at_reached S try r)
  at_reached-becomes try (Err e) each = tt
  at_reached-becomes try (Ok number) each = at_inode-becomes try number (inode_at S number) (λ inode there. each number inode refl there)

  -- what holds of the attempt at each inode that is there holds of that at a path's
  pub at_path-becomes : (try : ℕ → Inode → Attempt) (path : List ℕ)
      → ((number : ℕ) (inode : Inode) → inode_at S number ≡ Some inode → OnBecomes P (try number inode)) → OnBecomes P (at_path S try path)
  at_path-becomes try path each = at_reached-becomes try (walk S (components path)) (λ number inode reached there. each number inode there)

  -- and of that at a name's
  pub at_name-becomes : (try : ℕ → Inode → Attempt) (dir : ℕ) (name : List ℕ)
      → ((number : ℕ) (inode : Inode) → named S dir name ≡ Some number → inode_at S number ≡ Some inode → OnBecomes P (try number inode))
      → OnBecomes P (at_name S try dir name)
  at_name-becomes try dir name each =
      at_reached-becomes try (led_to (named S dir name)) (λ number inode led there. each number inode (led_to-ok (named S dir name) number led) there)

  in_reached-becomes : (try : ℕ → List ℕ → Attempt) (name : List ℕ) (r : Result ℕ Refusal)
      → ((dir : ℕ) → r ≡ Ok dir → OnBecomes P (try dir name)) → OnBecomes P (in_reached try name r)
  in_reached-becomes try name (Err e) each = tt
  in_reached-becomes try name (Ok dir) each = each dir refl

  under-becomes : (of_root : Refusal) (try : ℕ → List ℕ → Attempt) (names : List (List ℕ)) (o : Option (List ℕ))
      → ((dir : ℕ) (name : List ℕ) → parent S names ≡ Ok dir → is_directory S dir ≡ true → OnBecomes P (try dir name))
      → OnBecomes P (under S of_root try names o)
  under-becomes of_root try names None each = tt
  under-becomes of_root try names (Some name) each =
      in_reached-becomes try name (parent S names) (λ dir h. each dir name h (as_directory-ok S (walk S (take (length names - 1) names)) dir h))

  -- what holds of the attempt at each name in a directory holds of that in a path's parent
  pub in_parent-becomes : (of_root : Refusal) (try : ℕ → List ℕ → Attempt) (path : List ℕ)
      → ((dir : ℕ) (name : List ℕ) → parent S (components path) ≡ Ok dir → is_directory S dir ≡ true → OnBecomes P (try dir name))
      → OnBecomes P (in_parent S of_root try path)
  in_parent-becomes of_root try path each = under-becomes of_root try (components path) (last_name (components path)) each
