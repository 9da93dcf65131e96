-- A further name of a file: its tests, and what it leaves.
use Rattle.std.proofs.Common.{◌≡◌, ℕ, ◌+◌, Bool, true, false, cond, nat_lt, is_some, List, Option, Some, None, refl, sym, ap, ◌∙◌}
use Rattle.qplain.specs.declared.bounds.TheConstants.{MAX_LINKS}
use Rattle.qplain.specs.declared.refusal.Refusal.{Refusal}
use Rattle.qplain.specs.declared.refusal.Refusal.TheVariants.{EEXIST, EMLINK, EPERM}
use Rattle.qplain.specs.Attempt.{Attempt, Becomes, Refuse}
use Rattle.qplain.specs.Names.{link_as, with_name}
use Rattle.qplain.specs.State.{Inode, State, inode_at, is_directory, named}
use Rattle.qplain.specs.Use.{has_too_many_links, links_of}
use Rattle.qplain_laws.specs.Laws.{IsLawful}
use Rattle.qplain_laws.proofs.Bounding.{too_many-linked}
use Rattle.qstore_walk.specs.Faults.{link_fault}

-- what may have a further name is no directory
pub link-file : (dir : Bool) (leads_to : Option ℕ) (links : ℕ) → ◌≡◌ {A = Option Refusal} (link_fault dir leads_to links) None → dir ≡ false
link-file true leads_to links fault = cc
link-file false leads_to links fault = refl

module _ (S : State) (lawful : IsLawful S) (number : ℕ) (inode : Inode) (there : inode_at S number ≡ Some inode) (dir : ℕ) (name : List ℕ)
    (stands : is_directory S dir ≡ true) (links : ℕ) (counted : links ≡ links_of S number inode.dir) where
  -- the links of the file alone are asked
  many : inode.dir ≡ false → named S dir name ≡ None → has_too_many_links (with_name S dir name number) ≡ nat_lt MAX_LINKS (links + 1)
  many file absent =
      too_many-linked S number inode dir name lawful.parts there file stands absent
      ∙ ap (λ n. nat_lt MAX_LINKS (n + 1)) (sym (counted ∙ ap (links_of S number) file))

  abbrev by_tests : Bool → Bool → Bool → Attempt
  by_tests is_dir taken too_many =
      cond is_dir (Refuse EPERM) (cond taken (Refuse EEXIST) (cond too_many (Refuse EMLINK) (Becomes (with_name S dir name number) number)))

  -- a fault of the tests is the refusal
  pub link-refused : (refusal : Refusal) → link_fault inode.dir (named S dir name) links ≡ Some refusal
      → link_as S number inode dir name ≡ Refuse refusal
  link-refused refusal fault = by inode.dir refl (named S dir name) refl (nat_lt MAX_LINKS (links + 1)) refl fault
    where
      by : (b : Bool) → inode.dir ≡ b → (o : Option ℕ) → named S dir name ≡ o → (m : Bool) → nat_lt MAX_LINKS (links + 1) ≡ m
          → cond b (Some EPERM) (cond (is_some o) (Some EEXIST) (cond m (Some EMLINK) None)) ≡ Some refusal
          → link_as S number inode dir name ≡ Refuse refusal
      by true is_dir o led m too_many fault =
          (λ i. by_tests (is_dir i) (is_some (named S dir name)) (has_too_many_links (with_name S dir name number)))
          ∙ (let same : EPERM ≡ refusal = cc in ap Refuse same)
      by false file (Some n) led m too_many fault =
          (λ i. by_tests (file i) (is_some (led i)) (has_too_many_links (with_name S dir name number))) ∙ (let same : EEXIST ≡ refusal = cc in ap Refuse same)
      by false file None led true too_many fault =
          (λ i. by_tests (file i) (is_some (led i)) ((many file led ∙ too_many) i)) ∙ (let same : EMLINK ≡ refusal = cc in ap Refuse same)
      by false file None led false too_many fault = cc

  -- without one the file is to have the name
  pub link-becomes : link_fault inode.dir (named S dir name) links ≡ None
      → (inode.dir ≡ false) × (named S dir name ≡ None) × (link_as S number inode dir name ≡ Becomes (with_name S dir name number) number)
  link-becomes fault = by inode.dir refl (named S dir name) refl (nat_lt MAX_LINKS (links + 1)) refl fault
    where
      by : (b : Bool) → inode.dir ≡ b → (o : Option ℕ) → named S dir name ≡ o → (m : Bool) → nat_lt MAX_LINKS (links + 1) ≡ m
          → ◌≡◌ {A = Option Refusal} (cond b (Some EPERM) (cond (is_some o) (Some EEXIST) (cond m (Some EMLINK) None))) None
          → (inode.dir ≡ false) × (named S dir name ≡ None) × (link_as S number inode dir name ≡ Becomes (with_name S dir name number) number)
      by true is_dir o led m too_many fault = cc
      by false file (Some n) led m too_many fault = cc
      by false file None led true too_many fault = cc
      by false file None led false too_many fault =
          (file, led, (λ i. by_tests (file i) (is_some (led i)) ((many file led ∙ too_many) i)))
