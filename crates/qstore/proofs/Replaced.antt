-- What goes of the inode that a name in place of another replaces.
use Rattle.std.proofs.Common.{◌≡◌, ℕ, ◌+◌, ◌<◌, ◌≤◌, ◌==◌, ⊎_elim, true, false, not, List, Some, None, refl, sym, ap, subst, ◌∙◌, arith}
use Rattle.std.proofs.lemmas.Bool.{cases_lt}
use Rattle.qplain.specs.Renames.{passes}
use Rattle.qplain.specs.State.{Inode, State, inode_at, named}
use Rattle.qplain.specs.Use.{is_empty, links_of, names_to}
use Rattle.qplain_laws.specs.Laws.{FitsTogether}
use Rattle.qplain_laws.proofs.Renaming.{Replaces-held_on, Replaces-moved, Replaces-replaced, names_to-target, one_name-replaced}
use Rattle.qstore_walk.specs.declared.renames.Renaming.{Renaming}
use Rattle.qstore_walk.proofs.Renamed.{some-inode}
use Rattle.qstore.specs.declared.request.Exchange.{Exchange}
use Rattle.qstore.specs.Decided.{IsAsked, IsGivenUp, no_exchange}
use Rattle.qstore.specs.Renamings.{IsRenaming, with_new_name}
use Rattle.qstore.specs.Requests.{IsConsistent}
use Rattle.qstore.specs.Stored.{Stored}
use Rattle.qstore_accounts.proofs.Claimed.{unclaimed}
use Rattle.qstore.proofs.Deciding.{asked-for}
use Rattle.qstore.proofs.Even.{even-asked}

module _ (s : Stored) (whole : IsConsistent s) (name : List ℕ) (new : Renaming) (r : IsRenaming s.state name new)
    (none_in_it : passes (λ n. not (is_empty s.state n)) new.to.leads_to ≡ false) where
  abbrev after : State
  after = with_new_name s.state name new

  fits : FitsTogether s.state
  fits = whole.sound.lawful.parts

  it : (inode : Inode) × inode_at s.state new.number ≡ Some inode
  it = some-inode (inode_at s.state new.number) r.there

  to : named s.state new.to.dir new.to.name.now ≡ new.to.leads_to
  to = sym r.leads_to

  other : passes (λ n. n == new.number) (named s.state new.to.dir new.to.name.now) ≡ false
  other = ap (passes (λ n. n == new.number)) to ∙ r.other

  empty : passes (λ n. not (is_empty s.state n)) (named s.state new.to.dir new.to.name.now) ≡ false
  empty = ap (passes (λ n. not (is_empty s.state n))) to ∙ none_in_it

  -- nothing takes the place of another, where nothing had the second name
  pub moved-asked : new.to.leads_to ≡ None → IsAsked s (record { from = None; to = None }) 0 after
  moved-asked none =
      asked-for s whole None None 0 after None None
      (Replaces-moved s.state new.dir name new.number it.0 new.to.dir new.to.name.now fits r.led it.1 r.directory other empty (to ∙ none))
      (omega arith) (unclaimed s.books) (unclaimed s.books) (omega arith)

  module _ (t : ℕ) (replaced : Inode) (leads : new.to.leads_to ≡ Some t) (there_too : inode_at s.state t ≡ Some replaced) (exchange : Exchange) where
    -- with its last name goes what is replaced
    replaced-asked : IsGivenUp s replaced exchange → names_to s.state t ≡ 1 → IsAsked s exchange 0 after
    replaced-asked g last =
        subst (λ (e : Exchange). IsAsked s e 0 after) (sym g.is)
        (asked-for s whole (Some g.claim) None 0 after (Some replaced) None
        (Replaces-replaced s.state new.dir name new.number it.0 new.to.dir new.to.name.now fits r.led it.1 r.directory other empty
        t replaced (to ∙ leads) there_too last)
        (omega arith) g.claimed (unclaimed s.books) (omega arith))

    -- a directory has but one
    pub directory-asked : replaced.dir ≡ true → IsGivenUp s replaced exchange → IsAsked s exchange 0 after
    directory-asked directory g =
        replaced-asked g (one_name-replaced s.state new.dir name new.number it.0 new.to.dir new.to.name.now fits r.led it.1 r.directory
        other empty t replaced (to ∙ leads) there_too directory)

    -- a file with more names stands where it stood
    pub file-asked : (links : ℕ) → replaced.dir ≡ false → links ≡ links_of s.state t replaced.dir → (1 < links → exchange ≡ no_exchange)
        → (links ≤ 1 → IsGivenUp s replaced exchange) → IsAsked s exchange 0 after
    file-asked links file counted more last =
        ⊎_elim
        (λ (many : 1 < links).
        subst (λ (e : Exchange). IsAsked s e 0 after) (sym (more many))
        (even-asked s whole after replaced replaced (λ sort. refl) refl
        (Replaces-held_on s.state new.dir name new.number it.0 new.to.dir new.to.name.now fits r.led it.1 r.directory other empty
        t replaced (to ∙ leads) there_too (omega (arith, many, same))) refl))
        (λ (one : links ≤ 1). replaced-asked (last one) (omega (arith, one, same, some)))
        (cases_lt 1 links)
      where
        same : links ≡ names_to s.state t
        same = counted ∙ ap (links_of s.state t) file

        some : names_to after t + 1 ≡ names_to s.state t
        some =
            names_to-target s.state new.dir name new.number it.0 new.to.dir new.to.name.now fits r.led it.1 r.directory other empty
            t replaced (to ∙ leads) there_too
