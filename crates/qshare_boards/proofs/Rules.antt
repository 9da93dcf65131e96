-- Each step keeps the rule.
use Rattle.std.proofs.Common.{◌≡◌, ◌≢◌, ℕ, zero, suc, List, [], ◌∷◌, ◌++◌, set, refl, sym, ap, ◌∙◌, subst, ⊎_elim}
use mathlib.Core.Option.{some, some-ne-none, some-injective}
use mathlib.Core.List.{IsPrefix}
use lib.ListN.{get_elem?}
use Rattle.crossbeam_utils.specs.Register.{Admits, TurnsAt, Forks, Merges}
use Rattle.atomic_table.proofs.Lists.{at_set, at_snoc}
use Rattle.qplain.specs.State.{State}
use Rattle.qplain.specs.Journal.{IsLegal}
use Rattle.qplain.specs.declared.entry.Entry.{Entry}
use Rattle.logbook.specs.Pages.{Book}
use Rattle.qshare_boards.specs.declared.sheet.Sheet.{Sheet}
use Rattle.qshare_boards.specs.declared.rule.SeenHistory.{SeenHistory}
use Rattle.qshare_boards.specs.Boards.{shown_of}
use Rattle.qshare_boards.specs.Sheets.{board_in}
use Rattle.qshare_boards.specs.Views.{newcomer, Kept, IsThenSeen}
use Rattle.qshare_history.proofs.Prefixes.{prefix_self, prefix_trans}

abbrev All : List Entry → List SeenHistory → Type 0
All log views = (seat : ℕ) (v : SeenHistory) → get_elem? views seat ≡ some v → IsPrefix v.seen log

all_set : (log : List Entry) (views : List SeenHistory) (seat : ℕ) (w : SeenHistory) → All log views → IsPrefix w.seen log → All log (set views seat w)
all_set log views seat w others mine j u e =
    ⊎_elim (λ (t : (j ≡ seat) × (w ≡ u)). subst (λ (x : SeenHistory). IsPrefix x.seen log) t.1 mine)
    (λ (t : (j ≢ seat) × (get_elem? views j ≡ some u)). others j u t.1) (at_set views seat j w u e)

all_snoc : (log : List Entry) (views : List SeenHistory) (w : SeenHistory) → All log views → IsPrefix w.seen log → All log (views ++ w ∷ [])
all_snoc log views w others mine j u e =
    ⊎_elim (λ (t : get_elem? views j ≡ some u). others j u t) (λ (t : w ≡ u). subst (λ (x : SeenHistory). IsPrefix x.seen log) t mine) (at_snoc views w u j e)

module _ (book : Book) (start : State) where
  abbrev Holds : Sheet → List SeenHistory → Type 0
  Holds x = Kept book start x.prefix (board_in x)

  pub begins : (x : Sheet) → x.prefix.history ≡ book → x.prefix.entries ≡ [] → board_in x ≡ shown_of start [] → Holds x (newcomer ∷ [])
  begins x named none is = (named, is ∙ ap (shown_of start) (sym none), subst (IsLegal start) (sym none) tt, one)
    where
      one : (seat : ℕ) (v : SeenHistory) → get_elem? (newcomer ∷ []) seat ≡ some v → IsPrefix v.seen x.prefix.entries
      one zero v e = subst (λ (u : SeenHistory). IsPrefix u.seen x.prefix.entries) (some-injective _ _ e) (x.prefix.entries, refl)
      one (suc seat) v e = absurd (some-ne-none v (sym e))

  pub admits : Admits Holds newcomer
  admits x views h = (h.0, h.1, h.2, all_snoc x.prefix.entries views newcomer h.3 (x.prefix.entries, refl))

  pub looks : (seat : ℕ) (v : SeenHistory) (x : Sheet) → TurnsAt Holds seat v x x (λ v x y w. IsThenSeen book start v y.prefix (board_in y) w)
  looks seat v x views h at =
      let mine = h.3 seat v at in
      let w : SeenHistory = record { seen = x.prefix.entries } in
      (w, (h.0, h.1, h.2, all_set x.prefix.entries views seat w h.3 (prefix_self x.prefix.entries)), (refl, h.0, mine, h.2, h.1))

  pub brings : (seat : ℕ) (v : SeenHistory) (x y : Sheet) → IsPrefix x.prefix.entries y.prefix.entries → y.prefix.history ≡ book
      → IsLegal start y.prefix.entries → board_in y ≡ shown_of start y.prefix.entries
      → TurnsAt Holds seat v x y (λ v x y w. IsThenSeen book start v y.prefix (board_in y) w)
  brings seat v x y more named legal is views h at =
      let w : SeenHistory = record { seen = y.prefix.entries } in
      let others : All y.prefix.entries views = λ j u e. prefix_trans u.seen x.prefix.entries y.prefix.entries (h.3 j u e) more in
      (w, (named, is, legal, all_set y.prefix.entries views seat w others (prefix_self y.prefix.entries)), (refl, named, others seat v at, legal, is))

  pub forks : (seat : ℕ) (v : SeenHistory) → Forks Holds seat v v v
  forks seat v x views h at =
      let mine = h.3 seat v at in
      (h.0, h.1, h.2, all_snoc x.prefix.entries (set views seat v) v (all_set x.prefix.entries views seat v h.3 mine) mine)

  pub merges : (seat : ℕ) (v : SeenHistory) (other : ℕ) (w : SeenHistory) → Merges Holds seat v other w w newcomer
  merges seat v other w x views h at apart there =
      let theirs : IsPrefix w.seen x.prefix.entries =
      ⊎_elim (λ (t : (other ≡ seat) × (w ≡ w)). absurd (apart t.0))
      (λ (t : (other ≢ seat) × (get_elem? views other ≡ some w)). h.3 other w t.1) (at_set views seat other w w there) in
      (h.0, h.1, h.2, all_set x.prefix.entries (set views seat w) other newcomer (all_set x.prefix.entries views seat w h.3 theirs) (x.prefix.entries, refl))
