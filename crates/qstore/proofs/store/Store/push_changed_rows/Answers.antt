use Rattle.std.proofs.Common.{◌≡◌, List, [], ◌⊎◌, inl, inr, refl, sym, ap, subst, arith}
use Rattle.std.proofs.lemmas.List.{append-nil}
use Rattle.std.proofs.lemmas.List.Elements.{All-nil}
use Rattle.qrules.specs.declared.graces.Graces.{Graces}
use Rattle.qplain.specs.declared.placed_row.PlacedRow.{PlacedRow}
use Rattle.qplain.specs.Boards.{IsOther, rows_of}
use Rattle.qplain.specs.State.{State}
use Rattle.qstore_change.specs.declared.tree_change.TreeChange.{TreeChange}
use Rattle.qstore_change.specs.Changes.{changed}
use Rattle.qstore_accounts.specs.Bills.{settled}
use Rattle.qstore_accounts.specs.Books.{AreBooksOf}
use Rattle.qstore_accounts.specs.Pushed.{IsPushed}
use Rattle.qstore.specs.declared.plan.Plan.{Plan}
use Rattle.qstore.specs.declared.plan.Plan.TheVariants.{Nothing, Change, Limits, SetGraces}
use Rattle.qstore.specs.declared.store.Store.TheInside.{Inside}
use Rattle.qstore.specs.Parts.{IsCounted}
use Rattle.qstore.specs.Kept.{state_of, stored_of}
use Rattle.qstore.specs.Ready.{CanCarryOut, CanSettle, billed, effect}
use Rattle.qstore.specs.Stored.{Stored}
use Rattle.qstore.proofs.store.Store.push_changed_rows.Goals as goal

module _ (s : Stored) (a : Inside) (is : s ≡ stored_of a) (counted : IsCounted (state_of a) a.accounts a.tree.links)
    (rows longer : List PlacedRow)
    (told : (S S1 : State) → AreBooksOf S a.accounts → AreBooksOf S1 (settled a.bill a.accounts) → IsPushed S rows longer S1) where
  -- what the bill does to a board is what a plan does that settles it
  of-bill : (T : State) → CanSettle s T → IsPushed s.state rows longer (billed s T)
  of-bill T can =
      told s.state (billed s T)
      (subst (λ (t : Stored). AreBooksOf t.state a.accounts) (sym is) counted.books)
      (subst (λ (t : Stored). AreBooksOf (billed s T) (settled t.bill t.books)) is can.books)

  of-plan : (plan : Plan) → ((change : TreeChange) × plan ≡ Change change) ⊎ (plan ≡ Limits)
      → CanCarryOut s plan → IsPushed s.state rows longer (effect s plan)
  of-plan plan (inl (change, same)) can =
      subst (λ (p : Plan). IsPushed s.state rows longer (effect s p)) (sym same)
      (of-bill (changed s.state change) (subst (λ (p : Plan). CanCarryOut s p) same can).1)
  of-plan plan (inr same) can =
      subst (λ (p : Plan). IsPushed s.state rows longer (effect s p)) (sym same)
      (of-bill s.state (subst (λ (p : Plan). CanCarryOut s p) same can))

pub returns-in-Change : goal.returns-in-Change
returns-in-Change c =
    of-plan c.args.self.now c.self.inside (sym c.self.view_is) c.self.invariant c.args.rows.now.items c.push_changed_rows.new.rows.items
    c.push_changed_rows.ensures c.args.self.now.plan
    (subst (λ (p : Plan). ((change : TreeChange) × p ≡ Change change) ⊎ (p ≡ Limits)) (ap (λ (v : Stored). v.plan) c.self.view_is) c.in-Change.is)
    c.requires.ready.can

-- where no row changes none is pushed
none-pushed : (S S1 : State) (rows : List PlacedRow) → rows_of S ≡ rows_of S1 → IsPushed S rows rows S1
none-pushed S S1 rows same = record {
  placed = [];
  behind = sym (append-nil rows);
  are = record { leads = same; few = omega arith; others = All-nil (IsOther (rows_of S)) };
}

-- nor by a plan that changes no record
of-no-bill : (s : Stored) (rows : List PlacedRow) (plan : Plan) → (plan ≡ Nothing) ⊎ ((graces : Graces) × plan ≡ SetGraces graces)
    → IsPushed s.state rows rows (effect s plan)
of-no-bill s rows plan (inl same) =
    subst (λ (p : Plan). IsPushed s.state rows rows (effect s p)) (sym same) (none-pushed s.state s.state rows refl)
of-no-bill s rows plan (inr (graces, same)) =
    subst (λ (p : Plan). IsPushed s.state rows rows (effect s p)) (sym same)
    (none-pushed s.state (record s.state { graces = graces }) rows refl)

pub returns-in-Nothing : goal.returns-in-Nothing
returns-in-Nothing c =
    of-no-bill c.args.self.now c.args.rows.now.items c.args.self.now.plan
    (subst (λ (p : Plan). (p ≡ Nothing) ⊎ ((graces : Graces) × p ≡ SetGraces graces)) (ap (λ (v : Stored). v.plan) c.self.view_is) c.in-Nothing.is)
