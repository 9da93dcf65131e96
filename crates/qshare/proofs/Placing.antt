-- Rows that are put one after the other, each in its place, and how many rows there are at any time.
use Rattle.std.proofs.Common.{◌≡◌, ℕ, ◌+◌, ◌<◌, ◌≤◌, List, [], ◌∷◌, ◌++◌, length, map, take, slice_set, refl, sym, ap, ◌∙◌, arith}
use Rattle.std.proofs.lemmas.List.{length-map, length-set, take_all, take_more_set}
use Rattle.std.proofs.lemmas.List.Sums.{fold-append}
use Rattle.qrules.specs.declared.board_row.BoardRow.{BoardRow}
use Rattle.qplain.specs.declared.entry.Entry.{Entry}
use Rattle.qplain.specs.declared.placed_row.PlacedRow.{PlacedRow}
use Rattle.qplain.specs.Boards.{with_row, with_rows}
use Rattle.qplain.specs.Journal.{play, played}
use Rattle.qplain.specs.State.{Holder, State}
use Rattle.qplain_laws.specs.Laws.{identity_of}
use Rattle.qplain_laws.proofs.Kept.{setups_stay}
use Rattle.qshare.specs.Waiting.{Replaces}

module _ (rows : List BoardRow) where
  -- the first rows stand, whichever stood before
  abbrev pub StandTo : ℕ → List PlacedRow → Type 0
  StandTo many placed = (others : List BoardRow) → length others ≡ length rows
      → (length (with_rows others placed) ≡ length rows) × (take many (with_rows others placed) ≡ take many rows)

  -- with the next in its place one more does
  pub one_more : (many : ℕ) (placed : List PlacedRow) (next : PlacedRow) → many < length rows → StandTo many placed → next.place ≡ many
      → take (many + 1) rows ≡ take many rows ++ next.row ∷ [] → StandTo (many + 1) (placed ++ next ∷ [])
  one_more many placed next low stand at row others as_many =
      let before : List BoardRow = with_rows others placed in
      let so_far = stand others as_many in
      let is : with_rows others (placed ++ next ∷ []) ≡ slice_set before many next.row =
      fold-append with_row others placed (next ∷ []) ∙ ap (λ k. slice_set before k next.row) at in (
        ap length is ∙ length-set before many next.row ∙ so_far.0,
        ap (take (many + 1)) is ∙ take_more_set before many next.row (omega (arith, low, so_far.0))
            ∙ ap (λ xs. xs ++ next.row ∷ []) so_far.1 ∙ sym row,
      )

  -- where all stand these are the rows
  pub all_stand : (many : ℕ) (placed : List PlacedRow) → length rows ≤ many → StandTo many placed → Replaces placed rows
  all_stand many placed all stand others as_many =
      let so_far = stand others as_many in
      sym (take_all many (with_rows others placed) (omega (arith, all, so_far.0))) ∙ so_far.1 ∙ take_all many rows all

-- holders of the same identities are as many
same_identities : (xs ys : List Holder) → map identity_of xs ≡ map identity_of ys → length xs ≡ length ys
same_identities xs ys same = sym (length-map xs identity_of) ∙ ap length same ∙ length-map ys identity_of

-- no journal makes them more or fewer
pub as_many_holders : (S : State) (journal : List Entry) → length (play S journal).holders ≡ length S.holders
as_many_holders S [] = refl
as_many_holders S (e ∷ journal) =
    as_many_holders (played S e).0 journal ∙ same_identities (played S e).0.holders S.holders (setups_stay S e.cred e.moment e.call).holders
