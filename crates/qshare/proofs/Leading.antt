-- How the rows that wait lead from one board to the next.
use Rattle.std.proofs.Common.{◌≡◌, List, [], ◌∷◌, ◌++◌, length, Result, Ok, Err, IfOk, refl, sym, ap, ◌∙◌, subst}
use Rattle.std.proofs.lemmas.List.{length-map}
use mathlib.Core.List.{IsPrefix}
use Rattle.qrules.specs.Sort.{Inodes, Blocks}
use Rattle.qplain.specs.declared.placed_row.PlacedRow.{PlacedRow}
use Rattle.qplain.specs.declared.entry.Entry.{Entry}
use Rattle.qplain.specs.Boards.{rows_of, with_rows}
use Rattle.qplain.specs.Setups.{Setting}
use Rattle.qplain.specs.State.{State}
use Rattle.qplain.specs.Use.{total_of}
use Rattle.qplain.specs.Journal.{IsLegal, play, played, row_of}
use Rattle.qplain_laws.proofs.Playing.{play-one_more}
use Rattle.qstore.specs.Ready.{committed}
use Rattle.qshare_history.specs.Histories.{Recorded, recorded}
use Rattle.qshare_history.specs.StoreIds.{Identity}
use Rattle.qshare_boards.specs.declared.board_change.BoardChange.{BoardChange}
use Rattle.qshare_boards.specs.Boards.{BringsOn, changed_by, shown_of}
use Rattle.qstore_journaled.specs.Journaled.{IsStoreOf, Journaled}
use Rattle.qstore_journaled.specs.Next.{IsNext}
use Rattle.qshare.specs.Waiting.{LeadsOn, Replaces, Waits}
use Rattle.qshare.proofs.Placing.{as_many_holders}

-- a store's state is what its journal leaves from the beginning
state_is : (setting : Setting) (S : State) (j : Journaled) → IsStoreOf setting S j → j.stored.state ≡ play S j.journal
state_is setting S j of = of.played.state ∙ ap (λ S. play S j.journal) of.begun_is

-- with the rows of one call more what waits leads to the journal's next board
pub waits_on : (setting : Setting) (S : State) (j : Journaled) (e : Entry) (shown published : List Entry) (waiting longer : List PlacedRow)
    → IsStoreOf setting S j → IsNext j e → Waits S shown waiting published j.journal
    → LeadsOn waiting j.stored.state longer (committed j.stored)
    → Waits S shown longer published (j.journal ++ e ∷ [])
waits_on setting S j e shown published waiting longer of can w led =
    let state : j.stored.state ≡ play S j.journal = state_is setting S j of in
    let before : with_rows (shown_of S published).rows waiting ≡ rows_of j.stored.state = w.leads ∙ ap rows_of (sym state) in
    let after : committed j.stored ≡ play S (j.journal ++ e ∷ []) =
    ap (λ p. p.0) can.step ∙ ap (λ T. (played T e).0) state ∙ sym (play-one_more S j.journal e) in
    record { shown_is = w.shown_is; leads = led.leads (shown_of S published).rows before ∙ ap rows_of after }

-- where there was room for them
pub noted : {T E : Type 0} (setting : Setting) (S : State) (j : Journaled) (e : Entry) (shown published : List Entry) (waiting longer : List PlacedRow)
    (r : Result T E) → IsStoreOf setting S j → IsNext j e → Waits S shown waiting published j.journal
    → IfOk r (λ x. LeadsOn waiting j.stored.state longer (committed j.stored))
    → IfOk r (λ x. Waits S shown longer published (j.journal ++ e ∷ []))
noted setting S j e shown published waiting longer (Ok x) of can w led = waits_on setting S j e shown published waiting longer of can w led
noted setting S j e shown published waiting longer (Err fault) of can w led = tt

-- a change with the rows that wait, the store's totals and the journal's length may be published
pub brings_on : (id : Identity) (j : Journaled) (shown published : List Entry) (waiting : List PlacedRow) (change : BoardChange)
    (history : Recorded) → IsStoreOf id.setting id.begun j → Waits id.begun shown waiting published j.journal → IsPrefix published j.journal
    → history ≡ recorded id.history j.journal → change.version ≡ length j.journal → change.rows.items ≡ waiting
    → change.blocks ≡ total_of j.stored.state Blocks → change.inodes ≡ total_of j.stored.state Inodes → BringsOn id shown change history
brings_on id j shown published waiting change history of w begins is version rows blocks inodes =
    let S : State = id.begun in
    let state : j.stored.state ≡ play S j.journal = state_is id.setting S j of in
    let legal : IsLegal S j.journal = subst (λ T. IsLegal T j.journal) of.begun_is of.played.legal in
    let all : with_rows (shown_of S published).rows change.rows.items ≡ (shown_of S j.journal).rows =
    ap (with_rows (shown_of S published).rows) rows ∙ w.leads in
    let board : changed_by (shown_of S published) change ≡ shown_of S j.journal = λ i. record {
      version = version i;
      rows = all i;
      blocks = (blocks ∙ ap (λ (T : State). total_of T Blocks) state) i;
      inodes = (inodes ∙ ap (λ (T : State). total_of T Inodes) state) i;
    } in
    let of_journal : BringsOn id published change (recorded id.history j.journal) = record {
      on = record { of = record { history = refl; legal = legal }; begins = begins };
      leads = board;
    } in
    subst (λ xs. BringsOn id xs change history) (sym w.shown_is) (subst (BringsOn id published change) (sym is) of_journal)

-- where all of the journal is published no row waits
pub none_waits : (S : State) (shown : List Entry) (waiting : List PlacedRow) (journal : List Entry) → shown ≡ journal → waiting ≡ []
    → Waits S shown waiting journal journal
none_waits S shown waiting journal all none =
    record { shown_is = all; leads = ap (with_rows (shown_of S journal).rows) none }

-- the rows of the boards of two states are as many as their holders
as_many_rows : (S T : State) → length S.holders ≡ length T.holders → length (rows_of S) ≡ length (rows_of T)
as_many_rows S T many = length-map S.holders (row_of S) ∙ many ∙ sym (length-map T.holders (row_of T))

-- all rows of a store lead from whatever board is published to the journal's
pub all_lead : (setting : Setting) (S : State) (j : Journaled) (shown : List Entry) (placed : List PlacedRow) → IsStoreOf setting S j
    → Replaces placed (rows_of j.stored.state) → Waits S shown placed shown j.journal
all_lead setting S j shown placed of replaces =
    let state : j.stored.state ≡ play S j.journal = state_is setting S j of in
    let many : length (play S shown).holders ≡ length j.stored.state.holders =
    as_many_holders S shown ∙ sym (as_many_holders S j.journal) ∙ ap (λ T. length T.holders) (sym state) in
    record {
      shown_is = refl;
      leads = replaces (rows_of (play S shown)) (as_many_rows (play S shown) j.stored.state many) ∙ ap rows_of state;
    }
