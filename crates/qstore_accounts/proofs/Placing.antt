-- A posting puts its row in its place: what that makes of the rows of a board.
use Rattle.std.proofs.Common.{◌≡◌, ◌≢◌, ℕ, zero, suc, ◌+◌, ◌-◌, ◌≤◌, ◌==◌, Bool, true, false, List, [], ◌∷◌, ◌++◌, length, map, set, All, Option, Some, None, inl, inr, option_map, slice_get, refl, sym, ap, subst, ◌∙◌, IfSome, tests, arith}
use Rattle.std.proofs.lemmas.Bool.{cond-false, cond-true}
use Rattle.std.proofs.lemmas.List.{length-append, length-map, set-append_left, set-append_right, set-get_or}
use Rattle.std.proofs.lemmas.List.Elements.{All-append, All-cons, All-nil}
use Rattle.std.proofs.lemmas.List.Sums.{fold-append}
use Rattle.std.proofs.lemmas.Option.{get_or_from_slice_get, same_Some, slice_get-map}
use Rattle.qrules.specs.declared.board_row.BoardRow.{BoardRow}
use Rattle.qrules.specs.declared.graces.Graces.{Graces}
use Rattle.qrules.specs.declared.kind.Kind.{Kind}
use Rattle.qrules.specs.Account.{Account}
use Rattle.qplain.specs.declared.placed_row.PlacedRow.{PlacedRow}
use Rattle.qplain.specs.Boards.{IsOther, with_row, with_rows}
use Rattle.qstore_accounts.specs.declared.bill.Posting.{Posting}
use Rattle.qstore_accounts.specs.declared.bill.Postings.{Postings}
use Rattle.qstore_accounts.specs.declared.kept_holder.KeptHolder.{KeptHolder}
use Rattle.qstore_accounts.specs.Bills.{ArePlaced, IsPlaced, account_after, post, posted}
use Rattle.qstore_accounts.specs.Boards.{ArePut, IsPut, ShowsChange, board_row, board_row_of, placed_row}
use Rattle.qstore_accounts.specs.KeptHolders.{AreById, IsSlotOf}
use Rattle.qstore_accounts.proofs.ById.{above-others-of, by_id-post, by_id-rest, changed, changed-others, changed_by, placed-then, post-none, posted-both, slot-below, slot-first, slot-later}
use Rattle.qstore_accounts.proofs.Shares.{id-there, slot-once}

-- ---- rows in lists one after the other

-- a row after so many others
at-right : (xs ys : List BoardRow) (n i : ℕ) → length xs ≡ n → slice_get (xs ++ ys) (n + i) ≡ slice_get ys i
at-right [] ys n i long =
    let same : n + i ≡ i = omega (arith, long) in ap (slice_get ys) same
at-right (x ∷ xs) ys n i long =
    let same : n + i ≡ suc (length xs + i) = omega (arith, long) in ap (slice_get (x ∷ (xs ++ ys))) same ∙ at-right xs ys (length xs) i refl

-- a row before others
at-left : (xs ys : List BoardRow) (i : ℕ) (x : BoardRow) → slice_get xs i ≡ Some x → slice_get (xs ++ ys) i ≡ Some x
at-left [] ys i x there = cc
at-left (y ∷ xs) ys zero x there = there
at-left (y ∷ xs) ys (suc i) x there = at-left xs ys i x there

-- a row that stands in its place already changes nothing
set-there : (rows : List BoardRow) (i : ℕ) (row : BoardRow) → slice_get rows i ≡ Some row → set rows i row ≡ rows
set-there rows i row there = ap (set rows i) (sym (get_or_from_slice_get rows i row row there)) ∙ set-get_or rows i row

-- ---- a posting is put in its place

-- the kept holder at the slot of an id
stands : (os : List KeptHolder) (slot id : ℕ) → IsSlotOf os slot id → (o : KeptHolder) × ((slice_get os slot ≡ Some o) × (o.id ≡ id))
stands os slot id there = by (slice_get os slot) refl there
  where
    by : (x : Option KeptHolder) → slice_get os slot ≡ x → option_map (λ o. o.id) x ≡ Some id → (o : KeptHolder) × ((slice_get os slot ≡ Some o) × (o.id ≡ id))
    by None at is = cc
    by (Some o) at is = (o, (at, same_Some o.id id is))

-- the row of the kept holder of one id after a change of it, put where it stands
set-row : (kind : Kind) (os : List KeptHolder) (slot id : ℕ) (f : KeptHolder → KeptHolder) (row : BoardRow) → AreById os → IsSlotOf os slot id
    → ((o : KeptHolder) → slice_get os slot ≡ Some o → row ≡ board_row_of kind (f o))
    → set (map (board_row_of kind) os) slot row ≡ map (board_row_of kind) (map (changed id f) os)
set-row kind [] slot id f row by_id there is = refl
set-row kind (o ∷ os) zero id f row by_id there is =
    let same : o.id ≡ id = cc in
    let here : row ≡ board_row_of kind (changed id f o) =
    is o refl ∙ ap (board_row_of kind) (sym (cond-true (id == o.id) (f o) o (slot-first id o os there))) in
    let rest = ap (map (board_row_of kind)) (sym (changed-others id f os (above-others-of id o os by_id same))) in
    λ i. here i ∷ rest i
set-row kind (o ∷ os) (suc slot) id f row by_id there is =
    let here = ap (board_row_of kind) (sym (cond-false (id == o.id) (f o) o (slot-later id o os slot by_id there))) in
    let rest = set-row kind os slot id f row (by_id-rest o os by_id) there is in
    λ i. here i ∷ rest i

module _ (graces : Graces) (moment : ℕ) where
  -- at another slot the kept holder is as it was
  holder-stays : (os : List KeptHolder) (p q : Posting) → AreById os → IsSlotOf os p.slot p.id → IsSlotOf os q.slot q.id → p.slot ≢ q.slot
      → slice_get (map (post graces moment (Some p)) os) q.slot ≡ slice_get os q.slot
  holder-stays os p q by_id first second apart =
      slice_get-map (post graces moment (Some p)) os q.slot ∙ ap (option_map (post graces moment (Some p))) there.1.0
      ∙ ap Some (cond-false (p.id == there.0.id) (changed_by graces moment p there.0) there.0 (other (p.id == there.0.id) refl)) ∙ sym there.1.0
    where
      there : (o : KeptHolder) × ((slice_get os q.slot ≡ Some o) × (o.id ≡ q.id))
      there = stands os q.slot q.id second

      other : (b : Bool) → (p.id == there.0.id) ≡ b → b ≡ false
      other false e = refl
      other true e =
          let same : p.id ≡ there.0.id = grind (arith, tests, e) in
          absurd (apart (slot-once os p.slot q.slot q.id by_id (subst (IsSlotOf os p.slot) (same ∙ there.1.1) first) second))

  -- so what is put for it is the same
  put-then : (kind : Kind) (os : List KeptHolder) (before : ℕ) (p : Postings) (placed : List PlacedRow) → AreById os → ArePlaced os p
      → IsPut os kind before graces moment p.to placed → IsPut (map (post graces moment p.from) os) kind before graces moment p.to placed
  put-then kind os before p placed by_id there put = by p.from p.to there.from there.to there.apart put
    where
      by : (first second : Option Posting) → IsPlaced os first → IsPlaced os second → IfSome first (λ f. IfSome second (λ t. f.slot ≢ t.slot))
          → IsPut os kind before graces moment second placed → IsPut (map (post graces moment first) os) kind before graces moment second placed
      by None second one two apart put = subst (λ ps. IsPut ps kind before graces moment second placed) (sym (post-none graces moment os)) put
      by (Some f) None one two apart put = put
      by (Some f) (Some t) one two apart put =
          record { holder = put.holder; there = holder-stays os f t by_id one.slot two.slot apart ∙ put.there; shown = put.shown }

module _ (kind : Kind) (before rest : List BoardRow) (count : ℕ) (long : length before ≡ count) where
  -- the rows of a kind, after so many rows of others and before the rest
  abbrev among : List KeptHolder → List BoardRow
  among os = before ++ (map (board_row_of kind) os ++ rest)

  -- the row of a kept holder stands at its slot, after the others
  row-at : (os : List KeptHolder) (slot : ℕ) (o : KeptHolder) → slice_get os slot ≡ Some o
      → slice_get (among os) (count + slot) ≡ Some (board_row_of kind o)
  row-at os slot o there =
      at-right before (map (board_row_of kind) os ++ rest) count slot long
      ∙ at-left (map (board_row_of kind) os) rest slot (board_row_of kind o)
      (slice_get-map (board_row_of kind) os slot ∙ ap (option_map (board_row_of kind)) there)

  -- a record that does not change has its row
  same-row : (os : List KeptHolder) (p : Posting) (o : KeptHolder) (account : Account) → IsSlotOf os p.slot p.id → slice_get os p.slot ≡ Some o
      → o.account ≡ account → slice_get (among os) (count + p.slot) ≡ Some (board_row kind p.id account)
  same-row os p o account there at kept =
      row-at os p.slot o at ∙ (λ i. Some (board_row kind (id-there os p.slot p.id o there at i) (kept i)))

  -- and one that does has another
  other-row : (os : List KeptHolder) (p : Posting) (o : KeptHolder) (account : Account) → slice_get os p.slot ≡ Some o → o.account ≢ account
      → IsOther (among os) (placed_row kind count p account)
  other-row os p o account at apart = λ same.
      let rows : board_row_of kind o ≡ board_row kind p.id account = same_Some _ _ (sym (row-at os p.slot o at) ∙ same) in
      apart (λ i. record {
        blocks = (rows i).blocks;
        inodes = (rows i).inodes;
        limits = (rows i).limits;
        block_end = (rows i).block_end;
        inode_end = (rows i).inode_end;
      })

  module _ (graces : Graces) (moment : ℕ) where
    -- the row of a posting's record after it, in its place
    set-among : (os : List KeptHolder) (p : Posting) (o : KeptHolder) → AreById os → IsSlotOf os p.slot p.id → slice_get os p.slot ≡ Some o
        → set (among os) (count + p.slot) (board_row kind p.id (account_after p.change o.account graces moment))
        ≡ among (map (post graces moment (Some p)) os)
    set-among os p o by_id there at =
        let row = board_row kind p.id (account_after p.change o.account graces moment) in
        let behind : count + p.slot - count ≡ p.slot = omega arith in
        let within = slot-below os p.slot p.id there in
        let many : length (map (board_row_of kind) os) ≡ length os = length-map os (board_row_of kind) in
        let own : o.id ≡ p.id = id-there os p.slot p.id o there at in
        set-append_right before (map (board_row_of kind) os ++ rest) count (count + p.slot) row long (omega arith)
        ∙ ap (λ n. before ++ set (map (board_row_of kind) os ++ rest) n row) behind
        ∙ ap (λ rows. before ++ rows) (set-append_left (map (board_row_of kind) os) rest p.slot row (omega (arith, within, many)))
        ∙ ap (λ rows. before ++ (rows ++ rest))
        (set-row kind os p.slot p.id (changed_by graces moment p) row by_id there
        (λ q q_at. (λ i. board_row kind (sym own i) (account_after p.change o.account graces moment))
        ∙ ap (λ h. board_row_of kind (changed_by graces moment p h)) (same_Some o q (sym at ∙ q_at))))

    -- what a posting puts leads to the rows after it
    put-one : (os : List KeptHolder) (posting : Option Posting) (placed : List PlacedRow) → AreById os → IsPlaced os posting
        → IsPut os kind count graces moment posting placed → with_rows (among os) placed ≡ among (map (post graces moment posting) os)
    put-one os None placed by_id there put = ap (with_rows (among os)) put ∙ ap among (sym (post-none graces moment os))
    put-one os (Some p) placed by_id there put = by put.shown
      where
        new : Account
        new = account_after p.change put.holder.account graces moment

        by : ShowsChange kind count p put.holder.account new placed → with_rows (among os) placed ≡ among (map (post graces moment (Some p)) os)
        by (inl kept) =
            ap (with_rows (among os)) kept.1
            ∙ sym (set-there (among os) (count + p.slot) (board_row kind p.id new) (same-row os p put.holder new there.slot put.there kept.0))
            ∙ set-among os p put.holder by_id there.slot put.there
        by (inr other) = ap (with_rows (among os)) other.1 ∙ set-among os p put.holder by_id there.slot put.there

    -- and each row of it is another than the one that stood there
    others-one : (os : List KeptHolder) (posting : Option Posting) (placed : List PlacedRow) → IsPut os kind count graces moment posting placed
        → All (IsOther (among os)) placed
    others-one os None placed put = subst (All (IsOther (among os))) (sym put) (All-nil (IsOther (among os)))
    others-one os (Some p) placed put = by put.shown
      where
        new : Account
        new = account_after p.change put.holder.account graces moment

        by : ShowsChange kind count p put.holder.account new placed → All (IsOther (among os)) placed
        by (inl kept) = subst (All (IsOther (among os))) (sym kept.1) (All-nil (IsOther (among os)))
        by (inr other) = subst (All (IsOther (among os))) (sym other.1)
            (All-cons (IsOther (among os)) (placed_row kind count p new) [] (other-row os p put.holder new put.there other.0) (All-nil (IsOther (among os))))

    -- what both postings of a kind put leads to the rows after them
    pub put-both : (os : List KeptHolder) (p : Postings) (placed : List PlacedRow) → AreById os → ArePlaced os p
        → ArePut os kind count graces moment p placed → with_rows (among os) placed ≡ among (map (posted graces moment p) os)
    put-both os p placed by_id there put =
        ap (with_rows (among os)) put.both
        ∙ fold-append with_row (among os) put.first put.second
        ∙ ap (λ rows. with_rows rows put.second) (put-one os p.from put.first by_id there.from put.from)
        ∙ put-one (map (post graces moment p.from) os) p.to put.second (by_id-post graces moment p.from os by_id)
        (placed-then graces moment os p.from p.to there.to) (put-then graces moment kind os count p put.second by_id there put.to)
        ∙ ap among (sym (posted-both graces moment p os))

    -- and each row of it is another than the one that stood there
    pub others-both : (os : List KeptHolder) (p : Postings) (placed : List PlacedRow) → ArePut os kind count graces moment p placed
        → All (IsOther (among os)) placed
    others-both os p placed put = subst (All (IsOther (among os))) (sym put.both)
        (All-append (IsOther (among os)) put.first put.second (others-one os p.from put.first put.from) (others-one os p.to put.second put.to))

module _ (kind : Kind) (os : List KeptHolder) (before : ℕ) (graces : Graces) (moment : ℕ) where
  -- a posting puts one row at most
  few-one : (posting : Option Posting) (placed : List PlacedRow) → IsPut os kind before graces moment posting placed → length placed ≤ 1
  few-one None placed put = subst (λ ps. length ps ≤ 1) (sym put) (omega arith)
  few-one (Some p) placed put = by put.shown
    where
      by : ShowsChange kind before p put.holder.account (account_after p.change put.holder.account graces moment) placed → length placed ≤ 1
      by (inl kept) = subst (λ ps. length ps ≤ 1) (sym kept.1) (omega arith)
      by (inr other) = subst (λ ps. length ps ≤ 1) (sym other.1) (omega arith)

  -- and both of a kind two
  pub few-both : (p : Postings) (placed : List PlacedRow) → ArePut os kind before graces moment p placed → length placed ≤ 2
  few-both p placed put =
      let sum : length placed ≡ length put.first + length put.second = ap length put.both ∙ length-append put.first put.second in
      omega (arith, sum, few-one p.from put.first put.from, few-one p.to put.second put.to)
