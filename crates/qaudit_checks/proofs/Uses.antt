-- What a recount finds of each owner of a state's rows is its recounted use.
use Rattle.std.proofs.Common.{◌≡◌, ℕ, ◌+◌, ◌==◌, Bool, true, false, ◌||◌, cond, count_by, List, [], ◌∷◌, map, Option, Some, None, refl, sym, ap, ◌∙◌, arith}
use Rattle.std.proofs.Common.{sum_by, tests}
use Rattle.std.specs.List.{cons_option, filter_map, find}
use Rattle.std.specs.Option.{unwrap_or}
use Rattle.std.proofs.lemmas.Bool.{eqb-true}
use Rattle.std.proofs.lemmas.List.Sums.{sum_by-cons}
use Rattle.qrules.specs.declared.inode_row.InodeRow.{InodeRow}
use Rattle.qrules.specs.declared.kind.Kind.{Kind}
use Rattle.qrules.specs.Kinds.{is_id}
use Rattle.qrules.proofs.Ranks.{each_kind}
use Rattle.qrules.specs.declared.record_row.RecordRow.{RecordRow}
use Rattle.qrules.specs.Sort.{Inodes, Blocks}
use Rattle.qplain.specs.State.{Holder, Inode, State}
use Rattle.qplain.specs.Use.{charge_to}
use Rattle.qaudit.specs.declared.counts.CountRow.{CountRow}
use Rattle.qaudit.specs.Recount.{ascending, blocks_to, count_of, counts_by, is_owned, owner_of, recount_of}
use Rattle.qaudit.specs.Differences.{counted_for, counted_of, counts_in, is_off, no_use}
use Rattle.qstore.specs.Rows.{inode_row_of, record_row_of}
use Rattle.qaudit_checks.specs.OwnRows.{inode_rows, name_rows}
use Rattle.qaudit_checks.proofs.Ids.{among-ascending, is_among}
use Rattle.qaudit_checks.proofs.Rows.{sum_by-rows}

first_found : {X : Type 0} (here later : Bool) (c d : X) → (here ≡ true → c ≡ d)
    → cond here (Some c) (cond later (Some d) None) ≡ cond (here || later) (Some d) None
first_found true later c d same = ap Some (same refl)
first_found false later c d same = refl

-- an owner's count is found among the counts of the owners
count-found : (kind : Kind) (rows : List InodeRow) (id : ℕ) (ids : List ℕ)
    → find (λ c. c.id == id) (map (count_of kind rows) ids) ≡ cond (is_among id ids) (Some (count_of kind rows id)) None
count-found kind rows id [] = refl
count-found kind rows id (n ∷ ids) =
    ap (cond (n == id) (Some (count_of kind rows n))) (count-found kind rows id ids)
    ∙ first_found (n == id) (is_among id ids) (count_of kind rows n) (count_of kind rows id) (λ same. ap (count_of kind rows) (eqb-true n id same))

neither-first : (a b : Bool) → (a || b) ≡ false → a ≡ false
neither-first true b h = h
neither-first false b h = refl

neither-second : (a b : Bool) → (a || b) ≡ false → b ≡ false
neither-second true b h = cc
neither-second false b h = h

-- who is not among the owners with that of one row more is not that row's owner, and not among the others
neither : (id : ℕ) (o : Option ℕ) (ids : List ℕ) → is_among id (cons_option o ids) ≡ false → (is_id id o ≡ false) × (is_among id ids ≡ false)
neither id None ids none = (refl, none)
neither id (Some n) ids none = (neither-first (n == id) (is_among id ids) none, neither-second (n == id) (is_among id ids) none)

-- who owns no row has no block
no_blocks : (kind : Kind) (id : ℕ) (rows : List InodeRow) → is_among id (filter_map (owner_of kind) rows) ≡ false
    → sum_by (blocks_to kind id) rows ≡ 0
no_blocks kind id [] none = refl
no_blocks kind id (row ∷ rows) none =
    let parts = neither id (owner_of kind row) (filter_map (owner_of kind) rows) none in
    let later = no_blocks kind id rows parts.1 in
    sum_by-cons (blocks_to kind id) row rows ∙ (λ i. cond (parts.0 i) row.blocks 0 + later i)

-- and no inode
no_inodes : (kind : Kind) (id : ℕ) (rows : List InodeRow) → is_among id (filter_map (owner_of kind) rows) ≡ false
    → count_by (is_owned kind id) rows ≡ 0
no_inodes kind id [] none = refl
no_inodes kind id (row ∷ rows) none =
    let parts = neither id (owner_of kind row) (filter_map (owner_of kind) rows) none in
    let later = no_inodes kind id rows parts.1 in
    sum_by-cons (λ r. cond (is_owned kind id r) 1 0) row rows ∙ (λ i. cond (parts.0 i) 1 0 + later i)

no_count : (kind : Kind) (rows : List InodeRow) (id : ℕ) → is_among id (filter_map (owner_of kind) rows) ≡ false → no_use id ≡ count_of kind rows id
no_count kind rows id none = λ i. record {
  id = id;
  blocks = sym (no_blocks kind id rows none) i;
  inodes = sym (no_inodes kind id rows none) i;
}

-- whoever is asked for: what is counted of it is what its rows come to
pub counted-own : (kind : Kind) (rows : List InodeRow) (id : ℕ) → counted_of (counts_by kind rows) id ≡ count_of kind rows id
counted-own kind rows id =
    let ids = ascending (filter_map (owner_of kind) rows) in
    ap (λ o. unwrap_or o (no_use id)) (count-found kind rows id ids)
    ∙ elim (is_among id ids) as (λ b. is_among id ids ≡ b → unwrap_or (cond b (Some (count_of kind rows id)) None) (no_use id) ≡ count_of kind rows id) [
      | true ↦ λ among. refl
      | false ↦ λ among. no_count kind rows id (sym (among-ascending id (filter_map (owner_of kind) rows)) ∙ among)
    ] refl

same_blocks : (S : State) (kind : Kind) (id : ℕ) (e : ℕ × Inode) → blocks_to kind id (inode_row_of S e) ≡ charge_to kind id Blocks e.1
same_blocks S kind id e =
    each_kind (λ k. blocks_to k id (inode_row_of S e) ≡ charge_to k id Blocks e.1) refl refl refl kind

same_inodes : (S : State) (kind : Kind) (id : ℕ) (e : ℕ × Inode) → cond (is_owned kind id (inode_row_of S e)) 1 0 ≡ charge_to kind id Inodes e.1
same_inodes S kind id e =
    each_kind (λ k. cond (is_owned k id (inode_row_of S e)) 1 0 ≡ charge_to k id Inodes e.1) refl refl refl kind

-- the counts of a kind are those that a recount makes of it
counts-kind : (kind : Kind) (S : State) → counts_in kind (recount_of (inode_rows S) (name_rows S)) ≡ counts_by kind (inode_rows S)
counts-kind kind S =
    each_kind (λ k. counts_in k (recount_of (inode_rows S) (name_rows S)) ≡ counts_by k (inode_rows S)) refl refl refl kind

on : (r : RecordRow) (c : CountRow) → c.blocks ≡ r.blocks → c.inodes ≡ r.inodes → is_off c r ≡ false
on r c blocks inodes = rw (blocks, inodes) (grind (arith, tests))

-- no record of a state shows another use than a recount of its rows
pub not_off : (S : State) (h : Holder)
    → is_off (counted_for (recount_of (inode_rows S) (name_rows S)) (record_row_of S h)) (record_row_of S h) ≡ false
not_off S h =
    let counted = ap (λ counts. counted_of counts h.id) (counts-kind h.kind S) ∙ counted-own h.kind (inode_rows S) h.id in
    on (record_row_of S h) (counted_for (recount_of (inode_rows S) (name_rows S)) (record_row_of S h))
    (ap (λ c. c.blocks) counted ∙ sum_by-rows (blocks_to h.kind h.id) (charge_to h.kind h.id Blocks) (inode_row_of S) S.inodes (same_blocks S h.kind h.id))
    (ap (λ c. c.inodes) counted ∙ sum_by-rows (λ r. cond (is_owned h.kind h.id r) 1 0) (charge_to h.kind h.id Inodes) (inode_row_of S) S.inodes
    (same_inodes S h.kind h.id))
