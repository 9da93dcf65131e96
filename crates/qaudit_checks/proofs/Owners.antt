-- Every owner of a lawful state's rows has a record.
use Rattle.std.proofs.Common.{◌≡◌, ℕ, ◌==◌, true, false, ◌&&◌, not, List, [], ◌∷◌, map, All, Option, Some, None, IfSome, refl, ap, subst, ◌∙◌}
use Rattle.std.specs.List.{cons_option, filter_map, list_any}
use Rattle.std.specs.Map.{values_of}
use Rattle.std.proofs.lemmas.List.Elements.{All-cons, All-head, All-nil, All-tail}
use Rattle.qrules.specs.declared.kind.Kind.{Kind}
use Rattle.qrules.specs.Kinds.{is_same_kind}
use Rattle.qrules.proofs.Ranks.{each_kind}
use Rattle.qplain.specs.Known.{is_declared}
use Rattle.qplain.specs.State.{Inode, State}
use Rattle.qplain.specs.Use.{owner}
use Rattle.qplain_laws.specs.Laws.{AreKnown, is_known_owner}
use Rattle.qaudit.specs.Recount.{ascending, owner_of}
use Rattle.qaudit.specs.Differences.{has_record}
use Rattle.qstore.specs.Rows.{inode_row_of, record_row_of}
use Rattle.qaudit_checks.specs.OwnRows.{inode_rows, record_rows}
use Rattle.qaudit_checks.proofs.Ids.{All-ascending}
use Rattle.qaudit_checks.proofs.Rows.{list_any-map}

-- a record is for an id where a holder is
recorded-declared : (S : State) (kind : Kind) (id : ℕ) → has_record kind (record_rows S) id ≡ is_declared S kind id
recorded-declared S kind id =
    list_any-map (λ r. is_same_kind kind r.kind && id == r.id) (record_row_of S) S.holders

-- a row has the owners of its inode
own_row : (S : State) (kind : Kind) (e : ℕ × Inode) → owner kind e.1.owners ≡ owner_of kind (inode_row_of S e)
own_row S kind e = each_kind (λ k. owner k e.1.owners ≡ owner_of k (inode_row_of S e)) refl refl refl kind

-- of a known inode the owner of each kind is declared, if it has one
owner-declared : (S : State) (kind : Kind) (e : ℕ × Inode) → AreKnown S e.1.owners → (o : Option ℕ) → owner_of kind (inode_row_of S e) ≡ o
    → IfSome o (λ id. is_declared S kind id ≡ true)
owner-declared S kind e known None is = tt
owner-declared S kind e known (Some id) is = subst (λ o. is_known_owner S kind o ≡ true) (own_row S kind e ∙ is) (known kind)

owners-recorded : (S : State) (kind : Kind) (es : List (ℕ × Inode)) → All (λ inode. AreKnown S inode.owners) (values_of es)
    → All (λ id. has_record kind (record_rows S) id ≡ true) (filter_map (owner_of kind) (map (inode_row_of S) es))
owners-recorded S kind [] known = All-nil (λ id. has_record kind (record_rows S) id ≡ true)
owners-recorded S kind (e ∷ es) known =
    let Known : Inode → Type 0 = λ inode. AreKnown S inode.owners in
    by (owner_of kind (inode_row_of S e)) (owner-declared S kind e (All-head Known e.1 (values_of es) known) _ refl)
    (filter_map (owner_of kind) (map (inode_row_of S) es)) (owners-recorded S kind es (All-tail Known e.1 (values_of es) known))
  where
    by : (o : Option ℕ) → IfSome o (λ id. is_declared S kind id ≡ true) → (ids : List ℕ) → All (λ id. has_record kind (record_rows S) id ≡ true) ids
        → All (λ id. has_record kind (record_rows S) id ≡ true) (cons_option o ids)
    by None declared ids all = all
    by (Some id) declared ids all =
        All-cons (λ i. has_record kind (record_rows S) i ≡ true) id ids (recorded-declared S kind id ∙ declared) all

-- no owner is without a record
pub not_forgotten : (S : State) (kind : Kind) → All (λ inode. AreKnown S inode.owners) (values_of S.inodes)
    → All (λ id. not (has_record kind (record_rows S) id) ≡ false) (ascending (filter_map (owner_of kind) (inode_rows S)))
not_forgotten S kind known k d less =
    ap not (All-ascending (λ id. has_record kind (record_rows S) id ≡ true) (filter_map (owner_of kind) (inode_rows S))
    (owners-recorded S kind S.inodes known) k d less)
