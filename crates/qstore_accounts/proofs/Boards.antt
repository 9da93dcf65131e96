-- What a bill does to a board: each row that it changes stands in its place, and is another than the one before.
use Rattle.std.proofs.Common.{◌≡◌, ◌+◌, List, [], ◌∷◌, ◌++◌, append_assoc, length, map, All, refl, sym, ap, subst, ◌∙◌, arith}
use Rattle.std.proofs.lemmas.List.{append-nil, length-append, length-map}
use Rattle.std.proofs.lemmas.List.Elements.{All-append, All-head, All-tail}
use Rattle.std.proofs.lemmas.List.Sums.{fold-append}
use Rattle.qrules.specs.declared.board_row.BoardRow.{BoardRow}
use Rattle.qrules.specs.declared.kind.Kind.{Kind}
use Rattle.qrules.specs.declared.kind.Kind.TheVariants.{User, Group, Project}
use Rattle.qplain.specs.declared.placed_row.PlacedRow.{PlacedRow}
use Rattle.qplain.specs.State.{State}
use Rattle.qplain.specs.Boards.{AreChangedRows, IsOther, rows_of, with_row, with_rows}
use Rattle.qplain.specs.Journal.{row_of}
use Rattle.qstore_accounts.specs.declared.bill.Bill.{Bill}
use Rattle.qstore_accounts.specs.declared.bill.Postings.{Postings}
use Rattle.qstore_accounts.specs.declared.kept_holder.KeptHolder.{KeptHolder}
use Rattle.qstore_accounts.specs.Bills.{IsBillFor, posted, settled}
use Rattle.qstore_accounts.specs.Boards.{ArePut, board_row, board_row_of, rows_in}
use Rattle.qstore_accounts.specs.Books.{AreBooksOf, AreInRange, Books, ledger_in}
use Rattle.qstore_accounts.specs.KeptHolders.{IsCountedIn, holder_in}
use Rattle.qstore_accounts.proofs.Across.{across-same, map-across}
use Rattle.qstore_accounts.proofs.Counted.{account_of-counted}
use Rattle.qstore_accounts.proofs.Placing.{few-both, others-both, put-both}

-- ---- the rows of the records are those of the holders

rows-of-counted : (S : State) (kind : Kind) (os : List KeptHolder) → All (IsCountedIn S kind) os
    → map (board_row_of kind) os ≡ map (row_of S) (map (holder_in kind) os)
rows-of-counted S kind [] all = refl
rows-of-counted S kind (o ∷ os) all =
    let here : board_row_of kind o ≡ row_of S (holder_in kind o) =
    ap (board_row kind o.id) (sym (account_of-counted S kind o (All-head (IsCountedIn S kind) o os all))) in
    let rest = rows-of-counted S kind os (All-tail (IsCountedIn S kind) o os all) in
    λ i. here i ∷ rest i

-- the rows of a board are those of the books
pub rows-of-books : (S : State) (b : Books) → AreBooksOf S b → rows_in (λ kind. ledger_in kind b) ≡ rows_of S
rows-of-books S b books =
    across-same (λ kind. map (board_row_of kind) (ledger_in kind b)) (λ kind. map (row_of S) (map (holder_in kind) (ledger_in kind b)))
    (λ kind. rows-of-counted S kind (ledger_in kind b) (books.counted kind))
    ∙ sym (map-across (row_of S) (λ kind. map (holder_in kind) (ledger_in kind b)))
    ∙ ap (map (row_of S)) (sym books.holders)

-- ---- all of a bill

-- three lists, the last of them behind the other two and before nothing
three : (us gs ps : List BoardRow) → us ++ (gs ++ ps) ≡ (us ++ gs) ++ (ps ++ [])
three us gs ps = sym (append_assoc us gs ps) ∙ ap (λ rows. (us ++ gs) ++ rows) (sym (append-nil ps))

module _ (b : Books) (bill : Bill) (there : IsBillFor b bill) (us gs ps : List PlacedRow)
    (users : ArePut b.users User 0 b.graces bill.moment bill.users us)
    (groups : ArePut b.groups Group (length b.users) b.graces bill.moment bill.groups gs)
    (projects : ArePut b.projects Project (length b.users + length b.groups) b.graces bill.moment bill.projects ps) where
  -- the rows of a kind before a bill and after it
  abbrev before : Kind → List BoardRow
  before kind = map (board_row_of kind) (ledger_in kind b)

  abbrev after : Kind → List BoardRow
  after kind = map (board_row_of kind) (ledger_in kind (settled bill b))

  -- there are as many after it
  as_many : (kind : Kind) (os : List KeptHolder) (p : Postings) → length (map (board_row_of kind) (map (posted b.graces bill.moment p) os)) ≡ length os
  as_many kind os p = length-map (map (posted b.graces bill.moment p) os) (board_row_of kind) ∙ length-map os (posted b.graces bill.moment p)

  -- the rows after a bill
  rows-billed : AreInRange b → with_rows (rows_in (λ kind. ledger_in kind b)) (us ++ (gs ++ ps)) ≡ rows_in (λ kind. ledger_in kind (settled bill b))
  rows-billed in_range =
      let long : length (after User) ≡ length b.users = as_many User b.users bill.users in
      let both : length (after User ++ after Group) ≡ length b.users + length b.groups =
      length-append (after User) (after Group) ∙ (λ i. long i + as_many Group b.groups bill.groups i) in
      fold-append with_row (before User ++ (before Group ++ before Project)) us (gs ++ ps)
      ∙ ap (λ rows. with_rows rows (gs ++ ps))
      (put-both User [] (before Group ++ before Project) 0 refl b.graces bill.moment b.users bill.users us in_range.users there.users users)
      ∙ fold-append with_row (after User ++ (before Group ++ before Project)) gs ps
      ∙ ap (λ rows. with_rows rows ps)
      (put-both Group (after User) (before Project) (length b.users) long b.graces bill.moment b.groups bill.groups gs in_range.groups there.groups groups)
      ∙ ap (λ rows. with_rows rows ps) (three (after User) (after Group) (before Project))
      ∙ put-both Project (after User ++ after Group) [] (length b.users + length b.groups) both b.graces bill.moment b.projects bill.projects ps
      in_range.projects there.projects projects
      ∙ sym (three (after User) (after Group) (after Project))

  -- each row that is put is another than the one before
  others-billed : All (IsOther (rows_in (λ kind. ledger_in kind b))) (us ++ (gs ++ ps))
  others-billed =
      let old = rows_in (λ kind. ledger_in kind b) in
      let wide : length (before User ++ before Group) ≡ length b.users + length b.groups =
      length-append (before User) (before Group)
      ∙ (λ i. length-map b.users (board_row_of User) i + length-map b.groups (board_row_of Group) i) in
      All-append (IsOther old) us (gs ++ ps)
      (others-both User [] (before Group ++ before Project) 0 refl b.graces bill.moment b.users bill.users us users)
      (All-append (IsOther old) gs ps
      (others-both Group (before User) (before Project) (length b.users) (length-map b.users (board_row_of User)) b.graces bill.moment b.groups bill.groups gs
      groups)
      (subst (λ rows. All (IsOther rows) ps) (sym (three (before User) (before Group) (before Project)))
      (others-both Project (before User ++ before Group) [] (length b.users + length b.groups) wide b.graces bill.moment b.projects bill.projects ps
      projects)))

  -- so what is put are the rows that change
  pub changed-billed : (S S1 : State) → AreInRange b → AreBooksOf S b → AreBooksOf S1 (settled bill b)
      → AreChangedRows S (us ++ (gs ++ ps)) S1
  changed-billed S S1 in_range old new =
      let rows : rows_in (λ kind. ledger_in kind b) ≡ rows_of S = rows-of-books S b old in
      let sum : length (us ++ (gs ++ ps)) ≡ length us + (length gs + length ps) =
      length-append us (gs ++ ps) ∙ ap (λ n. length us + n) (length-append gs ps) in
      record {
        leads = ap (λ rs. with_rows rs (us ++ (gs ++ ps))) (sym rows) ∙ rows-billed in_range ∙ rows-of-books S1 (settled bill b) new;
        few = omega (
          arith,
          sum,
          few-both User b.users 0 b.graces bill.moment bill.users us users,
          few-both Group b.groups (length b.users) b.graces bill.moment bill.groups gs groups,
          few-both Project b.projects (length b.users + length b.groups) b.graces bill.moment bill.projects ps projects,
        );
        others = subst (λ rs. All (IsOther rs) (us ++ (gs ++ ps))) rows others-billed;
      }
