-- The board of whatever is played is whole.
use Rattle.std.proofs.Common.{◌≡◌, ℕ, ◌<◌, Bool, true, false, ◌||◌, cond, List, [], ◌∷◌, ◌++◌, length, map, filter, sum_by, Result, Ok, Err, IfOk, refl, sym, ap, ◌∙◌, subst, arith}
use Rattle.std.specs.List.{list_any}
use Rattle.std.proofs.lemmas.Bool.{or_right}
use Rattle.std.proofs.lemmas.List.Folds.{list_any-append}
use Rattle.std.proofs.lemmas.List.Sums.{sum_by-cons}
use Rattle.std.proofs.lemmas.List.Elements.{All-map}
use Rattle.qrules.specs.declared.board_row.BoardRow.{BoardRow}
use Rattle.qrules.specs.declared.kind.Kind.{Kind}
use Rattle.qrules.specs.declared.kind.Kind.TheVariants.{User, Group, Project}
use Rattle.qrules.specs.Kinds.{is_same_kind}
use Rattle.qrules.proofs.Ranks.{same_kind}
use Rattle.qrules.specs.Sort.{Sort, Inodes, Blocks}
use Rattle.qrules.specs.Account.{HasEnds, count_in}
use Rattle.qplain.specs.declared.board.Board.{Board}
use Rattle.qplain.specs.declared.entry.Entry.{Entry}
use Rattle.qplain.specs.declared.look_fault.LookFault.{LookFault}
use Rattle.qplain.specs.Setups.{Setting}
use Rattle.qplain.specs.declared.principal.Principal.{Principal}
use Rattle.qplain.specs.State.{Holder, State, declared_in, holder_of, start}
use Rattle.qplain.specs.Use.{total_of, use_of}
use Rattle.qplain.specs.Journal.{play, played, row_of}
use Rattle.qplain_laws.specs.Beginnings.{IsStateOf}
use Rattle.qplain_laws.specs.Laws.{IsLawful, KeepsSetup, has_kind, identity_of}
use Rattle.qplain_laws.proofs.Balance.{users_and_groups_stand, uses_add_up}
use Rattle.qplain_laws.proofs.Undeclared.{kinds_stay}
use Rattle.qplain_laws.proofs.Tallying.{lawful-played, size-played}
use Rattle.qshare_boards.specs.Boards.{shown_of}
use Rattle.qshare_boards.specs.Laws.{BoardsAreWhole}
use Rattle.qshare_boards.specs.Looks.{IsBoardAnswer}
use Rattle.qshare_boards.specs.Whole.{IsWhole, account_in, sum_in}

abbrev told : Sort → BoardRow → ℕ
told sort r = count_in sort (account_in r)

abbrev used : State → Kind → Sort → Holder → ℕ
used S kind sort h = use_of S kind h.id sort

-- a holder's row tells its use
tells : (S : State) (sort : Sort) (h : Holder) → told sort (row_of S h) ≡ use_of S h.kind h.id sort
tells S Inodes h = refl
tells S Blocks h = refl

-- one holder more adds the same to both sums
one_more : (S : State) (kind : Kind) (sort : Sort) (h : Holder) (rows : List BoardRow) (hs : List Holder) (b : Bool)
    → is_same_kind kind h.kind ≡ b → sum_by (told sort) rows ≡ sum_by (used S kind sort) hs
    → sum_by (told sort) (cond b (row_of S h ∷ rows) rows) ≡ sum_by (used S kind sort) (cond b (h ∷ hs) hs)
one_more S kind sort h rows hs true is rest =
    let here : told sort (row_of S h) ≡ used S kind sort h =
    tells S sort h ∙ ap (λ k. use_of S k h.id sort) (sym (same_kind kind h.kind is)) in
    omega (arith, here, rest, sum_by-cons (told sort) (row_of S h) rows, sum_by-cons (used S kind sort) h hs)
one_more S kind sort h rows hs false is rest = rest

-- the rows of a kind add up to what its holders use
rows_add_up : (S : State) (kind : Kind) (sort : Sort) (hs : List Holder)
    → sum_by (told sort) (filter (λ r. is_same_kind kind r.kind) (map (row_of S) hs))
    ≡ sum_by (used S kind sort) (filter (λ h. is_same_kind kind h.kind) hs)
rows_add_up S kind sort [] = refl
rows_add_up S kind sort (h ∷ hs) =
    one_more S kind sort h (filter (λ r. is_same_kind kind r.kind) (map (row_of S) hs)) (filter (λ g. is_same_kind kind g.kind) hs)
    (is_same_kind kind h.kind) refl (rows_add_up S kind sort hs)

-- no entry declares a kind, and none takes one back
kind_played : (S : State) (kind : Kind) (journal : List Entry) → has_kind (play S journal) kind ≡ has_kind S kind
kind_played S kind [] = refl
kind_played S kind (e ∷ rest) = kind_played (played S e).0 kind rest ∙ kinds_stay S e.cred e.moment e.call kind

-- holders of the same identities are of the same kinds
same-kinds : (kind : Kind) (hs : List Holder) → list_any (λ h. is_same_kind kind h.kind) hs ≡ list_any (λ i. is_same_kind kind i.0) (map identity_of hs)
same-kinds kind [] = refl
same-kinds kind (h ∷ hs) = ap (λ b. is_same_kind kind h.kind || b) (same-kinds kind hs)

-- so a state that keeps another's setup has its kinds
kinds-kept : (R S : State) (kind : Kind) → KeepsSetup R S → has_kind S kind ≡ has_kind R kind
kinds-kept R S kind keeps =
    same-kinds kind S.holders ∙ ap (list_any (λ i. is_same_kind kind i.0)) keeps.holders ∙ sym (same-kinds kind R.holders)

-- projects that a setup declares are those of a new store
any_project : (ps : List Principal) → 0 < length ps → list_any (λ h. is_same_kind Project h.kind) (map (holder_of Project) ps) ≡ true
any_project [] some = absurd (omega (arith, some))
any_project (p ∷ ps) some = refl

projects_begun : (s : Setting) → 0 < length s.projects → has_kind (start s) Project ≡ true
projects_begun s some =
    let is : Holder → Bool = λ h. is_same_kind Project h.kind in
    let later = list_any-append is (declared_in Group s) (declared_in Project s)
    ∙ or_right (list_any is (declared_in Group s)) (list_any is (declared_in Project s)) (any_project s.projects some) in
    list_any-append is (declared_in User s) (declared_in Group s ++ declared_in Project s)
    ∙ or_right (list_any is (declared_in User s)) (list_any is (declared_in Group s ++ declared_in Project s)) later

pub boards_are_whole : BoardsAreWhole
boards_are_whole s begun history is =
    let S : State = play begun history in
    let lawful : IsLawful S = lawful-played begun history is.lawful in
    let sizes = size-played begun history in
    let keeps = is.keeps in
    let stand = users_and_groups_stand S lawful in
    let projects : 0 < length s.projects → has_kind S Project ≡ true =
    λ some. kind_played begun Project history ∙ kinds-kept (start s) begun Project keeps ∙ projects_begun s some in
    let sums : (kind : Kind) (sort : Sort) → has_kind S kind ≡ true → sum_in (shown_of begun history) kind sort ≡ total_of S sort =
    λ kind sort declared. rows_add_up S kind sort S.holders ∙ uses_add_up S kind sort lawful declared in
    record {
      user_blocks = sums User Blocks stand.0;
      group_blocks = sums Group Blocks stand.1;
      user_inodes = sums User Inodes stand.0;
      group_inodes = sums Group Inodes stand.1;
      project_blocks = λ some. sums Project Blocks (projects some);
      project_inodes = λ some. sums Project Inodes (projects some);
      blocks_fit = omega (arith, lawful.blocks_fit, sizes.0, keeps.size);
      inodes_fit = omega (arith, lawful.inodes_fit, sizes.1, keeps.most_inodes);
      ends_stand = All-map (λ (r : BoardRow). HasEnds (account_in r)) (row_of S) S.holders lawful.ends_stand;
    }

-- so is what a look was shown
pub shown_whole : (s : Setting) (S : State) (history : List Entry) (look : Result Board LookFault) → IsStateOf s S
    → IsBoardAnswer S history look → IfOk look (IsWhole s)
shown_whole s S history (Ok b) beginning is = subst (IsWhole s) (sym is) (boards_are_whole s S history beginning)
shown_whole s S history (Err fault) beginning is = tt
