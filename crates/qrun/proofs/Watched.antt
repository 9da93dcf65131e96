-- Shares with that of the watcher after them, and what its looks were given: lawful boards, whose history grows.
use Rattle.std.proofs.Common.{◌≡◌, ℕ, ◌+◌, ◌<◌, ◌≤◌, ◌==◌, ◌||◌, if◌then◌else◌, Bool, true, false, List, [], ◌∷◌, ◌++◌, length, take, sum_by, All, Option, Some, None, Result, Ok, Err, refl, sym, ap, subst, ◌∙◌, append-nil, length-append, le_trans, arith, tests}
use Rattle.std.proofs.Math.Bool.{or-true}
use Rattle.std.proofs.Math.Seq.{take-length}
use Rattle.std.proofs.lemmas.List.{get_or_append_left, take-append-le}
use Rattle.std.proofs.lemmas.List.Elements.{All-head, All-nil, All-push, All-tail}
use Rattle.std.proofs.lemmas.List.Sums.{sum_by-cons}
use Rattle.std.proofs.lemmas.List.Folds.{list_any-append}
use Rattle.std.specs.List.{list_any}
use mathlib.Core.List.{IsPrefix}
use Rattle.qplain.specs.declared.board.Board.{Board}
use Rattle.qplain.specs.declared.entry.Entry.{Entry}
use Rattle.qplain.specs.declared.look_fault.LookFault.{LookFault}
use Rattle.qplain.specs.State.{State}
use Rattle.qplain.specs.Journal.{board_of, play}
use Rattle.qshare_history.specs.Shares.{AreThere, HandedIn}
use Rattle.qshare_history.proofs.Prefixes.{prefix_length}
use Rattle.qaudit_checks.specs.LawfulBoards.{AreLawful, IsBoardOf, NeverFall, boards_in}
use Rattle.qaudit_checks.proofs.SeenBoards.{boards_in-append}
use Rattle.qshare_boards.specs.Looks.{IsBoardAnswer}
use Rattle.qshare.specs.Seats.{new_seat}
use Rattle.qrun.specs.Watching.{IsWatchOf, Watched, looks_in, shares_in}

-- what all of these are, the first of them are
pub all_front : {A : Type 0} (P : A → Type 0) (xs ys : List A) → All P (xs ++ ys) → All P xs
all_front P xs ys all k d less =
    subst P (get_or_append_left xs ys d k less) (all k d (omega (arith, less, length-append xs ys)))

-- the share of the next seat after those that are there
there_last : (n k : ℕ) (shares : List HandedIn) (s : HandedIn) (b : Bool) → (s.worker == k) ≡ b → AreThere shares n → s.worker ≡ n + 1
    → 0 < k → k ≤ n + 1 → list_any (λ x. x.worker == k) (shares ++ s ∷ []) ≡ true
there_last n k shares s true is there own positive few =
    let found : (list_any (λ x. x.worker == k) shares || ((s.worker == k) || false)) ≡ true =
    rw is (or-true (list_any (λ x. x.worker == k) shares)) in
    list_any-append (λ (x : HandedIn). x.worker == k) shares (s ∷ []) ∙ found
there_last n k shares s false is there own positive few =
    let low : k ≤ n = grind (arith, tests, is, own, few) in
    let found : (list_any (λ x. x.worker == k) shares || ((s.worker == k) || false)) ≡ true = rw (there k positive low) refl in
    list_any-append (λ (x : HandedIn). x.worker == k) shares (s ∷ []) ∙ found

pub there_by : (S : State) (n boards : ℕ) (shares : List HandedIn) (watch : Option Watched) (b : Bool) → AreThere shares n
    → IsWatchOf S boards (if b then None else Some (new_seat (n + 1))) watch
    → AreThere (shares ++ shares_in watch) (if b then n else n + 1)
there_by S n boards shares watch true there none =
    subst (λ (o : Option Watched). AreThere (shares ++ shares_in o) n) (sym none) (subst (λ xs. AreThere xs n) (sym (append-nil shares)) there)
there_by S n boards shares (Some w) false there looked =
    λ k positive few. there_last n k shares w.share (w.share.worker == k) refl there looked.worker_is positive few
there_by S n boards shares None false there looked = absurd looked

-- who watches has counted no call
pub idle_by : (S : State) (n boards : ℕ) (watch : Option Watched) (b : Bool) → IsWatchOf S boards (if b then None else Some (new_seat (n + 1))) watch
    → sum_by (λ s. s.tally.calls) (shares_in watch) ≡ 0
idle_by S n boards None b looked = refl
idle_by S n boards (Some w) true looked = absurd cc
idle_by S n boards (Some w) false looked = omega (arith, looked.idle, sum_by-cons (λ (s : HandedIn). s.tally.calls) w.share [])

-- ---- lawful boards

-- no boards are lawful
pub no_boards : (S : State) (journal : List Entry) → AreLawful S journal []
unfolding NeverFall
no_boards S journal = record { each = All-nil (IsBoardOf S journal); rising = tt }

-- a history's board is that of one which goes on with it
board_more : (S : State) (old new : List Entry) (b : Board) → IsPrefix old new → IsBoardOf S old b → IsBoardOf S new b
board_more S old new b more is =
    let first : take b.version new ≡ take b.version old =
    ap (take b.version) (sym more.1) ∙ take-append-le b.version old more.0 is.within in
    record {
      within = le_trans is.within (prefix_length old new more);
      shows = is.shows ∙ ap (λ j. board_of (play S j) b.version) (sym first);
    }

-- and so are all its lawful boards
pub lawful_more : (S : State) (old new : List Entry) (boards : List Board) → IsPrefix old new → AreLawful S old boards → AreLawful S new boards
lawful_more S old new boards more lawful =
    record { each = λ k d less. board_more S old new _ more (lawful.each k d less); rising = lawful.rising }

-- a version that none of these is above may follow them
rises : (version : ℕ) (boards : List Board) (b : Board) → NeverFall version boards → version ≤ b.version → All (λ x. x.version ≤ b.version) boards
    → NeverFall version (boards ++ b ∷ [])
unfolding NeverFall
rises version [] b rising low all = (low, tt)
rises version (x ∷ boards) b rising low all =
    let Low : Board → Type 0 = λ y. y.version ≤ b.version in
    (rising.0, rises x.version boards b rising.1 (All-head Low x boards all) (All-tail Low x boards all))

-- the board of all that was seen
board_now : (S : State) (seen : List Entry) (b : Board) → b ≡ board_of (play S seen) (length seen) → IsBoardOf S seen b
board_now S seen b is =
    let version : b.version ≡ length seen = ap (λ x. x.version) is in
    let all : take b.version seen ≡ seen = ap (λ n. take n seen) version ∙ take-length seen in
    record { within = omega (arith, version); shows = is ∙ (λ i. board_of (play S (sym all i)) (sym version i)) }

-- one board more, of all that was seen then
pub board_lawful : (S : State) (old new : List Entry) (boards : List Board) (b : Board) → IsPrefix old new → AreLawful S old boards
    → b ≡ board_of (play S new) (length new) → AreLawful S new (boards ++ b ∷ [])
board_lawful S old new boards b more so_far shown =
    let before : AreLawful S new boards = lawful_more S old new boards more so_far in
    let version : b.version ≡ length new = ap (λ x. x.version) shown in
    record {
      each = All-push (IsBoardOf S new) boards b before.each (board_now S new b shown);
      rising = rises 0 boards b before.rising (omega arith) (λ k d less. omega (arith, (before.each k d less).within, version));
    }

-- one look more, at the board of all that was seen then
pub look_more : (S : State) (old new : List Entry) (looks after : List (Result Board LookFault)) (look : Result Board LookFault)
    → AreLawful S old (boards_in looks) → IsPrefix old new → IsBoardAnswer S new look → after ≡ looks ++ look ∷ []
    → AreLawful S new (boards_in after)
look_more S old new looks after (Ok b) so_far more shown is =
    subst (AreLawful S new) (sym (ap boards_in is ∙ boards_in-append looks (Ok b ∷ [])))
    (board_lawful S old new (boards_in looks) b more so_far shown)
look_more S old new looks after (Err fault) so_far more shown is =
    subst (AreLawful S new) (sym (ap boards_in is ∙ boards_in-append looks (Err fault ∷ []) ∙ append-nil (boards_in looks)))
    (lawful_more S old new (boards_in looks) more so_far)

-- what all of these are, the last of them are
pub all_behind : {A : Type 0} (P : A → Type 0) (xs ys : List A) → All P (xs ++ ys) → All P ys
all_behind P [] ys all = all
all_behind P (x ∷ xs) ys all = all_behind P xs ys (All-tail P x (xs ++ ys) all)

pub lawful_by : (S : State) (n boards : ℕ) (watch : Option Watched) (journal : List Entry) (b : Bool)
    → IsWatchOf S boards (if b then None else Some (new_seat (n + 1))) watch → All (λ s. IsPrefix s.seen journal) (shares_in watch)
    → AreLawful S journal (boards_in (looks_in watch))
lawful_by S n boards None journal b looked seen = no_boards S journal
lawful_by S n boards (Some w) journal true looked seen = absurd cc
lawful_by S n boards (Some w) journal false looked seen =
    lawful_more S w.share.seen journal (boards_in w.looks) (All-head (λ (s : HandedIn). IsPrefix s.seen journal) w.share [] seen) looked.lawful
