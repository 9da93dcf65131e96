-- What who looks was shown: boards of a history that grows, under versions that rise.
use Rattle.std.proofs.Common.{◌≡◌, ◌≢◌, inl, inr, ℕ, ◌<◌, ◌≤◌, List, [], ◌∷◌, ◌++◌, length, All, Option, Some, None, option_map, refl, sym, ap, subst, append-nil, append_assoc, arith}
use Rattle.std.proofs.lemmas.List.Elements.{All-append, All-cons, All-head, All-nil, All-tail}
use mathlib.Core.List.{IsPrefix}
use Rattle.qplain.specs.declared.board.Board.{Board}
use Rattle.qplain.specs.declared.entry.Entry.{Entry}
use Rattle.qplain.specs.State.{State}
use Rattle.qaudit_checks.specs.LawfulBoards.{AreLawful}
use Rattle.qshare_history.specs.Shares.{HandedIn}
use Rattle.qshare_history.proofs.Prefixes.{prefix_length}
use Rattle.qrun.specs.declared.observer.Observer.{Observer}
use Rattle.qrun.specs.Monitors.{HasSeen, IsShown, IsShownTo, Rise, ShowsNext, ShowsOne, Sight}
use Rattle.qrun.specs.Observers.{IsObservedBy, Observed, observer_left, looks_wanted, monitor_in, seat_in, shown_to}
use Rattle.qrun.specs.Watching.{IsWatchOf, Watched, looks_in, shares_in}
use Rattle.qrun.proofs.Watched.{all_behind, board_lawful, lawful_more, no_boards}

-- what was seen first, and what was seen then
pub seen_on : {Left : Type 0} (first second : List Board) (old mid new : Sight Left) → HasSeen first old mid → HasSeen second mid new
    → HasSeen (first ++ second) old new
seen_on first second old mid new one two boards left seen =
    subst (λ bs. old bs left) (sym (append_assoc first second boards)) (one (second ++ boards) left (two boards left seen))

-- a board whose version is above those of all before may follow them
rises_on : (boards : List Board) (b : Board) → Rise boards → All (λ x. x.version < b.version) boards → Rise (boards ++ b ∷ [])
unfolding Rise
rises_on [] b rising below = (All-nil (λ l. b.version < l.version), tt)
rises_on (x ∷ boards) b rising below =
    let Low : Board → Type 0 = λ y. y.version < b.version in
    let Above : Board → Type 0 = λ l. x.version < l.version in (
      All-append Above boards (b ∷ []) rising.0
          (All-cons Above b [] (All-head Low x boards below) (All-nil Above)),
      rises_on boards b rising.1 (All-tail Low x boards below),
    )

-- the version that was shown last: none of these boards is above it, and as much was seen
abbrev IsLast : Option ℕ → List Board → ℕ → Type 0
IsLast None boards seen = boards ≡ []
IsLast (Some version) boards seen = All (λ b. b.version ≤ version) boards × (version ≤ seen)

last_on : (last : Option ℕ) (boards : List Board) (old new : ℕ) → old ≤ new → IsLast last boards old → IsLast last boards new
last_on None boards old new more is = is
last_on (Some v) boards old new more is = (is.0, omega (arith, is.1, more))

-- so a board of more, under another version, is above all
above_all : (last : Option ℕ) (boards : List Board) (old version : ℕ) → IsLast last boards old → old ≤ version → last ≢ Some version
    → All (λ b. b.version < version) boards
above_all None boards old version none more other = subst (All (λ b. b.version < version)) (sym none) (All-nil (λ b. b.version < version))
above_all (Some v) boards old version is more other =
    let apart : v ≢ version = λ same. other (ap Some same) in
    let less : v < version = grind (arith, is.1, more, apart) in
    λ k d low. omega (arith, is.0 k d low, less)

-- how far a monitor is: the boards that it was shown are of the history that was seen, and rise up to the last one
pub record IsShowing {Left : Type 0} (S : State) (seen : List Entry) (last : Option ℕ) (first now : Sight Left) : Type 0 where
  pub boards : List Board
  pub lawful : AreLawful S seen boards
  pub rising : Rise boards
  pub last_is : IsLast last boards (length seen)
  pub saw : HasSeen boards first now

module _ {Left : Type 0} (S : State) where
  -- it has not begun
  pub shows_nothing : (seen : List Entry) (sees : Sight Left) → IsShowing S seen None sees sees
  unfolding Rise
  shows_nothing seen sees = record {
    boards = [];
    lawful = no_boards S seen;
    rising = tt;
    last_is = refl;
    saw = λ boards left saw. saw;
  }

  -- more was seen, and nothing shown
  pub shows_on : (old new : List Entry) (last : Option ℕ) (first mid now : Sight Left) → IsPrefix old new → IsShowing S old last first mid
      → HasSeen [] mid now → IsShowing S new last first now
  shows_on old new last first mid now more so_far still = record {
    boards = so_far.boards;
    lawful = lawful_more S old new so_far.boards more so_far.lawful;
    rising = so_far.rising;
    last_is = last_on last so_far.boards (length old) (length new) (prefix_length old new more) so_far.last_is;
    saw = λ boards left seen. so_far.saw boards left (still boards left seen);
  }

  -- one board more was shown
  shows_more : (old new : List Entry) (last next : Option ℕ) (first mid now : Sight Left) → IsPrefix old new → IsShowing S old last first mid
      → ShowsOne S new last next mid now → IsShowing S new next first now
  shows_more old new last next first mid now more so_far shown =
      let b = shown.board in
      let longer : length old ≤ length new = prefix_length old new more in
      let version : b.version ≡ length new = ap (λ x. x.version) shown.board_is in
      let below : All (λ x. x.version < b.version) so_far.boards =
      above_all last so_far.boards (length old) b.version so_far.last_is (omega (arith, version, longer)) shown.another in
      let Low : Board → Type 0 = λ x. x.version ≤ b.version in
      record {
        boards = so_far.boards ++ b ∷ [];
        lawful = board_lawful S old new so_far.boards b more so_far.lawful shown.board_is;
        rising = rises_on so_far.boards b so_far.rising below;
        last_is = subst (λ l. IsLast l (so_far.boards ++ b ∷ []) (length new)) (sym shown.next_is) (
          All-append Low so_far.boards (b ∷ []) (λ k d less. omega (arith, below k d less)) (All-cons Low b [] (omega arith) (All-nil Low)),
          omega (arith, version),
        );
        saw = seen_on so_far.boards (b ∷ []) first mid now so_far.saw shown.seen;
      }

  -- after one more look
  pub shows_next : (old new : List Entry) (last next : Option ℕ) (first mid now : Sight Left) → IsPrefix old new → IsShowing S old last first mid
      → ShowsNext S new last next mid now → IsShowing S new next first now
  shows_next old new last next first mid now more so_far (inl shown) = shows_more old new last next first mid now more so_far shown
  shows_next old new last next first mid now more so_far (inr none) =
      subst (λ l. IsShowing S new l first now) (sym none.next_is) (shows_on old new last first mid now more so_far none.seen)

  -- and where it ends
  pub shown_all : (seen : List Entry) (last : Option ℕ) (first now : Sight Left) (left : Left) → IsShowing S seen last first now → now [] left
      → IsShown S seen first left
  shown_all seen last first now left so_far ended = record {
    boards = so_far.boards;
    lawful = so_far.lawful;
    rising = so_far.rising;
    seen = subst (λ bs. first bs left) (append-nil so_far.boards) (so_far.saw [] left ended);
  }

-- what a monitor was shown is the journal's, which begins with all that was seen
shown_more : {M Left : Type 0} (sees : M → Sight Left) (S : State) (seen journal : List Entry) (monitor : Option M) (left : Option Left)
    → IsPrefix seen journal → IsShownTo sees S seen monitor left → IsShownTo sees S journal monitor left
shown_more sees S seen journal None left more none = none
shown_more sees S seen journal (Some m) None more shown = absurd shown
shown_more sees S seen journal (Some m) (Some l) more shown =
    record { boards = shown.boards; lawful = lawful_more S seen journal shown.boards more shown.lawful; rising = shown.rising; seen = shown.seen }

module _ {T M Left : Type 0} (sees : M → Sight Left) (S : State) where
  -- who has seen boards has looked from a seat
  pub watched_by : (observer : Option (Observer T M Left)) (observed : Option (Observed Left)) → IsObservedBy sees S observer observed
      → IsWatchOf S (looks_wanted observer) (option_map seat_in observer) (option_map (λ o. o.watch) observed)
  watched_by None observed none = ap (option_map (λ o. o.watch)) none
  watched_by (Some o) None is = absurd is
  watched_by (Some o) (Some observed) is = is.watch

  -- and has kept as many looks as it was to keep
  pub kept_by : (observer : Option (Observer T M Left)) (observed : Option (Observed Left)) → IsObservedBy sees S observer observed
      → length (looks_in (option_map (λ o. o.watch) observed)) ≡ looks_wanted observer
  kept_by None observed none = ap (λ (o : Option (Observed Left)). length (looks_in (option_map (λ x. x.watch) o))) none
  kept_by (Some o) None is = absurd is
  kept_by (Some o) (Some observed) is = is.watch.each

  shown_by : (journal : List Entry) (observer : Option (Observer T M Left)) (observed : Option (Observed Left)) → IsObservedBy sees S observer observed
      → All (λ s. IsPrefix s.seen journal) (shares_in (option_map (λ o. o.watch) observed))
      → IsShownTo sees S journal (shown_to observer) (observer_left observed)
  shown_by journal None observed none seen = ap observer_left none
  shown_by journal (Some o) None is seen = absurd is
  shown_by journal (Some o) (Some observed) is seen =
      shown_more sees S observed.watch.share.seen journal (monitor_in o) observed.left
      (All-head (λ (s : HandedIn). IsPrefix s.seen journal) observed.watch.share [] seen) is.shown

  -- so it is told where all seats have handed in
  pub monitor_shown : (journal entries : List Entry) (own shares : List HandedIn) (watch : Option Watched) (observer : Option (Observer T M Left))
      (observed : Option (Observed Left)) (left : Option Left) → IsObservedBy sees S observer observed
      → watch ≡ option_map (λ o. o.watch) observed → left ≡ observer_left observed → shares ≡ own ++ shares_in watch
      → All (λ s. IsPrefix s.seen journal) shares → entries ≡ journal → IsShownTo sees S entries (shown_to observer) left
  monitor_shown journal entries own shares watch observer observed left is watch_is left_is parts seen entries_are =
      let Seen : HandedIn → Type 0 = λ s. IsPrefix s.seen journal in
      let last : All Seen (shares_in watch) = all_behind Seen own (shares_in watch) (subst (All Seen) parts seen) in
      rw (entries_are, left_is) (shown_by journal observer observed is (subst (λ (w : Option Watched). All Seen (shares_in w)) watch_is last))
