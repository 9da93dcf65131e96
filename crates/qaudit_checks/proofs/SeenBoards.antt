-- Boards that are seen one after the other beside a journal.
use Rattle.std.proofs.Common.{◌≡◌, ℕ, ◌+◌, ◌-◌, ◌<◌, ◌≤◌, Bool, true, false, List, [], ◌∷◌, ◌++◌, length, take, drop, get_or, slice_range, append-nil, append_assoc, length-append, All, Decides, Result, Ok, Err, IfOk, refl, sym, ap, subst, ◌∙◌, add-one, drop-cons, arith}
use Rattle.std.proofs.Math.Seq.{take-add, take-suc}
use Rattle.std.proofs.lemmas.List.{get_or_append_left, get_or_push, length_push, length-take-le, take-append-drop}
use Rattle.std.proofs.lemmas.List.Elements.{All-nil, All-push}
use Rattle.std.proofs.lemmas.List.Sums.{fold-append}
use Rattle.qplain.specs.declared.board.Board.{Board}
use Rattle.qplain.specs.declared.entry.Entry.{Entry}
use Rattle.qplain.specs.declared.look_fault.LookFault.{LookFault}
use Rattle.qplain.specs.Journal.{board_of, play, played}
use Rattle.qplain.specs.State.{State}
use Rattle.qaudit_checks.specs.declared.board_fault.BoardFault.TheVariants.{Board as AtBoard}
use Rattle.qaudit_checks.specs.declared.checker.Checker.{Checker}
use Rattle.qaudit_checks.specs.LawfulBoards.{AreLawful, BoardFailsAt, IsBoardOf, IsVerdictOn, NeverFall, boards_in}
use Rattle.qaudit_checks.specs.SeenBoards.{AreSeenBoards, IsJudged, last_version}

-- ---- entries

-- the state that the first entries leave, and then those up to another place
pub played-on : (S : State) (entries : List Entry) (from to : ℕ) → from ≤ to
    → play (play S (take from entries)) (slice_range entries from to) ≡ play S (take to entries)
played-on S entries from to on =
    let whole : from + (to - from) ≡ to = omega (arith, on) in
    sym (fold-append (λ T x. (played T x).0) S (take from entries) (slice_range entries from to))
    ∙ ap (play S) (sym (take-add from (to - from) entries) ∙ ap (λ n. take n entries) whole)

-- ---- versions

-- the last of one more is its own
last-push : (version : ℕ) (boards : List Board) (b : Board) → last_version version (boards ++ b ∷ []) ≡ b.version
unfolding last_version
last-push version [] b = refl
last-push version (x ∷ boards) b = last-push x.version boards b

-- one more, whose version is not below the last, leaves them never falling
rising-push : (version : ℕ) (boards : List Board) (b : Board) → NeverFall version boards → last_version version boards ≤ b.version
    → NeverFall version (boards ++ b ∷ [])
unfolding last_version NeverFall
rising-push version [] b rising last = (last, tt)
rising-push version (x ∷ boards) b rising last = (rising.0, rising-push x.version boards b rising.1 last)

-- and in no other way
last-rising : (version : ℕ) (boards : List Board) (b : Board) → NeverFall version (boards ++ b ∷ []) → last_version version boards ≤ b.version
unfolding last_version NeverFall
last-rising version [] b rising = rising.0
last-rising version (x ∷ boards) b rising = last-rising x.version boards b rising.1

-- ---- one more board

module _ (S : State) (journal : List Entry) (seen : List Board) (b : Board) where
  -- a board among lawful ones is the journal's
  last-shown : AreLawful S journal (seen ++ b ∷ []) → IsBoardOf S journal b
  last-shown lawful =
      subst (IsBoardOf S journal) (get_or_push seen b b (length seen) refl)
      (lawful.each (length seen) b (omega (arith, length_push seen b)))

  -- a board of a version that falls, or of one that the journal has not, is not lawful
  pub out-of-reach : (c : Checker) (reach : Bool) → AreSeenBoards S journal seen c
      → Decides reach ((c.version ≤ b.version) × (b.version ≤ length journal)) → reach ≡ false → AreLawful S journal (seen ++ b ∷ []) → ⊥
  out-of-reach c reach is reaches not lawful =
      let rises : c.version ≤ b.version = subst (λ n. n ≤ b.version) (sym is.last) (last-rising 0 seen b lawful.rising) in
      let yes : reach ≡ true = reaches.1 (rises, (last-shown lawful).within) in
      absurd cc

  -- what is said of a board when the store stands where its version leads
  pub judged : (old new : Checker) (shown : Bool) → AreSeenBoards S journal seen old → old.version ≤ b.version → b.version ≤ length journal
      → new.version ≡ b.version → new.store.state ≡ play S (take b.version journal)
      → Decides shown (b ≡ board_of new.store.state b.version) → IsJudged S journal seen b new shown
  judged old new true is rises within same state shows = record {
    lawful = record {
      each = All-push (IsBoardOf S journal) seen b is.lawful.each (record {
        within = within;
        shows = shows.0 refl ∙ ap (λ T. board_of T b.version) state;
      });
      rising = rising-push 0 seen b is.lawful.rising (subst (λ n. n ≤ b.version) is.last rises);
    };
    last = same ∙ sym (last-push 0 seen b);
    within = subst (λ n. n ≤ length journal) (sym same) within;
    state = state ∙ ap (λ n. play S (take n journal)) (sym same);
  }
  judged old new false is rises within same state shows =
      λ lawful. let wrong : false ≡ true = shows.1 ((last-shown lawful).shows ∙ ap (λ T. board_of T b.version) (sym state)) in absurd cc

  -- the same, if anything is said
  pub judged-if : {E : Type 0} (old new : Checker) (shown : Result Bool E) → AreSeenBoards S journal seen old → old.version ≤ b.version
      → b.version ≤ length journal → new.version ≡ b.version → new.store.state ≡ play S (take b.version journal)
      → IfOk shown (λ s. Decides s (b ≡ board_of new.store.state b.version)) → IfOk shown (IsJudged S journal seen b new)
  judged-if old new (Ok shown) is rises within same state shows = judged old new shown is rises within same state shows
  judged-if old new (Err e) is rises within same state shows = tt

-- ---- all boards

-- a store at its start has seen none
pub none-seen : (S : State) (journal : List Entry) (c : Checker) → c.version ≡ 0 → c.store.state ≡ S → AreSeenBoards S journal [] c
unfolding NeverFall last_version
none-seen S journal c first state = record {
  lawful = record { each = All-nil (IsBoardOf S journal); rising = tt };
  last = first;
  within = omega (arith, first);
  state = state ∙ ap (λ n. play S (take n journal)) (sym first);
}

-- the first boards and one more
pub more-boards : (boards : List Board) (i : ℕ) (d b : Board) → i < length boards → b ≡ get_or boards i d
    → take (i + 1) boards ≡ take i boards ++ b ∷ []
more-boards boards i d b less is = rw (add-one, is) (take-suc boards i d less)

-- the first board that fails stands in the list
pub fails-here : (S : State) (journal : List Entry) (boards : List Board) (i : ℕ) (d b : Board) (index : ℕ) → i < length boards
    → b ≡ get_or boards i d → index ≡ i + 1 → AreLawful S journal (take i boards) → (AreLawful S journal (take i boards ++ b ∷ []) → ⊥)
    → BoardFailsAt S journal boards index
fails-here S journal boards i d b index less is same lawful fails =
    let next : drop i boards ≡ b ∷ drop (i + 1) boards = rw (add-one, is, drop-cons boards i d) refl in
    record {
      before = take i boards;
      board = b;
      after = drop (i + 1) boards;
      parts = sym (take-append-drop i boards) ∙ ap (λ rest. take i boards ++ rest) next;
      here = record {
        lawful = lawful;
        fails = fails;
        index_is = same ∙ ap (λ n. n + 1) (sym (length-take-le i boards (omega (arith, less))));
      };
    }

-- ---- looks

-- the boards of looks and of further ones
pub boards_in-append : (looks others : List (Result Board LookFault)) → boards_in (looks ++ others) ≡ boards_in looks ++ boards_in others
boards_in-append [] others = refl
boards_in-append (Ok b ∷ looks) others = ap (λ bs. b ∷ bs) (boards_in-append looks others)
boards_in-append (Err fault ∷ looks) others = boards_in-append looks others

module _ (looks : List (Result Board LookFault)) (i : ℕ) (d look : Result Board LookFault) (less : i < length looks)
    (is : look ≡ get_or looks i d) where
  -- the boards of the first looks and of one more
  more-looks : boards_in (take (i + 1) looks) ≡ boards_in (take i looks) ++ boards_in (look ∷ [])
  more-looks =
      let longer : take (i + 1) looks ≡ take i looks ++ look ∷ [] = rw (add-one, is) (take-suc looks i d less) in
      ap boards_in longer ∙ boards_in-append (take i looks) (look ∷ [])

  -- are one more where it has shown one
  pub shown-more : (b : Board) → look ≡ Ok b → boards_in (take (i + 1) looks) ≡ boards_in (take i looks) ++ b ∷ []
  shown-more b shown = more-looks ∙ ap (λ l. boards_in (take i looks) ++ boards_in (l ∷ [])) shown

  -- and the same where it has not
  pub none-more : (fault : LookFault) → look ≡ Err fault → boards_in (take (i + 1) looks) ≡ boards_in (take i looks)
  none-more fault failed =
      more-looks ∙ ap (λ l. boards_in (take i looks) ++ boards_in (l ∷ [])) failed ∙ append-nil (boards_in (take i looks))

  -- the first board that fails is among those that were shown
  pub fails-shown : (S : State) (journal : List Entry) (b : Board) (index : ℕ) → look ≡ Ok b
      → index ≡ length (boards_in (take i looks)) + 1 → AreLawful S journal (boards_in (take i looks))
      → (AreLawful S journal (boards_in (take i looks) ++ b ∷ []) → ⊥) → BoardFailsAt S journal (boards_in looks) index
  fails-shown S journal b index shown same lawful fails =
      let next : drop i looks ≡ look ∷ drop (i + 1) looks = rw (add-one, is, drop-cons looks i d) refl in
      let all : looks ≡ take i looks ++ Ok b ∷ drop (i + 1) looks =
      sym (take-append-drop i looks) ∙ ap (λ rest. take i looks ++ rest) (next ∙ ap (λ l. l ∷ drop (i + 1) looks) shown) in
      record {
        before = boards_in (take i looks);
        board = b;
        after = boards_in (drop (i + 1) looks);
        parts = ap boards_in all ∙ boards_in-append (take i looks) (Ok b ∷ drop (i + 1) looks);
        here = record { lawful = lawful; fails = fails; index_is = same };
      }

-- ---- boards of which one fails

front : {X : Type 0} (P : X → Type 0) (xs ys : List X) → All P (xs ++ ys) → All P xs
front P xs ys all k d less =
    let longer = length-append xs ys in
    subst P (get_or_append_left xs ys d k less) (all k d (omega (arith, less, longer)))

rising-front : (version : ℕ) (boards later : List Board) → NeverFall version (boards ++ later) → NeverFall version boards
unfolding NeverFall
rising-front version [] later rising = tt
rising-front version (b ∷ boards) later rising = (rising.0, rising-front b.version boards later rising.1)

-- are not lawful
pub not-lawful : (S : State) (journal : List Entry) (boards : List Board) (index : ℕ) → BoardFailsAt S journal boards index
    → AreLawful S journal boards → ⊥
not-lawful S journal boards index at lawful =
    let first = at.before ++ at.board ∷ [] in
    let parts : boards ≡ first ++ at.after = at.parts ∙ sym (append_assoc at.before (at.board ∷ []) at.after) in
    at.here.fails (record {
      each = front (IsBoardOf S journal) first at.after (subst (All (IsBoardOf S journal)) parts lawful.each);
      rising = rising-front 0 first at.after (subst (NeverFall 0) parts lawful.rising);
    })

-- so its index is the answer
pub verdict-fails : (S : State) (journal : List Entry) (boards : List Board) (index : ℕ) → BoardFailsAt S journal boards index
    → IsVerdictOn S journal boards (Err (AtBoard index))
verdict-fails S journal boards index at = record {
  ok = tt;
  board = λ other told. let same : index ≡ other = cc in subst (BoardFailsAt S journal boards) same at;
  lawful = λ lawful other told. not-lawful S journal boards index at lawful;
}
