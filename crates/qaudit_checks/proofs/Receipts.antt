-- A transcript's receipts beside its worker's entries, one after the other.
use Rattle.std.proofs.Common.{◌≡◌, ℕ, ◌+◌, ◌<◌, ◌≤◌, ◌==◌, Bool, true, false, nat_lt, cond, zero, suc, List, [], ◌∷◌, ◌++◌, length, take, drop, filter, slice_get, Option, Some, None, IfSome, Result, Ok, Err, IsOk, is_err, get_or, refl, sym, ap, subst, ◌∙◌, add-one, length-append, length-take-le, append_assoc, append-nil, inl, inr, arith, tests}
use Rattle.std.proofs.Math.Seq.{take-length}
use Rattle.std.proofs.lemmas.Option.{slice_get-get_or, slice_get_past}
use Rattle.std.specs.List.{enumerate_from}
use Rattle.qplain.specs.declared.call_fault.CallFault.{CallFault}
use Rattle.qplain.specs.declared.entry.Entry.{Entry}
use Rattle.qplain.specs.declared.line.Line.{Line}
use Rattle.qplain.specs.declared.receipt.Receipt.{Receipt}
use Rattle.qplain.specs.declared.transcript.Transcript.{Transcript}
use Rattle.qplain.specs.Journal.{entries_of}
use Rattle.qplain.specs.Transcripts.{journaled_line, journaled_lines}
use Rattle.qplain_laws.proofs.Playing.{own-one_more}
use Rattle.qaudit_checks.specs.Gathered.{HasMore, HasReceipt, receipts_of}
use Rattle.qaudit_checks.specs.FirstMismatch.{AreSeenAnswers, AreToldBefore, IsFirstOther, IsNextReceipt}

-- ---- lists

-- there is an element at each index
pub there : {X : Type 0} (xs : List X) (i : ℕ) → i < length xs → (x : X) × (slice_get xs i ≡ Some x)
there [] i less = absurd (omega (arith, less))
there (x ∷ xs) zero less = (x, refl)
there (x ∷ xs) (suc i) less = there xs i (omega (arith, less))

-- one at an index is below the length
pub below : {X : Type 0} (xs : List X) (i : ℕ) (x : X) → slice_get xs i ≡ Some x → i < length xs
below [] i x e = absurd cc
below (y ∷ xs) zero x e = omega arith
below (y ∷ xs) (suc i) x e = let less = below xs i x e in omega (arith, less)

-- the element that is looked at
pub looked-at : {X : Type 0} (xs : List X) (i : ℕ) (x d : X) → x ≡ get_or xs i d → i < length xs → slice_get xs i ≡ Some x
looked-at xs i x d is less = slice_get-get_or xs i d less ∙ ap (λ y. Some y) (sym is)

-- the first of what follows
behind : {X : Type 0} (xs ys : List X) → slice_get (xs ++ ys) (length xs) ≡ slice_get ys 0
behind [] ys = refl
behind (x ∷ xs) ys = behind xs ys

-- one more element
pub take-more : {X : Type 0} (xs : List X) (i : ℕ) (x : X) → slice_get xs i ≡ Some x → take (suc i) xs ≡ take i xs ++ x ∷ []
take-more [] i x e = absurd cc
take-more (y ∷ xs) zero x e = let same : y ≡ x = cc in ap (λ z. z ∷ []) same
take-more (y ∷ xs) (suc i) x e = ap (λ rest. y ∷ rest) (take-more xs i x e)

-- ---- answers

abbrev pub Answer : Type 0
Answer = Result Receipt CallFault

-- what the lines from an index on stand for
abbrev pub from : ℕ → ℕ → List Line → List Answer → List (ℕ × Entry)
from worker at lines answers = journaled_lines worker (drop at lines) (drop at answers)

-- is that of the first of them and of the others
from-at : (worker at : ℕ) (lines : List Line) (answers : List Answer) (line : Line) (answer : Answer) → slice_get lines at ≡ Some line
    → slice_get answers at ≡ Some answer → from worker at lines answers ≡ journaled_line worker line answer ++ from worker (suc at) lines answers
unfolding journaled_lines
from-at worker zero (l ∷ ls) (a ∷ others) line answer e f =
    let same : l ≡ line = cc in
    let same_too : a ≡ answer = cc in
    λ i. journaled_line worker (same i) (same_too i) ++ journaled_lines worker ls others
from-at worker (suc at) (l ∷ ls) (a ∷ others) line answer e f = from-at worker at ls others line answer e f
from-at worker at [] answers line answer e f = absurd cc
from-at worker at (l ∷ ls) [] line answer e f = absurd cc

-- a failed line stands for nothing
pub from-failed : (worker at : ℕ) (lines : List Line) (answers : List Answer) (fault : CallFault) → length answers ≡ length lines
    → slice_get answers at ≡ Some (Err fault) → from worker at lines answers ≡ from worker (at + 1) lines answers
from-failed worker at lines answers fault same failed =
    let less : at < length answers = below answers at (Err fault) failed in
    let line = there lines at (omega (arith, less, same)) in
    rw add-one (from-at worker at lines answers line.0 (Err fault) line.1 failed)

-- so it is where the answer that is looked at is a fault
pub failed-at : (worker at : ℕ) (lines : List Line) (answers : List Answer) (d answer : Answer) → answer ≡ get_or answers at d → at < length answers
    → length answers ≡ length lines → is_err answer ≡ true → from worker at lines answers ≡ from worker (at + 1) lines answers
failed-at worker at lines answers d (Ok receipt) is less same failed = absurd cc
failed-at worker at lines answers d (Err fault) is less same failed =
    from-failed worker at lines answers fault same (slice_get-get_or answers at d less ∙ ap (λ answer. Some answer) (sym is))

-- and where it is none it is a receipt
pub granted-at : (at : ℕ) (answers : List Answer) (d answer : Answer) → answer ≡ get_or answers at d → at < length answers → is_err answer ≡ false
    → IfSome (slice_get answers at) IsOk
granted-at at answers d (Err fault) is less granted = absurd cc
granted-at at answers d (Ok receipt) is less granted =
    subst (λ o. IfSome o IsOk) (sym (slice_get-get_or answers at d less ∙ ap (λ answer. Some answer) (sym is))) refl

-- after all answers none is looked at
pub past-all : (at : ℕ) (answers : List Answer) → length answers ≤ at → IfSome (slice_get answers at) IsOk
past-all at answers past = subst (λ o. IfSome o IsOk) (sym (slice_get_past answers at past)) tt

-- after all answers there is nothing
from-end : (worker : ℕ) (lines : List Line) (answers : List Answer) → journaled_lines worker lines (drop (length answers) answers) ≡ []
unfolding journaled_lines
from-end worker [] [] = refl
from-end worker (l ∷ ls) [] = refl
from-end worker lines (a ∷ others) = from-end worker lines others

pub none-left : (worker at : ℕ) (lines : List Line) (answers : List Answer) → at ≡ length answers → from worker at lines answers ≡ []
none-left worker at lines answers end = rw end (from-end worker (drop (length answers) lines) answers)

-- a receipt stands for an entry
pub from-granted : (worker at : ℕ) (lines : List Line) (answers : List Answer) (line : Line) (receipt : Receipt) → slice_get lines at ≡ Some line
    → slice_get answers at ≡ Some (Ok receipt)
    → from worker at lines answers ≡ journaled_line worker line (Ok receipt) ++ from worker (at + 1) lines answers
from-granted worker at lines answers line receipt e f = rw add-one (from-at worker at lines answers line (Ok receipt) e f)

-- the receipt there is reported first
pub first-told : (worker at place : ℕ) (lines : List Line) (answers : List Answer) (line : Line) (answer : Answer) (e : Entry)
    → slice_get lines at ≡ Some line → slice_get answers at ≡ Some answer → IsOk answer
    → ((journaled_line worker line answer ≡ (place, e) ∷ []) → slice_get (from worker at lines answers) 0 ≡ Some (place, e))
    × (slice_get (from worker at lines answers) 0 ≡ Some (place, e) → journaled_line worker line answer ≡ (place, e) ∷ [])
first-told worker at place lines answers line (Err fault) e there_too there_is ok = absurd cc
first-told worker at place lines answers line (Ok receipt) e there_too there_is ok =
    let parts = from-granted worker at lines answers line receipt there_too there_is in (
      (λ told. ap (λ told. slice_get told 0) (parts ∙ ap (λ told. told ++ from worker (at + 1) lines answers) told)),
      (λ told. only _ _ (ap (λ told. slice_get told 0) (sym parts) ∙ told)),
    )
  where
    only : (x y : ℕ × Entry) → Some x ≡ Some y → x ∷ [] ≡ y ∷ []
    only x y e = let same : x ≡ y = cc in ap (λ z. z ∷ []) same

-- and after all answers nothing is
pub never-told : (worker at : ℕ) (lines : List Line) (answers : List Answer) (place : ℕ) (e : Entry) → at ≤ length answers → length answers ≤ at
    → (nat_lt at (length answers) ≡ true → slice_get (from worker at lines answers) 0 ≡ Some (place, e))
    × (slice_get (from worker at lines answers) 0 ≡ Some (place, e) → nat_lt at (length answers) ≡ true)
never-told worker at lines answers place e within past =
    let end : at ≡ length answers = omega (arith, within, past) in
    let none : slice_get {X = ℕ × Entry} [] 0 ≡ slice_get (from worker at lines answers) 0 =
    ap (λ told. slice_get told 0) (sym (none-left worker at lines answers end)) in
    let no : nat_lt at (length answers) ≡ false = grind (arith, tests, end) in
    (λ yes. cc, λ told. let nothing : slice_get {X = ℕ × Entry} [] 0 ≡ Some (place, e) = none ∙ told in cc)

-- ---- the worker's own entries

-- the worker's entries, numbered from here
abbrev mine : ℕ → ℕ → List Entry → List (ℕ × Entry)
mine n worker es = filter (λ x. x.1.worker == worker) (enumerate_from n es)

-- an entry of the worker stands among its own after those before it
own-numbered : (n worker : ℕ) (journal : List Entry) (index : ℕ) (e : Entry) → slice_get journal index ≡ Some e → (e.worker == worker) ≡ true
    → slice_get (mine n worker journal) (length (mine n worker (take index journal))) ≡ Some (n + index, e)
own-numbered n worker [] index e at own = absurd cc
own-numbered n worker (x ∷ rest) zero e at own =
    let same : x ≡ e = cc in
    let place : n ≡ n + 0 = omega arith in
    rw (same, own) (ap (λ k. Some (k, e)) place)
own-numbered n worker (x ∷ rest) (suc index) e at own =
    let later = own-numbered (n + 1) worker rest index e at own in
    let place : n + 1 + index ≡ n + suc index = omega arith in
    elim (x.worker == worker) as (λ b. slice_get (cond b ((n, x) ∷ mine (n + 1) worker rest) (mine (n + 1) worker rest))
    (length (cond b ((n, x) ∷ mine (n + 1) worker (take index rest)) (mine (n + 1) worker (take index rest)))) ≡ Some (n + suc index, e)) [
      | true ↦ later ∙ ap (λ k. Some (k, e)) place
      | false ↦ later ∙ ap (λ k. Some (k, e)) place
    ]

-- so what is told is reported where the receipts are the worker's own entries
pub own-told : (journal : List Entry) (index : ℕ) (e : Entry) → slice_get journal index ≡ Some e
    → HasReceipt (entries_of journal e.worker) (take index journal) e
own-told journal index e at =
    let itself : (e.worker == e.worker) ≡ true = grind (arith, tests) in
    let less : index < length journal = below journal index e at in
    let long : length (take index journal) ≡ index = length-take-le index journal (omega (arith, less)) in
    let place : 1 + index ≡ length (take index journal) + 1 = omega (arith, long) in
    own-numbered 1 e.worker journal index e at itself ∙ ap (λ k. Some (k, e)) place

-- an entry of another worker adds none
other-numbered : (n worker : ℕ) (journal : List Entry) (e : Entry) → (e.worker == worker) ≡ false
    → mine n worker (journal ++ e ∷ []) ≡ mine n worker journal
other-numbered n worker [] e other = rw other refl
other-numbered n worker (x ∷ rest) e other = ap (λ own. cond (x.worker == worker) ((n, x) ∷ own) own) (other-numbered (n + 1) worker rest e other)

pub other-one_more : (journal : List Entry) (e : Entry) (worker : ℕ) → (e.worker == worker) ≡ false
    → entries_of (journal ++ e ∷ []) worker ≡ entries_of journal worker
other-one_more journal e worker other = other-numbered 1 worker journal e other

-- ---- what was seen

-- at first nothing was
pub none-seen : (journal : List Entry) (t : Transcript) → AreSeenAnswers journal t 0 0
none-seen journal t = record { within = omega arith; parts = refl; told = λ index entry at before own. absurd (omega (arith, before)) }

-- what is told next of the worker is told at its next entry
pub next-told : (journal : List Entry) (t : Transcript) (index seen : ℕ) (e : Entry) → AreSeenAnswers journal t index seen → slice_get journal index ≡ Some e
    → e.worker ≡ t.worker
    → slice_get (receipts_of t) (length (entries_of (take index journal) e.worker)) ≡ slice_get (from e.worker seen t.lines t.answers) 0
next-told journal t index seen e are at own =
    let parts : receipts_of t ≡ entries_of (take index journal) e.worker ++ from e.worker seen t.lines t.answers =
    subst (λ w. receipts_of t ≡ entries_of (take index journal) w ++ from w seen t.lines t.answers) (sym own) are.parts in
    ap (λ told. slice_get told (length (entries_of (take index journal) e.worker))) parts
    ∙ behind (entries_of (take index journal) e.worker) (from e.worker seen t.lines t.answers)

place-of : (journal : List Entry) (index : ℕ) (e : Entry) → slice_get journal index ≡ Some e → length (take index journal) + 1 ≡ index + 1
place-of journal index e at =
    let less : index < length journal = below journal index e at in
    ap (λ n. n + 1) (length-take-le index journal (omega (arith, less)))

-- lines that failed may be passed over
pub passed : (journal : List Entry) (t : Transcript) (index seen further : ℕ) → AreSeenAnswers journal t index seen → further ≤ length t.answers
    → from t.worker seen t.lines t.answers ≡ from t.worker further t.lines t.answers → AreSeenAnswers journal t index further
passed journal t index seen further are within same = record {
  within = within;
  parts = are.parts ∙ ap (λ rest. entries_of (take index journal) t.worker ++ rest) same;
  told = are.told;
}

-- where all entries before are told, and this one, all up to it are
one-more : (journal : List Entry) (t : Transcript) (index : ℕ) (e : Entry) → slice_get journal index ≡ Some e
    → AreToldBefore journal t (Some (index + 1))
    → (e.worker ≡ t.worker → HasReceipt (receipts_of t) (take index journal) e)
    → AreToldBefore journal t (Some (index + 1 + 1))
one-more journal t index e at before here k x is less own = by (nat_lt k index) refl
  where
    by : (b : Bool) → nat_lt k index ≡ b → HasReceipt (receipts_of t) (take k journal) x
    by true h = before k x is (grind (arith, tests, h)) own
    by false h =
        let last : k ≡ index = grind (arith, tests, h, less) in
        let same_at : slice_get journal index ≡ Some x = subst (λ n. slice_get journal n ≡ Some x) last is in
        let same : e ≡ x = cc in
        subst (λ n. HasReceipt (receipts_of t) (take n journal) x) (sym last)
        (subst (λ y. y.worker ≡ t.worker → HasReceipt (receipts_of t) (take index journal) y) same here own)

-- one more entry, of the worker
pub own-seen : (journal : List Entry) (t : Transcript) (index seen : ℕ) (e : Entry) → AreSeenAnswers journal t index seen → length t.answers ≡ length t.lines
    → slice_get journal index ≡ Some e → e.worker ≡ t.worker → IfSome (slice_get t.answers seen) IsOk
    → slice_get (from e.worker seen t.lines t.answers) 0 ≡ Some (index + 1, e) → AreSeenAnswers journal t (index + 1) (seen + 1)
own-seen journal t index seen e are each at own granted first =
    by (less-from (length t.answers) seen are.within not_end)
  where
    not_end : seen ≡ length t.answers → ⊥
    not_end end = let none = none-left e.worker seen t.lines t.answers end in
        let nothing : slice_get {X = ℕ × Entry} [] 0 ≡ Some (index + 1, e) = ap (λ told. slice_get told 0) (sym none) ∙ first in absurd cc

    less-from : (n k : ℕ) → k ≤ n → (k ≡ n → ⊥) → k < n
    less-from n k le other = grind (arith, le, other)

    whole : (e2 : Answer) (line : Line) → slice_get t.answers seen ≡ Some e2 → slice_get t.lines seen ≡ Some line → IsOk e2
        → from t.worker seen t.lines t.answers ≡ (index + 1, e) ∷ from t.worker (seen + 1) t.lines t.answers
    whole (Err fault) line here here_too ok = absurd cc
    whole (Ok receipt) line here here_too ok =
        let told = (first-told e.worker seen (index + 1) t.lines t.answers line (Ok receipt) e here_too here ok).1 first in
        from-granted t.worker seen t.lines t.answers line receipt here_too here
        ∙ ap (λ x. x ++ from t.worker (seen + 1) t.lines t.answers) (subst (λ w. journaled_line w line (Ok receipt) ≡ (index + 1, e) ∷ []) own told)

    by : seen < length t.answers → AreSeenAnswers journal t (index + 1) (seen + 1)
    by less =
        let answer = there t.answers seen less in
        let line = there t.lines seen (omega (arith, less, each)) in
        let ok : IsOk answer.0 = subst (λ o. IfSome o IsOk) answer.1 granted in
        let more : take (index + 1) journal ≡ take index journal ++ e ∷ [] = rw add-one (take-more journal index e at) in
        let longer : entries_of (take (index + 1) journal) t.worker ≡ entries_of (take index journal) t.worker ++ (index + 1, e) ∷ [] =
        ap (λ es. entries_of es t.worker) more ∙ own-one_more (take index journal) e t.worker own
        ∙ ap (λ k. entries_of (take index journal) t.worker ++ (k, e) ∷ []) (place-of journal index e at) in
        record {
          within = omega (arith, less);
          parts = are.parts ∙ ap (λ rest. entries_of (take index journal) t.worker ++ rest) (whole answer.0 line.0 answer.1 line.1 ok)
              ∙ sym (append_assoc (entries_of (take index journal) t.worker) ((index + 1, e) ∷ []) (from t.worker (seen + 1) t.lines t.answers))
              ∙ ap (λ es. es ++ from t.worker (seen + 1) t.lines t.answers) (sym longer);
          told = one-more journal t index e at are.told
              (λ own2. next-told journal t index seen e are at own ∙ first ∙ ap (λ k. Some (k, e)) (sym (place-of journal index e at)));
        }

-- one more entry, of another worker
pub other-seen : (journal : List Entry) (t : Transcript) (index seen : ℕ) (e : Entry) → AreSeenAnswers journal t index seen
    → slice_get journal index ≡ Some e → (e.worker ≡ t.worker → ⊥) → AreSeenAnswers journal t (index + 1) seen
other-seen journal t index seen e are at other =
    let differ : (e.worker == t.worker) ≡ false = grind (arith, tests, other) in
    let more : take (index + 1) journal ≡ take index journal ++ e ∷ [] = rw add-one (take-more journal index e at) in
    let same : entries_of (take (index + 1) journal) t.worker ≡ entries_of (take index journal) t.worker =
    ap (λ es. entries_of es t.worker) more ∙ other-one_more (take index journal) e t.worker differ in
    record {
      within = are.within;
      parts = are.parts ∙ ap (λ es. es ++ from t.worker seen t.lines t.answers) (sym same);
      told = one-more journal t index e at are.told (λ own. absurd (other own));
    }

-- ---- the end

take-all : (journal : List Entry) (index : ℕ) → index ≡ length journal → take index journal ≡ journal
take-all journal index end = ap (λ n. take n journal) end ∙ take-length journal

-- up to the end all entries are told
all-told : (journal : List Entry) (t : Transcript) (index seen : ℕ) (place : Option ℕ) → AreSeenAnswers journal t index seen → index ≡ length journal
    → AreToldBefore journal t place
all-told journal t index seen place are end k e at before own =
    let less : k < length journal = below journal k e at in
    are.told k e at (omega (arith, less, end)) own

-- nothing is left over
pub first-none : (journal : List Entry) (t : Transcript) (index seen : ℕ) → AreSeenAnswers journal t index seen → index ≡ length journal
    → seen ≡ length t.answers → IsFirstOther journal t None
first-none journal t index seen are end last = record {
  before = all-told journal t index seen None are end;
  same = λ none.
      are.parts ∙ ap (λ rest. entries_of (take index journal) t.worker ++ rest) (none-left t.worker seen t.lines t.answers last)
      ∙ append-nil (entries_of (take index journal) t.worker) ∙ ap (λ es. entries_of es t.worker) (take-all journal index end);
  here = λ p e. absurd cc;
}

-- a receipt is left over
pub first-left : (journal : List Entry) (t : Transcript) (index seen place : ℕ) → AreSeenAnswers journal t index seen → index ≡ length journal
    → place ≡ index + 1 → length t.answers ≡ length t.lines → seen < length t.answers → IfSome (slice_get t.answers seen) IsOk
    → IsFirstOther journal t (Some place)
first-left journal t index seen place are end place_is each less granted = record {
  before = all-told journal t index seen (Some place) are end;
  same = λ none. absurd cc;
  here = λ p e. let same : place ≡ p = cc in inr (omega (arith, same, place_is, end), more);
}
  where
    longer : (answer : Answer) (line : Line) → slice_get t.answers seen ≡ Some answer → slice_get t.lines seen ≡ Some line → IsOk answer
        → 0 < length (from t.worker seen t.lines t.answers)
    longer (Err fault) line here here_too ok = absurd cc
    longer (Ok receipt) line here here_too ok =
        subst (λ told. 0 < length told) (sym (from-granted t.worker seen t.lines t.answers line receipt here_too here)) (omega arith)

    more : HasMore journal t
    more =
        let answer = there t.answers seen less in
        let line = there t.lines seen (omega (arith, less, each)) in
        let some = longer answer.0 line.0 answer.1 line.1 (subst (λ o. IfSome o IsOk) answer.1 granted) in
        let parts = ap length are.parts ∙ length-append (entries_of (take index journal) t.worker) (from t.worker seen t.lines t.answers) in
        let all : length (entries_of (take index journal) t.worker) ≡ length (entries_of journal t.worker) =
        ap (λ es. length (entries_of es t.worker)) (take-all journal index end) in
        omega (arith, some, parts, all)

-- the entry is another than the next receipt's
pub first-other : (journal : List Entry) (t : Transcript) (index seen place : ℕ) (e : Entry) → AreSeenAnswers journal t index seen
    → slice_get journal index ≡ Some e → e.worker ≡ t.worker → place ≡ index + 1
    → (slice_get (from e.worker seen t.lines t.answers) 0 ≡ Some (place, e) → ⊥) → IsFirstOther journal t (Some place)
first-other journal t index seen place e are at own place_is other = record {
  before = λ k x is before own2. are.told k x is (omega (arith, before, place_is)) own2;
  same = λ none. absurd cc;
  here = λ p same_place. let same : place ≡ p = cc in inl (record {
    index = index;
    place_is = sym same ∙ place_is;
    entry = e;
    there = at;
    own = own;
    untold = λ told. other (sym (next-told journal t index seen e are at own) ∙ told
        ∙ ap (λ k. Some (k, e)) (place-of journal index e at ∙ sym place_is));
  });
}

-- ---- over the slices of a transcript

-- the answers that failed may be passed over
pub passed-over : (journal : List Entry) (t : Transcript) (index seen next : ℕ) → AreSeenAnswers journal t index seen → length t.answers ≡ length t.lines
    → IsNextReceipt t.answers seen next → AreSeenAnswers journal t index next
passed-over journal t index seen next are each is = passed journal t index seen next are is.within (is.skipped t.worker t.lines each)

-- what is told by the slices is told by the transcript
pub told-over : (t : Transcript) (lines : List Line) (answers : List Answer) (at : ℕ) (e : Entry) (place : ℕ) → lines ≡ t.lines → answers ≡ t.answers
    → slice_get (from e.worker at lines answers) 0 ≡ Some (place, e) → slice_get (from e.worker at t.lines t.answers) 0 ≡ Some (place, e)
told-over t lines answers at e place same same_too told = sym (λ i. slice_get (from e.worker at (same i) (same_too i)) 0) ∙ told
