-- A journal played again: where it is first another than the store's, and whose entries each of its transcripts has.
use Rattle.std.proofs.Common.{◌≡◌, ℕ, ◌+◌, ◌<◌, ◌==◌, false, List, [], ◌∷◌, ◌++◌, length, map, filter, take, drop, get_or, Bool, refl, sym, ap, ◌∙◌, arith, add-one, suc, tests, append-nil, drop-cons}
use Rattle.std.proofs.Math.Seq.{take-suc}
use Rattle.std.proofs.lemmas.List.{length-take-le, map_push, take-append-drop}
use Rattle.std.proofs.lemmas.List.Elements.{filter-append}
use Rattle.std.specs.List.{enumerate_from}
use Rattle.qplain.specs.declared.entry.Entry.{Entry}
use Rattle.qplain.specs.Journal.{entries_of}
use Rattle.qplain.specs.State.{State}
use Rattle.qplain_laws.proofs.Playing.{own-one_more}
use Rattle.qrun_replay.specs.Replays.{IsFirstMismatch, IsMismatchAfter}

-- the first entry with another reply is one of the journal's
pub mismatch_at : (S : State) (entries : List Entry) (i : ℕ) (d : Entry) (place : ℕ) → i < length entries
    → IsMismatchAfter S (take i entries) (get_or entries i d) place → IsFirstMismatch S entries place
mismatch_at S entries i d place few here =
    let next : drop i entries ≡ get_or entries i d ∷ drop (i + 1) entries = rw (add-one, drop-cons entries i d) refl in
    record {
      before = take i entries;
      entry = get_or entries i d;
      after = drop (i + 1) entries;
      parts = sym (take-append-drop i entries) ∙ ap (λ rest. take i entries ++ rest) next;
      here = here;
    }

-- the numbered entries of a journal that goes on with one more
numbered_more : (n : ℕ) (journal : List Entry) (e : Entry)
    → enumerate_from n (journal ++ e ∷ []) ≡ enumerate_from n journal ++ (n + length journal, e) ∷ []
numbered_more n [] e =
    let place : n ≡ n + 0 = omega arith in
    ap (λ k. (k, e) ∷ []) place
numbered_more n (x ∷ journal) e =
    let place : n + 1 + length journal ≡ n + suc (length journal) = omega arith in
    ap (λ rest. (n, x) ∷ rest) (numbered_more (n + 1) journal e ∙ ap (λ k. enumerate_from (n + 1) journal ++ (k, e) ∷ []) place)

-- no entry of a list of one is another worker's
none-alone : (k : ℕ) (e : Entry) (worker : ℕ) → (e.worker ≡ worker → ⊥)
    → filter {X = ℕ × Entry} (λ x. x.1.worker == worker) ((k, e) ∷ []) ≡ []
none-alone k e worker other =
    let not_same : (e.worker == worker) ≡ false = grind (arith, tests) in
    rw not_same refl

-- an entry of another worker adds none to a worker's own
other-one_more : (journal : List Entry) (e : Entry) (worker : ℕ) → (e.worker ≡ worker → ⊥)
    → entries_of (journal ++ e ∷ []) worker ≡ entries_of journal worker
other-one_more journal e worker other =
    let mine : ℕ × Entry → Bool = (λ x. x.1.worker == worker) in
    ap (filter mine) (numbered_more 1 journal e)
    ∙ filter-append mine (enumerate_from 1 journal) ((1 + length journal, e) ∷ [])
    ∙ ap (λ last. filter mine (enumerate_from 1 journal) ++ last) (none-alone (1 + length journal) e worker other)
    ∙ append-nil (filter mine (enumerate_from 1 journal))

module _ (entries : List Entry) (i : ℕ) (d e : Entry) (worker : ℕ) (few : i < length entries) (is : e ≡ get_or entries i d) where
  longer : take (i + 1) entries ≡ take i entries ++ e ∷ []
  longer = rw (add-one, is) (take-suc entries i d few)

  -- a worker's own entries, of which the next is one
  pub own-taken : e.worker ≡ worker
      → entries_of (take (i + 1) entries) worker ≡ entries_of (take i entries) worker ++ (i + 1, e) ∷ []
  own-taken own =
      let place : length (take i entries) + 1 ≡ i + 1 = ap (λ n. n + 1) (length-take-le i entries (omega arith)) in
      ap (λ es. entries_of es worker) longer ∙ own-one_more (take i entries) e worker own
      ∙ ap (λ k. entries_of (take i entries) worker ++ (k, e) ∷ []) place

  -- a worker's own entries, of which the next is none
  pub other-taken : (e.worker ≡ worker → ⊥) → entries_of (take (i + 1) entries) worker ≡ entries_of (take i entries) worker
  other-taken other = ap (λ es. entries_of es worker) longer ∙ other-one_more (take i entries) e worker other

-- what is told of a worker's own entries, of which there is one more
pub one_more-told : {X : Type 0} (f : ℕ × Entry → X) (old new : List X) (told : X) (own more_own : List (ℕ × Entry)) (x : ℕ × Entry)
    → new ≡ old ++ told ∷ [] → old ≡ map f own → told ≡ f x → more_own ≡ own ++ x ∷ [] → new ≡ map f more_own
one_more-told f old new told own more_own x more is same another =
    more ∙ ap (λ ts. ts ++ told ∷ []) is ∙ ap (λ t. map f own ++ t ∷ []) same ∙ sym (map_push f own x) ∙ sym (ap (map f) another)
