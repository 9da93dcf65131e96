-- What was found of a journal and its transcripts, one transcript after the other.
use Rattle.std.proofs.Common.{◌≡◌, ℕ, ◌+◌, ◌<◌, ◌==◌, ◌⊎◌, inl, inr, Bool, true, false, nat_lt, cond, zero, suc, List, [], ◌∷◌, ◌++◌, length, map, take, slice_get, slice_index_or, All, Contains, Option, Some, None, refl, sym, ap, subst, ◌∙◌, add-one, arith, tests}
use Rattle.std.proofs.Math.Seq.{take-length}
use Rattle.std.proofs.lemmas.Option.{get_or_from_slice_get, slice_get-get_or}
use Rattle.std.proofs.lemmas.List.Elements.{All-nil, All-push, recursion_from_All}
use Rattle.std.specs.List.{AllByRecursion, IsDistinct}
use Rattle.qplain.specs.declared.entry.Entry.{Entry}
use Rattle.qplain.specs.declared.transcript.Transcript.{Transcript}
use Rattle.qplain.specs.Journal.{entries_of}
use Rattle.qplain.specs.Transcripts.{Belongs}
use Rattle.qaudit_checks.specs.Gathered.{EntryFailsAt, HasMore, IsGathered, IsLeftOver, IsMismatch, HasReceipt, receipts_of, told_of}
use Rattle.qaudit_checks.specs.FirstMismatch.{AreToldBefore, IsBefore, IsFirstMismatch, IsFirstOther, IsFirstStrange, IsStrange, IsUntold, earlier_of}
use Rattle.qaudit_checks.proofs.Receipts.{below, own-told, take-more}

-- ---- the earlier of two places

before-both : (index : ℕ) (a b : Option ℕ) → IsBefore index (earlier_of a b) → IsBefore index a × IsBefore index b
before-both index None b h = (tt, h)
before-both index (Some p) None h = (h, tt)
before-both index (Some p) (Some q) h = by (nat_lt q p) refl h
  where
    by : (b : Bool) → nat_lt q p ≡ b → index + 1 < cond b q p → (index + 1 < p) × (index + 1 < q)
    by true e h = (grind (arith, tests, e, h), h)
    by false e h = (h, grind (arith, tests, e, h))

none-both : (a b : Option ℕ) → earlier_of a b ≡ None → (a ≡ None) × (b ≡ None)
none-both None b h = (refl, h)
none-both (Some p) None h = absurd cc
none-both (Some p) (Some q) h = absurd cc

some-either : (a b : Option ℕ) (place : ℕ) → earlier_of a b ≡ Some place → (a ≡ Some place) ⊎ (b ≡ Some place)
some-either None b place h = inr h
some-either (Some p) None place h = inl h
some-either (Some p) (Some q) place h = by (nat_lt q p) h
  where
    by : (b : Bool) → Some (cond b q p) ≡ Some place → (Some p ≡ Some place) ⊎ (Some q ≡ Some place)
    by true h = inr h
    by false h = inl h

-- ---- what is told of a worker

-- workers stand apart
abbrev Apart : List Transcript → Type 0
Apart ts = IsDistinct (λ (one other : Transcript). one.worker == other.worker) ts

at-each : {X : Type 0} (P : X → Type 0) (xs : List X) (j : ℕ) (x : X) → AllByRecursion P xs → slice_get xs j ≡ Some x → P x
at-each P [] j x all e = absurd cc
at-each P (y ∷ xs) zero x all e = let same : y ≡ x = cc in subst P same all.0
at-each P (y ∷ xs) (suc j) x all e = at-each P xs j x all.1 e

-- it is what the receipts of its transcript stand for
told_of-apart : (ts : List Transcript) (j : ℕ) (t : Transcript) → Apart ts → slice_get ts j ≡ Some t → told_of ts t.worker ≡ receipts_of t
unfolding IsDistinct
told_of-apart [] j t apart e = absurd cc
told_of-apart (x ∷ ts) zero t apart e =
    let same : x ≡ t = cc in
    let itself : (t.worker == t.worker) ≡ true = grind (arith, tests) in
    rw (same, itself) refl
told_of-apart (x ∷ ts) (suc j) t apart e =
    let other : (x.worker == t.worker) ≡ false = at-each (λ y. (x.worker == y.worker) ≡ false) ts j t apart.0 e in
    rw other (told_of-apart ts j t apart.1 e)

-- a worker that belongs has a transcript
transcript-of : (ts : List Transcript) (worker : ℕ) → Contains (map (λ t. t.worker) ts) worker
    → (j : ℕ) × (t : Transcript) × (slice_get ts j ≡ Some t) × (t.worker ≡ worker)
transcript-of [] worker (k, less, e) = absurd (omega (arith, less))
transcript-of (t ∷ ts) worker (zero, less, e) = (0, t, refl, e)
transcript-of (t ∷ ts) worker (suc k, less, e) =
    let later = transcript-of ts worker (k, omega (arith, less), e) in
    (suc later.0, later.1, later.2, later.3)

-- where receipts are entries, the worker's own are told
own-by : (journal : List Entry) (worker : ℕ) (ts : List Transcript) → Contains (map (λ t. t.worker) ts) worker
    → AllByRecursion (λ t. receipts_of t ≡ entries_of journal t.worker) ts → told_of ts worker ≡ entries_of journal worker
own-by journal worker [] (k, less, e) own = absurd (omega (arith, less))
own-by journal worker (t ∷ ts) has own =
    choose (t.worker == worker) refl (λ e. own.0 ∙ ap (entries_of journal) e) (λ other. own-by journal worker ts (rest other has) own.1)
  where
    choose : (b : Bool) → (t.worker == worker) ≡ b → (t.worker ≡ worker → receipts_of t ≡ entries_of journal worker)
        → ((t.worker == worker) ≡ false → told_of ts worker ≡ entries_of journal worker)
        → cond b (receipts_of t) (told_of ts worker) ≡ entries_of journal worker
    choose true e here later = here (grind (arith, tests, e))
    choose false e here later = later e

    rest : (t.worker == worker) ≡ false → Contains (map (λ t. t.worker) (t ∷ ts)) worker → Contains (map (λ t. t.worker) ts) worker
    rest e (zero, less, is) = absurd (grind (arith, tests, e, is))
    rest e (suc k, less, is) = (k, omega (arith, less), is)

told_of-own : (journal : List Entry) (ts : List Transcript) (worker : ℕ) → Contains (map (λ t. t.worker) ts) worker
    → All (λ t. receipts_of t ≡ entries_of journal t.worker) ts → told_of ts worker ≡ entries_of journal worker
told_of-own journal ts worker has own = own-by journal worker ts has (recursion_from_All (λ t. receipts_of t ≡ entries_of journal t.worker) ts own)

-- where no transcript is the worker's, nothing is told
told_of-strange : (ts : List Transcript) (worker : ℕ) → (Contains (map (λ t. t.worker) ts) worker → ⊥) → told_of ts worker ≡ []
told_of-strange [] worker strange = refl
told_of-strange (t ∷ ts) worker strange =
    by (t.worker == worker) refl (told_of-strange ts worker (λ has. strange (suc has.0, (let less = has.1 in omega (arith, less)), has.2)))
  where
    by : (b : Bool) → (t.worker == worker) ≡ b → told_of ts worker ≡ [] → cond b (receipts_of t) (told_of ts worker) ≡ []
    by true e later = absurd (strange (0, omega arith, grind (arith, tests, e)))
    by false e later = later

-- ---- what was found

-- before the first transcript
pub found-first : (journal : List Entry) (ts : List Transcript) (place : Option ℕ) → IsFirstStrange journal ts place → IsFirstMismatch journal ts 0 place
found-first journal ts place first = record {
  known = first.before;
  told = All-nil (λ t. AreToldBefore journal t place);
  same = λ none. All-nil (λ t. receipts_of t ≡ entries_of journal t.worker);
  here = λ p e. inl (fails p (first.here p e));
}
  where
    fails : (p : ℕ) → IsStrange journal ts p → EntryFailsAt journal ts p
    fails p strange = record {
      index = strange.index;
      place_is = strange.place_is;
      entry = strange.entry;
      there = strange.there;
      fails = λ told.
          let nothing : slice_get {X = ℕ × Entry} [] (length (entries_of (take strange.index journal) strange.entry.worker))
          ≡ Some (length (take strange.index journal) + 1, strange.entry) =
          subst (λ own. HasReceipt own (take strange.index journal) strange.entry) (told_of-strange ts strange.entry.worker strange.strange) told in
          absurd cc;
    }

-- after one more transcript
pub found-next : (journal : List Entry) (ts : List Transcript) (count : ℕ) (t : Transcript) (first other : Option ℕ) → Apart ts
    → slice_get ts count ≡ Some t → IsFirstMismatch journal ts count first → IsFirstOther journal t other
    → IsFirstMismatch journal ts (count + 1) (earlier_of first other)
found-next journal ts count t first other apart at found next = record {
  known = λ k e is before tt2. found.known k e is (before-both k first other before).0 tt;
  told = subst (All Told) (sym more) (All-push Told (take count ts) t
      (λ k d less j e is before own. found.told k d less j e is (before-both j first other before).0 own)
      (λ j e is before own. next.before j e is (before-both j first other before).1 own));
  same = λ none.
      subst (All (λ t. receipts_of t ≡ entries_of journal t.worker)) (sym more)
      (All-push (λ t. receipts_of t ≡ entries_of journal t.worker) (take count ts) t
      (found.same (none-both first other none).0) (next.same (none-both first other none).1));
  here = λ p e. here p (some-either first other p e);
}
  where
    Told : Transcript → Type 0
    Told t = AreToldBefore journal t (earlier_of first other)

    more : take (count + 1) ts ≡ take count ts ++ t ∷ []
    more = rw add-one (take-more ts count t at)

    fails : (p : ℕ) → IsUntold journal t p → EntryFailsAt journal ts p
    fails p untold = record {
      index = untold.index;
      place_is = untold.place_is;
      entry = untold.entry;
      there = untold.there;
      fails = λ told. untold.untold (subst (λ own. HasReceipt own (take untold.index journal) untold.entry)
          (ap (told_of ts) untold.own ∙ told_of-apart ts count t apart at) told);
    }

    this : HasMore journal t → (k : ℕ) × (x : Transcript) × (k < length ts) × (slice_index_or ts k x ≡ x) × HasMore journal x
    this has = (count, t, below ts count t at, get_or_from_slice_get ts count t t at, has)

    last : (p : ℕ) → IsUntold journal t p ⊎ ((p ≡ length journal + 1) × HasMore journal t) → EntryFailsAt journal ts p ⊎ IsLeftOver journal ts p
    last p (inl untold) = inl (fails p untold)
    last p (inr left) = inr (left.0, this left.1)

    here : (p : ℕ) → (first ≡ Some p) ⊎ (other ≡ Some p) → EntryFailsAt journal ts p ⊎ IsLeftOver journal ts p
    here p (inl e) = found.here p e
    here p (inr e) = last p (next.here p e)

-- ---- what that comes to

all-taken : (ts : List Transcript) (count : ℕ) → count ≡ length ts → take count ts ≡ ts
all-taken ts count end = ap (λ n. take n ts) end ∙ take-length ts

-- no place was found
pub gathered : (journal : List Entry) (ts : List Transcript) (count : ℕ) (place : Option ℕ) → IsFirstMismatch journal ts count place → count ≡ length ts
    → place ≡ None → IsGathered journal ts
gathered journal ts count place found end none = record {
  own = subst (All (λ t. receipts_of t ≡ entries_of journal t.worker)) (all-taken ts count end) (found.same none);
  belong = λ k d less. found.known k (slice_index_or journal k d) (slice_get-get_or journal k d less) (subst (IsBefore k) (sym none) tt) tt;
}

-- a place was found
module _ (journal : List Entry) (ts : List Transcript) (count place : ℕ) (found : IsFirstMismatch journal ts count (Some place)) where
  -- it is of no journal that tells the same
  pub not-gathered : IsGathered journal ts → ⊥
  not-gathered all = by (found.here place refl)
    where
      of : (index : ℕ) (e : Entry) → slice_get journal index ≡ Some e → HasReceipt (told_of ts e.worker) (take index journal) e
      of index e at =
          let belongs : Belongs ts e = subst (Belongs ts) (get_or_from_slice_get journal index e e at) (all.belong index e (below journal index e at)) in
          subst (λ own. HasReceipt own (take index journal) e) (sym (told_of-own journal ts e.worker belongs all.own)) (own-told journal index e at)

      by : EntryFailsAt journal ts place ⊎ IsLeftOver journal ts place → ⊥
      by (inl fails) = fails.fails (of fails.index fails.entry fails.there)
      by (inr (behind, (k, t, less, is, more))) =
          let own : receipts_of t ≡ entries_of journal t.worker = subst (λ t. receipts_of t ≡ entries_of journal t.worker) is (all.own k t less) in
          let same : length (receipts_of t) ≡ length (entries_of journal t.worker) = ap length own in
          omega (arith, same, more)

  -- and the first
  pub mismatch : count ≡ length ts → Apart ts → IsMismatch journal ts place
  mismatch end apart = record {
    here = found.here place refl;
    least = λ earlier less fails. fails.fails (of fails.index fails.entry fails.there (let is = fails.place_is in omega (arith, less, is)));
  }
    where
      all : All (λ t. AreToldBefore journal t (Some place)) ts
      all = subst (All (λ t. AreToldBefore journal t (Some place))) (all-taken ts count end) found.told

      of : (index : ℕ) (e : Entry) → slice_get journal index ≡ Some e → index + 1 < place → HasReceipt (told_of ts e.worker) (take index journal) e
      of index e at before =
          let own = transcript-of ts e.worker (found.known index e at before tt) in
          let t : Transcript = own.1 in
          let told : HasReceipt (receipts_of t) (take index journal) e =
          subst (λ t. AreToldBefore journal t (Some place))
          (get_or_from_slice_get ts own.0 t t own.2) (all own.0 t (below ts own.0 t own.2)) index e at before (sym own.3) in
          subst (λ own. HasReceipt own (take index journal) e) (sym (told_of-apart ts own.0 t apart own.2) ∙ ap (told_of ts) own.3) told
