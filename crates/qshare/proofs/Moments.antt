-- Moments that never fall: the last is the latest, and one that is not before it may follow.
use Rattle.std.proofs.Common.{◌≡◌, ℕ, zero, suc, ◌-◌, ◌<◌, ◌≤◌, List, [], ◌∷◌, ◌++◌, All, length, get_or, sym, subst, arith}
use Rattle.std.proofs.lemmas.List.Elements.{All-head, All-nil, All-push, All-tail}
use Rattle.qplain.specs.declared.entry.Entry.{Entry}
use Rattle.qshare_history.specs.Moments.{NeverFalls}

-- each moment is at most any later one
in_order : (xs : List Entry) (i j : ℕ) (d : Entry) → NeverFalls xs → i ≤ j → j < length xs → (get_or xs i d).moment ≤ (get_or xs j d).moment
unfolding NeverFalls
in_order [] i j d never le low = absurd (omega arith)
in_order (e ∷ later) zero zero d never le low = omega arith
in_order (e ∷ later) zero (suc j) d never le low = never.0 j d (omega arith)
in_order (e ∷ later) (suc i) zero d never le low = absurd (omega arith)
in_order (e ∷ later) (suc i) (suc j) d never le low = in_order later i j d never.1 (omega arith) (omega arith)

-- the last is the latest
pub last_is_latest : (xs : List Entry) (moment : ℕ) → NeverFalls xs → ((d : Entry) → (get_or xs (length xs - 1) d).moment ≤ moment)
    → All (λ e. e.moment ≤ moment) xs
last_is_latest xs moment never last = λ k d low.
    omega (arith, last d, in_order xs k (length xs - 1) d never (omega arith) (omega arith))

-- no entry has a moment yet
pub none_falls : (xs : List Entry) → xs ≡ [] → NeverFalls xs
unfolding NeverFalls
none_falls xs none = subst NeverFalls (sym none) tt

one_more_rises : (xs : List Entry) (e : Entry) → NeverFalls xs → All (λ x. x.moment ≤ e.moment) xs → NeverFalls (xs ++ e ∷ [])
unfolding NeverFalls
one_more_rises [] e never latest = (All-nil (λ l. e.moment ≤ l.moment), tt)
one_more_rises (x ∷ xs) e never latest =
    let Low : Entry → Type 0 = λ y. y.moment ≤ e.moment in (
      All-push (λ l. x.moment ≤ l.moment) xs e never.0 (All-head Low x xs latest),
      one_more_rises xs e never.1 (All-tail Low x xs latest),
    )

-- one entry more, whose moment is not before any other
pub rises_on : (old new : List Entry) (e : Entry) (given : ℕ) → new ≡ old ++ e ∷ [] → e.moment ≡ given → NeverFalls old
    → All (λ x. x.moment ≤ given) old → NeverFalls new
rises_on old new e given is same never latest =
    subst NeverFalls (sym is) (one_more_rises old e never (subst (λ m. All (λ x. x.moment ≤ m) old) (sym same) latest))
