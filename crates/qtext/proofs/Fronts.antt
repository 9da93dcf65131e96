-- A text written in parts.
use Rattle.std.proofs.Common.{◌≡◌, ◌+◌, ◌<◌, ◌≤◌, ℕ, get_or, length, add-one, drop-cons, take, drop, List, [], ◌∷◌, ◌++◌, Option, Some, None, Result, Ok, Err, refl, sym, ap, ◌∙◌, append_assoc, subst}
use Rattle.std.specs.Io.KnownBytes.{Appends, Keeps}
use Rattle.std.specs.Prelude.{IsErr}
use Rattle.std.proofs.lemmas.List.{append-nil, drop_all, take-append-drop}
use Rattle.std.proofs.lemmas.List.Concat.{flat_map-cons}
use Rattle.std.specs.List.{flat_map}
use Rattle.qtext.specs.Written.{AppendsFront, Partly, Passes, Writes}

pub appends_nothing : (a : Option (List ℕ)) → Appends a a []
appends_nothing None = tt
appends_nothing (Some xs) = sym (append-nil xs)

pub appends_then : (a b c : Option (List ℕ)) (xs ys : List ℕ) → Appends a b xs → Appends b c ys → Appends a c (xs ++ ys)
appends_then None b c xs ys p q = tt
appends_then (Some us) None c xs ys p q = absurd p
appends_then (Some us) (Some bs) None xs ys p q = absurd q
appends_then (Some us) (Some bs) (Some cs) xs ys p q = q ∙ ap (λ (l : List ℕ). l ++ ys) p ∙ append_assoc us xs ys

-- after a refusal in the first part
pub front_of_first : (a b : Option (List ℕ)) (xs ys : List ℕ) → AppendsFront a b xs → AppendsFront a b (xs ++ ys)
front_of_first a b xs ys f =
    record {
      front = f.front;
      rest = f.rest ++ ys;
      parts = ap (λ (l : List ℕ). l ++ ys) f.parts
          ∙ append_assoc f.front f.rest ys;
      appends = f.appends;
    }

-- after a refusal in the second part
pub front_of_second : (a b c : Option (List ℕ)) (xs ys : List ℕ) → Appends a b xs → AppendsFront b c ys → AppendsFront a c (xs ++ ys)
front_of_second a b c xs ys p f =
    record {
      front = xs ++ f.front;
      rest = f.rest;
      parts = ap (λ (l : List ℕ). xs ++ l) f.parts
          ∙ sym (append_assoc xs f.front f.rest);
      appends = appends_then a b c xs f.front p f.appends;
    }

-- a refusal in the first part ends the text
pub refused_first : {T E : Type 0} (a b : Option (List ℕ)) (r : Result T E) (xs ys : List ℕ) → IsErr r → AppendsFront a b xs → Writes a b r (xs ++ ys)
refused_first a b (Ok x) xs ys h f = absurd (cc)
refused_first a b (Err e) xs ys h f = front_of_first a b xs ys f

pub writes_then : {T E : Type 0} (a b c : Option (List ℕ)) (r : Result T E) (xs ys : List ℕ) → Appends a b xs → Writes b c r ys → Writes a c r (xs ++ ys)
writes_then a b c (Ok x) xs ys p q = appends_then a b c xs ys p q
writes_then a b c (Err e) xs ys p q = front_of_second a b c xs ys p q

-- a refusal in the last part ends the text
pub refused_last : {T E : Type 0} (a b c : Option (List ℕ)) (r : Result T E) (xs ys : List ℕ) → IsErr r
    → Appends a b xs → AppendsFront b c ys → Writes a c r (xs ++ ys)
refused_last a b c (Ok x) xs ys h p f = absurd (cc)
refused_last a b c (Err e) xs ys h p f = front_of_second a b c xs ys p f

pub partly_at_first : (a : Option (List ℕ)) (text : List ℕ) → Partly a a text text
partly_at_first a text = record { front = []; parts = refl; appends = appends_nothing a }

pub partly_more : (a b c : Option (List ℕ)) (text rest xs ys : List ℕ) → Partly a b text rest → rest ≡ xs ++ ys → Appends b c xs → Partly a c text ys
partly_more a b c text rest xs ys p e q =
    record {
      front = p.front ++ xs;
      parts = p.parts ∙ ap (λ (l : List ℕ). p.front ++ l) e
          ∙ sym (append_assoc p.front xs ys);
      appends = appends_then a b c p.front xs p.appends q;
    }

pub partly_done : (a b : Option (List ℕ)) (text : List ℕ) → Partly a b text [] → Appends a b text
partly_done a b text p = subst (λ (l : List ℕ). Appends a b l) (sym (p.parts ∙ append-nil p.front)) p.appends

pub keeps_appends : (a b c : Option (List ℕ)) (xs : List ℕ) → Appends a b xs → Keeps b c → Appends a c xs
keeps_appends None b c xs p q = tt
keeps_appends (Some us) None c xs p q = absurd p
keeps_appends (Some us) (Some bs) None xs p q = absurd q
keeps_appends (Some us) (Some bs) (Some cs) xs p q = q ∙ p

pub partly_stops : (a b c : Option (List ℕ)) (text rest : List ℕ) → Partly a b text rest → Keeps b c → AppendsFront a c text
partly_stops a b c text rest p q = record { front = p.front; rest = rest; parts = p.parts; appends = keeps_appends a b c p.front p.appends q }

pub partly_refused : (a b c : Option (List ℕ)) (text rest xs : List ℕ) → Partly a b text rest
    → AppendsFront b c xs → (ys : List ℕ) → rest ≡ xs ++ ys → AppendsFront a c text
partly_refused a b c text rest xs p f ys e =
    record {
      front = p.front ++ f.front;
      rest = f.rest ++ ys;
      parts = p.parts
          ∙ ap (λ (l : List ℕ). p.front ++ l) (e ∙ ap (λ (l : List ℕ). l ++ ys) f.parts
          ∙ append_assoc f.front f.rest ys) ∙ sym (append_assoc p.front f.front (f.rest ++ ys));
      appends = appends_then a b c p.front f.front p.appends f.appends;
    }

pub partly_taken : (a b c : Option (List ℕ)) (text rest : List ℕ) (n : ℕ) → Partly a b text rest → Appends b c (take n rest) → Partly a c text (drop n rest)
partly_taken a b c text rest n p q = partly_more a b c text rest (take n rest) (drop n rest) p (sym (take-append-drop n rest)) q

-- one part of what is left was written, or a beginning of it
pub partly_next : (a b c : Option (List ℕ)) (text rest xs ys : List ℕ) → Partly a b text rest → Appends b c xs → rest ≡ xs ++ ys → Partly a c text ys
partly_next a b c text rest xs ys p q e = partly_more a b c text rest xs ys p e q

-- all that is left was written, or a beginning of it
pub partly_last : {T E : Type 0} (a b c : Option (List ℕ)) (r : Result T E) (text rest : List ℕ)
    → Partly a b text rest → Writes b c r rest → Writes a c r text
partly_last a b c r text rest p q = rw p.parts (writes_then a b c r p.front rest p.appends q)

-- how a loop ends at a refusal
pub ends_refused : {T E : Type 0} (a b c : Option (List ℕ)) (r : Result T E) (text rest xs ys : List ℕ)
    → IsErr r → Partly a b text rest → AppendsFront b c xs → rest ≡ xs ++ ys → Writes a c r text
ends_refused a b c (Ok x) text rest xs ys h p f e = absurd (cc)
ends_refused a b c (Err d) text rest xs ys h p f e = partly_refused a b c text rest xs p f ys e

-- the text of the rows from one on is that row's text and the text of the rows after it
row_by_row : {A : Type 0} (text : A → List ℕ) (rows : List A) (i : ℕ) (x d : A) → x ≡ get_or rows i d
    → i < length rows → flat_map text (drop i rows) ≡ text x ++ flat_map text (drop (i + 1) rows)
row_by_row text rows i x d is lt =
    let cut : drop i rows ≡ x ∷ drop (i + 1) rows = rw (is, add-one) (drop-cons rows i d lt) in
    ap (flat_map text) cut ∙ flat_map-cons text x (drop (i + 1) rows)

-- a loop over rows: one more row was written
pub rows_go_on : {A : Type 0} (a b c : Option (List ℕ)) (text : A → List ℕ) (rows : List A) (i : ℕ) (x d : A)
    → x ≡ get_or rows i d → Partly a b (flat_map text rows) (flat_map text (drop i rows))
    → Appends b c (text x) → i < length rows
    → Partly a c (flat_map text rows) (flat_map text (drop (i + 1) rows))
rows_go_on a b c text rows i x d is p q lt = partly_next a b c _ _ _ _ p q (row_by_row text rows i x d is lt)

-- a loop over rows: the writer refused one
pub rows_refused : {A T E : Type 0} (a b c : Option (List ℕ)) (r : Result T E) (text : A
    → List ℕ) (rows : List A) (i : ℕ) (x d : A) → x ≡ get_or rows i d → IsErr r
    → Partly a b (flat_map text rows) (flat_map text (drop i rows)) → AppendsFront b c (text x)
    → i < length rows → Writes a c r (flat_map text rows)
rows_refused a b c r text rows i x d is h p f lt = ends_refused a b c r _ _ _ _ h p f (row_by_row text rows i x d is lt)

-- a loop over rows: all were written
pub rows_end : {A : Type 0} (a b : Option (List ℕ)) (text : A → List ℕ) (rows : List A) (i : ℕ)
    → Partly a b (flat_map text rows) (flat_map text (drop i rows)) → length rows ≤ i
    → Appends a b (flat_map text rows)
rows_end a b text rows i p le = partly_done a b _ (rw (drop_all i rows le) at p)

-- nothing was written yet
pub passes_nothing : {T E : Type 0} (a : Option (List ℕ)) (r : Result T E) (x : T) (text : List ℕ) → r ≡ Ok x → Passes a a r text text
passes_nothing a r x text done = rw done (partly_at_first a text)

-- all of it was
pub passes_all : {T E : Type 0} (a b : Option (List ℕ)) (r : Result T E) (xs : List ℕ) → Writes a b r xs → Passes a b r xs []
passes_all a b (Ok x) xs p = record { front = xs; parts = sym (append-nil xs); appends = p }
passes_all a b (Err e) xs f = f

-- what is left is followed by more
pub partly_on : (a b : Option (List ℕ)) (text rest more : List ℕ) → Partly a b text rest → Partly a b (text ++ more) (rest ++ more)
partly_on a b text rest more p =
    record { front = p.front; parts = ap (λ (l : List ℕ). l ++ more) p.parts ∙ append_assoc p.front rest more; appends = p.appends }

-- some of what was left was written
pub partly_then : (a b c : Option (List ℕ)) (text rest left : List ℕ) → Partly a b text rest → Partly b c rest left → Partly a c text left
partly_then a b c text rest left p q = record {
  front = p.front ++ q.front;
  parts = p.parts ∙ ap (λ (l : List ℕ). p.front ++ l) q.parts ∙ sym (append_assoc p.front q.front left);
  appends = appends_then a b c p.front q.front p.appends q.appends;
}

-- a part of the text passed, and then what is left of it
pub passes_then : {T E : Type 0} (a b c : Option (List ℕ)) (r : Result T E) (text rest left : List ℕ)
    → Partly a b text rest → Passes b c r rest left → Passes a c r text left
passes_then a b c (Ok x) text rest left p q = partly_then a b c text rest left p q
passes_then a b c (Err e) text rest left p q = rw p.parts (front_of_second a b c p.front rest p.appends q)

-- a refusal in the first part of what is left
pub passes_refused : {T E : Type 0} (a b c : Option (List ℕ)) (r : Result T E) (text rest xs ys left : List ℕ)
    → IsErr r → Partly a b text rest → AppendsFront b c xs → rest ≡ xs ++ ys → Passes a c r text left
passes_refused a b c (Ok x) text rest xs ys left h p f e = absurd (cc)
passes_refused a b c (Err d) text rest xs ys left h p f e = partly_refused a b c text rest xs p f ys e

-- a refusal in the first part of a text
pub passes_front : {T E : Type 0} (a b : Option (List ℕ)) (r : Result T E) (text xs ys left : List ℕ)
    → IsErr r → AppendsFront a b xs → text ≡ xs ++ ys → Passes a b r text left
passes_front a b (Ok x) text xs ys left h f e = absurd (cc)
passes_front a b (Err d) text xs ys left h f e = rw e (front_of_first a b xs ys f)

-- a refusal in what was left of a text
pub passes_ends : {T E : Type 0} (a b c : Option (List ℕ)) (r : Result T E) (text rest left : List ℕ)
    → IsErr r → Partly a b text rest → AppendsFront b c rest → Passes a c r text left
passes_ends a b c (Ok x) text rest left h p f = absurd (cc)
passes_ends a b c (Err d) text rest left h p f = rw p.parts (front_of_second a b c p.front rest p.appends f)
