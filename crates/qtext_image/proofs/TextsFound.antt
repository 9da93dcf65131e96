-- An image that was read is spelled as it stands, and what it says is not at fault.
use Rattle.std.proofs.Common.{◌≡◌, ◌⊎◌, ℕ, ◌+◌, Bool, true, false, cond, not, eqb, List, [], ◌∷◌, ◌++◌, length, Option, Some, None, Result, Ok, Err, inl, inr, refl, sym, ap, subst, ◌∙◌, append_assoc, arith, codes, ⊎_elim}
use Rattle.std.specs.List.{flat_map, join_with_byte, list_all}
use Rattle.std.specs.Str.{bytes_eq}
use Rattle.std.proofs.lemmas.Bool.{eqb-true}
use Rattle.std.proofs.lemmas.List.{append-nil, nil_from_length}
use Rattle.qplain.specs.declared.edition.Edition.{Edition}
use Rattle.qplain.specs.declared.edition.Edition.TheVariants.{One, Two}
use Rattle.qplain.specs.Editions.{file_limit_of}
use Rattle.qplain.specs.Setups.{in_edition}
use Rattle.qplain.specs.State.{State, start}
use Rattle.qplain_laws.specs.Beginnings.{IsStateOf}
use Rattle.qplain_laws.specs.Laws.{KeepsSetup}
use Rattle.qplain_image.specs.Rows.{Row, made_of, rows_of}
use Rattle.qtext.specs.declared.text_fault.TextKind.{TextKind}
use Rattle.qtext.specs.declared.text_fault.TextKind.TheVariants.{BadByte, BadHead, Cut}
use Rattle.qtext.specs.Reading.{◌>>=◌}
use Rattle.qtext.specs.Words.{is_text_byte, number_of, parts}
use Rattle.qtext.proofs.StepsFound.{joined, kept, not_false, passed, same_ok, same_word, step_found}
use Rattle.qtext.proofs.WordsFound.{number_found}
use Rattle.qtext_files.specs.Journals.{edition_of, head_keyword}
use Rattle.qtext_files.specs.RawLines.{RawLine, raw_lines_from}
use Rattle.qtext_files.specs.Spelling.{edition_text}
use Rattle.qtext_image.specs.Counts.{count_fault}
use Rattle.qtext_image.specs.Faults.{ImageFault, ImageKind, row_fault}
use Rattle.qtext_image.specs.Images.{Head, MAX_PLACE, Said, head_in, image_in, in_text, is_end, rows_at_end, rows_up_to_end, unless_miscounted, unless_wrong, words_of}
use Rattle.qtext_image.specs.Laws.{ImagesAreExact, ImagesTellOfBeginnings, ImagesTellOfOtherBeginnings}
use Rattle.qtext_image.specs.RowsRead.{row_in}
use Rattle.qtext_image.specs.Setups.{setup_of}
use Rattle.qtext_image.specs.Spelling.{end_line, head_text, head_words, image_text, row_text, row_words}
use Rattle.qtext_image.proofs.Balanced.{counts-pass}
use Rattle.qtext_image.proofs.Founded.{founded, own-founded}
use Rattle.qtext_image.proofs.Made.{made-limit, made-well}
use Rattle.qtext_image.proofs.RowsFound.{row_found}

-- ---- steps

text_found : {A : Type 0} {x : A} (line : ℕ) (read : Result A TextKind) → in_text line read ≡ Ok x → read ≡ Ok x
text_found line (Ok x) e = ap Ok (same_ok e)
text_found line (Err kind) e = absurd (cc e)

right_found : (line : ℕ) (rows others : List Row) (fault : Option ImageKind) → unless_wrong line rows fault ≡ Ok others → (fault ≡ None) × (rows ≡ others)
right_found line rows others None e = (refl, same_ok e)
right_found line rows others (Some kind) e = absurd (cc e)

counts_found : (rows others : List Row) (fault : Option ImageFault) → unless_miscounted rows fault ≡ Ok others → (fault ≡ None) × (rows ≡ others)
counts_found rows others None e = (refl, same_ok e)
counts_found rows others (Some fault) e = absurd (cc e)

-- ---- lines

-- the words are those of a whole line
words_found : (l : RawLine) (ws : List (List ℕ)) → words_of l ≡ Ok ws → (l.whole ≡ true) × (join_with_byte 32 ws ≡ l.bytes)
unfolding words_of
words_found l ws e =
    let whole = passed (not l.whole) _ Cut ws e in
    let text = passed (not (list_all is_text_byte l.bytes)) _ BadByte ws whole.1 in
    (not_false l.whole whole.0, joined 32 l.bytes ws (sym (same_ok text.1)))

line_then : (front line rest others : List ℕ) → front ≡ line → rest ≡ others → (front ++ 10 ∷ []) ++ rest ≡ line ++ 10 ∷ others
line_then front line rest others here behind = rw (here, behind) (append_assoc line (10 ∷ []) others)

-- the counts of these rows are not at fault
abbrev AreCounted : ℕ → List Row → Type 0
AreCounted limit rows = count_fault (made_of limit rows) 2 rows (rows_of (made_of limit rows)) ≡ None

-- nothing stands behind the last line
record HasEnded (limit : ℕ) (before rs : List Row) (text : List ℕ) : Type 0 where
  same : before ≡ rs
  counts : AreCounted limit rs
  none : text ≡ []

none_behind : (limit n : ℕ) (before : List Row) (m : List ℕ) (ls : List (List ℕ)) (rs : List Row) → rows_at_end limit before (raw_lines_from n (m ∷ ls)) ≡ Ok rs
    → HasEnded limit before rs (join_with_byte 10 (m ∷ ls))
unfolding rows_at_end raw_lines_from
none_behind limit n before m [] rs e = by (eqb (length m) 0) refl e
  where
    by : (b : Bool) → eqb (length m) 0 ≡ b → rows_at_end limit before (cond b [] (record { number = n; bytes = m; whole = false } ∷ [])) ≡ Ok rs
        → HasEnded limit before rs m
    by true none e =
        let found = counts_found before rs _ e in
        record { same = found.1; counts = subst (AreCounted limit) found.1 found.0; none = nil_from_length m (eqb-true (length m) 0 none) }
    by false none e = absurd (cc e)
none_behind limit n before m (x ∷ ls) rs e = absurd (cc e)

end_found_in : (ws : List (List ℕ)) → is_end ws ≡ true → join_with_byte 32 ws ≡ codes "end"
unfolding is_end
end_found_in [] e = absurd (cc e)
end_found_in (w ∷ []) e = same_word w (codes "end") e
end_found_in (w ∷ v ∷ ws) e = absurd (cc e)

-- no row is there, or the last one is not at fault
abbrev IsSoFar : ℕ → List Row → Type 0
IsSoFar limit rows = (rows ≡ []) ⊎ (row_fault limit rows ≡ None)

-- the rows are those before with those that the lines from here on spell up to the end, and nothing is wrong with them
record AreRows (limit : ℕ) (before rs : List Row) (text : List ℕ) : Type 0 where
  more : List Row
  all : before ++ more ≡ rs
  spelled : flat_map row_text more ++ end_line ≡ text
  last : IsSoFar limit before → IsSoFar limit rs
  counts : AreCounted limit rs

-- a line that is cut has no words
cut_words : (n : ℕ) (l : List ℕ) (ws : List (List ℕ)) → words_of (record { number = n; bytes = l; whole = false }) ≡ Ok ws → ⊥
cut_words n l ws e = cc ((words_found (record { number = n; bytes = l; whole = false }) ws e).0)

no_rows_cut : (limit n : ℕ) (before : List Row) (l : List ℕ) (rs : List Row) (empty : Bool)
    → rows_up_to_end limit n before (cond empty [] (record { number = n; bytes = l; whole = false } ∷ [])) ≡ Ok rs → ⊥
unfolding rows_up_to_end
no_rows_cut limit n before l rs true e = cc e
no_rows_cut limit n before l rs false e =
    let first : RawLine = record { number = n; bytes = l; whole = false } in
    step_found (in_text n (words_of first)) _ e λ w is e. cut_words n l w (text_found n (words_of first) is)

rows_found : (limit n : ℕ) (before : List Row) (ls : List (List ℕ)) (rs : List Row) → rows_up_to_end limit n before (raw_lines_from n ls) ≡ Ok rs
    → AreRows limit before rs (join_with_byte 10 ls)
unfolding raw_lines_from rows_up_to_end
rows_found limit n before [] rs e = absurd (cc e)
rows_found limit n before (l ∷ []) rs e = absurd (no_rows_cut limit n before l rs _ e)
rows_found limit n before (l ∷ m ∷ ls) rs e =
    let first : RawLine = record { number = n; bytes = l; whole = true } in
    step_found (in_text n (words_of first)) _ e λ w is e.
    let so = words_found first w (text_found n (words_of first) is) in
    by w so.1 (λ rows found. rows_found limit (n + 1) rows (m ∷ ls) rs found) (is_end w) refl e
  where
    by : (w : List (List ℕ)) → join_with_byte 32 w ≡ l
        → ((rows : List Row) → rows_up_to_end limit (n + 1) rows (raw_lines_from (n + 1) (m ∷ ls)) ≡ Ok rs → AreRows limit rows rs (join_with_byte 10 (m ∷ ls)))
        → (b : Bool) → is_end w ≡ b
        → cond b (rows_at_end limit before (raw_lines_from (n + 1) (m ∷ ls)))
        (in_text n (row_in w) >>= λ row. unless_wrong n (before ++ row ∷ []) (row_fault limit (before ++ row ∷ []))
        >>= λ rows. rows_up_to_end limit (n + 1) rows (raw_lines_from (n + 1) (m ∷ ls))) ≡ Ok rs
        → AreRows limit before rs (l ++ 10 ∷ join_with_byte 10 (m ∷ ls))
    by w same later true ends e =
        let end = none_behind limit (n + 1) before m ls rs e in
        let line : l ≡ codes "end" = sym same ∙ end_found_in w ends in
        record {
          more = [];
          all = append-nil before ∙ end.same;
          spelled = rw (line, end.none) refl;
          last = subst (IsSoFar limit) end.same;
          counts = end.counts;
        }
    by w same later false more e =
        step_found (in_text n (row_in w)) _ e λ r is e.
        step_found (unless_wrong n (before ++ r ∷ []) (row_fault limit (before ++ r ∷ []))) _ e λ rows are e.
        let so = row_found w r (text_found n (row_in w) is) in
        let right = right_found n (before ++ r ∷ []) rows _ are in
        let rest = later rows e in
        record {
          more = r ∷ rest.more;
          all = sym (append_assoc before (r ∷ []) rest.more) ∙ ap (λ xs. xs ++ rest.more) right.1 ∙ rest.all;
          spelled = append_assoc (row_text r) (flat_map row_text rest.more) end_line
              ∙ line_then (join_with_byte 32 (row_words r)) l (flat_map row_text rest.more ++ end_line) _ (ap (join_with_byte 32) so.0 ∙ same) rest.spelled;
          last = λ before. rest.last (inr (subst (λ xs. row_fault limit xs ≡ None) right.1 right.0));
          counts = rest.counts;
        }

-- ---- the head

keyword_found : (wanted word : List ℕ) (u : Unit {0}) → head_keyword wanted word ≡ Ok u → wanted ≡ word
unfolding head_keyword
keyword_found wanted word u e = sym (same_word word wanted (kept _ (Ok tt) BadHead u e).0)

edition_by : (word : List ℕ) (e : Edition) (one two : Bool) → bytes_eq word (codes "1") ≡ one → bytes_eq word (codes "2") ≡ two
    → cond one (Ok One) (cond two (Ok Two) (Err BadHead)) ≡ Ok e → edition_text e ≡ word
edition_by word e true two is_one is_two same = rw (← same_ok same) (sym (same_word word (codes "1") is_one))
edition_by word e false true is_one is_two same = rw (← same_ok same) (sym (same_word word (codes "2") is_two))
edition_by word e false false is_one is_two same = absurd (cc same)

edition_found : (word : List ℕ) (e : Edition) → edition_of word ≡ Ok e → edition_text e ≡ word
unfolding edition_of
edition_found word e same = edition_by word e (bytes_eq word (codes "1")) (bytes_eq word (codes "2")) refl refl same

head_found : (ws : List (List ℕ)) (head : Head) → head_in ws ≡ Ok head → head_words head.edition head.place ≡ ws
unfolding head_in
head_found (q ∷ i ∷ v ∷ a ∷ p ∷ []) head e =
    step_found (head_keyword (codes "quotafs") q) _ e λ t is_q e.
    step_found (head_keyword (codes "image") i) _ e λ u is_i e.
    step_found (edition_of v) _ e λ edition is_v e.
    step_found (head_keyword (codes "at") a) _ e λ y is_a e.
    step_found (number_of BadHead MAX_PLACE p) _ e λ place is_p e.
    let so = number_found BadHead MAX_PLACE p place (omega arith) is_p in
    rw (← same_ok e)
    (rw (so.0, edition_found v edition is_v, ← keyword_found _ q t is_q, ← keyword_found _ i u is_i, ← keyword_found _ a y is_a) refl)
head_found ws head e = absurd (cc e)

-- ---- the text

-- the rows of an image that was read
record HasRead (said : Said) (text : List ℕ) : Type 0 where
  rows : List Row
  state : made_of (file_limit_of said.edition) rows ≡ said.state
  spelled : head_text said.edition said.place ++ (flat_map row_text rows ++ end_line) ≡ text
  last : IsSoFar (file_limit_of said.edition) rows
  counts : AreCounted (file_limit_of said.edition) rows

no_head_cut : (l : List ℕ) (said : Said) (empty : Bool) → image_in (cond empty [] (record { number = 1; bytes = l; whole = false } ∷ [])) ≡ Ok said → ⊥
unfolding image_in
no_head_cut l said true e = cc e
no_head_cut l said false e =
    let first : RawLine = record { number = 1; bytes = l; whole = false } in
    step_found (in_text 1 (words_of first)) _ e λ ws is e. cut_words 1 l ws (text_found 1 (words_of first) is)

lines_found : (ls : List (List ℕ)) (said : Said) → image_in (raw_lines_from 1 ls) ≡ Ok said → HasRead said (join_with_byte 10 ls)
unfolding raw_lines_from image_in
lines_found [] said e = absurd (cc e)
lines_found (l ∷ []) said e = absurd (no_head_cut l said _ e)
lines_found (l ∷ m ∷ ls) said e =
    let first : RawLine = record { number = 1; bytes = l; whole = true } in
    step_found (in_text 1 (words_of first)) _ e λ ws are e.
    step_found (in_text 1 (head_in ws)) _ e λ head is_head e.
    let limit : ℕ = file_limit_of head.edition in
    step_found (rows_up_to_end limit 2 [] (raw_lines_from 2 (m ∷ ls))) _ e λ rows are_rows e.
    let line = words_found first ws (text_found 1 (words_of first) are) in
    let told = head_found ws head (text_found 1 (head_in ws) is_head) in
    let rest = rows_found limit 2 [] (m ∷ ls) rows are_rows in
    subst (λ x. HasRead x (l ++ 10 ∷ join_with_byte 10 (m ∷ ls))) (same_ok e) (record {
      rows = rows;
      state = refl;
      spelled = line_then (join_with_byte 32 (head_words head.edition head.place)) l (flat_map row_text rows ++ end_line) _
          (ap (join_with_byte 32) told ∙ line.1) (ap (λ rs. flat_map row_text rs ++ end_line) (sym rest.all) ∙ rest.spelled);
      last = rest.last (inl refl);
      counts = rest.counts;
    })

image_found : (text : List ℕ) (said : Said) → image_in (raw_lines_from 1 (parts 10 text)) ≡ Ok said → HasRead said text
image_found text said e = subst (HasRead said) (joined 10 text _ refl) (lines_found (parts 10 text) said e)

pub images_are_exact : ImagesAreExact
images_are_exact text said e =
    let read = image_found text said e in
    let limit : ℕ = file_limit_of said.edition in
    let rows = (counts-pass (made_of limit read.rows) 2 read.rows (rows_of (made_of limit read.rows)) read.counts).0 in
    ap (λ S. image_text said.edition said.place S) (sym read.state)
    ∙ ap (λ l. head_text said.edition said.place ++ (l ++ end_line)) rows ∙ read.spelled

-- there is a row, of which the last one is not at fault
some-row : (limit : ℕ) (rows : List Row) → AreCounted limit rows → IsSoFar limit rows → row_fault limit rows ≡ None
some-row limit [] counts last = absurd (cc counts)
some-row limit (r ∷ rows) counts last = ⊎_elim (λ none. absurd (cc none)) (λ right. right) last

pub images_tell_of_beginnings : ImagesTellOfBeginnings
images_tell_of_beginnings text said e =
    let read = image_found text said e in
    let limit : ℕ = file_limit_of said.edition in
    let S : State = made_of limit read.rows in
    subst (λ (T : State). IsStateOf (in_edition said.edition (setup_of T)) T) read.state
    (own-founded S read.rows (made-well limit read.rows) (some-row limit read.rows read.counts read.last) read.counts said.edition (made-limit limit read.rows))

pub images_tell_of_other_beginnings : ImagesTellOfOtherBeginnings
images_tell_of_other_beginnings text said setting e setup keeps =
    let read = image_found text said e in
    let limit : ℕ = file_limit_of said.edition in
    let S : State = made_of limit read.rows in
    subst (λ (T : State). KeepsSetup (start setting) T → IsStateOf setting T) read.state
    (founded S read.rows (made-well limit read.rows) (some-row limit read.rows read.counts read.last) read.counts setting setup) keeps
