-- What is read of the lines of an image, one line more.
use Rattle.std.proofs.Common.{◌≡◌, ℕ, ◌+◌, ◌<◌, ◌^◌, Bool, true, false, cond, List, [], ◌∷◌, ◌++◌, ◌==◌, length, Some, None, Result, Ok, Err, inl, inr, refl, sym, ap, subst, ◌∙◌, append_assoc, arith}
use Rattle.std.specs.List.{AllByRecursion}
use Rattle.std.proofs.lemmas.List.Sums.{fold-append}
use Rattle.qplain_image.specs.Rows.{Row, with_row, blank}
use Rattle.qtext.specs.declared.text_fault.TextKind.{TextKind}
use Rattle.qtext.specs.declared.text_fault.TextKind.TheVariants.{Cut, TooMany}
use Rattle.qtext_files.specs.RawLines.{RawLine, raw_lines_from}
use Rattle.qtext_image.specs.Faults.{ImageKind, InText, row_fault}
use Rattle.qtext_image.specs.Held.{IsRow}
use Rattle.qtext_image.specs.Images.{is_end, rows_at_end, rows_up_to_end, words_of}
use Rattle.qtext_image.specs.NextFaults.{next_fault}
use Rattle.qtext_image.specs.RowsRead.{row_in}
use Rattle.qtext_image.proofs.NextFaults.{row-fault-next-typed}
use Rattle.qtext_image.proofs.Prefixes.{Passes}
use Rattle.qtext_image.proofs.RowsFound.{row_found}
use Rattle.qtext_image_read.specs.Lines.{line_in}
use Rattle.qstore_open.specs.declared.lines.Taken.TheVariants as taken
use Rattle.qstore_open.specs.declared.open_fault.OpenFault.{OpenFault}
use Rattle.qstore_open.specs.declared.open_fault.OpenFault.TheVariants as refusals
use Rattle.qstore_open.specs.declared.row_fault.RowFault.{RowFault}
use Rattle.qstore_open.specs.declared.row_fault.RowFault.TheVariants as faults
use Rattle.qstore_open.specs.Faults.{kind_of}
use Rattle.qstore_open.specs.ReadTo.{DoPass, IsBehind, IsReadTo, IsToldBy, IsWrong, TakesLine, TakesLines, in_line}
use Rattle.qstore_open.specs.Told.{Told, nothing_told, records_more, told_more}

-- ---- what a line says

-- a row in a line, or none in the last
data Says (l : RawLine) : Type 0 where
  Ends : (w : List (List ℕ)) → words_of l ≡ Ok w → is_end w ≡ true → line_in l ≡ Ok None → Says l
  Tells : (w : List (List ℕ)) (row : Row) → words_of l ≡ Ok w → is_end w ≡ false → row_in w ≡ Ok row → line_in l ≡ Ok (Some row) → Says l
  Fails : (k : TextKind) → line_in l ≡ Err k → ((line : ℕ) (limit : ℕ) (rows : List Row) (ls : List RawLine)
      → rows_up_to_end limit line rows (l ∷ ls) ≡ Err (record { line = line; kind = InText k })) → Says l

module _ (l : RawLine) where
  by_row : (w : List (List ℕ)) (read : Result Row TextKind) → words_of l ≡ Ok w → is_end w ≡ false → row_in w ≡ read → Says l
  unfolding line_in rows_up_to_end
  by_row w (Ok row) words end is = Tells w row words end is (rw (words, end, is) refl)
  by_row w (Err k) words end is = Fails k (rw (words, end, is) refl) (λ line limit rows ls. rw (words, end, is) refl)

  by_end : (w : List (List ℕ)) (b : Bool) → words_of l ≡ Ok w → is_end w ≡ b → Says l
  unfolding line_in
  by_end w true words end = Ends w words end (rw (words, end) refl)
  by_end w false words end = by_row w (row_in w) words end refl

  by_words : (read : Result (List (List ℕ)) TextKind) → words_of l ≡ read → Says l
  unfolding line_in rows_up_to_end
  by_words (Ok w) words = by_end w (is_end w) words refl
  by_words (Err k) words = Fails k (rw words refl) (λ line limit rows ls. rw words refl)

  says : Says l
  says = by_words (words_of l) refl

-- ---- one line more of those that are read

passes-as : (limit : ℕ) (before rows : List Row) → DoPass limit before rows → Passes limit before rows
passes-as limit before [] pass = tt
passes-as limit before (r ∷ rows) pass = (pass.0, passes-as limit (before ++ r ∷ []) rows pass.1)

pass-end : (limit : ℕ) (before rows : List Row) (r : Row) → DoPass limit before rows → row_fault limit ((before ++ rows) ++ r ∷ []) ≡ None
    → DoPass limit before (rows ++ r ∷ [])
pass-end limit before [] r pass none = (subst (λ xs. row_fault limit (xs ++ r ∷ []) ≡ None) (append-none before) none, tt)
  where
    append-none : (xs : List Row) → xs ++ [] ≡ xs
    append-none [] = refl
    append-none (x ∷ xs) = ap (λ l. x ∷ l) (append-none xs)
pass-end limit before (q ∷ rows) r pass none = (
  pass.0,
  pass-end limit (before ++ q ∷ []) rows r pass.1 (subst (λ xs. row_fault limit (xs ++ r ∷ [])
      ≡ None) (sym (append_assoc before (q ∷ []) rows)) none),
)

typed-end : (rows : List Row) (r : Row) → AllByRecursion IsRow rows → IsRow r → AllByRecursion IsRow (rows ++ r ∷ [])
typed-end [] r all own = (own, tt)
typed-end (q ∷ rows) r all own = (all.0, typed-end rows r all.1 own)

pub told-none : (limit : ℕ) → IsToldBy limit [] (nothing_told limit)
told-none limit = record { typed = tt; pass = tt; state = refl; records = refl }

module _ (limit : ℕ) (small : limit < 2 ^ 64) (rows : List Row) (told : Told) (tell : IsToldBy limit rows told) where
  next-is : (row : Row) → IsRow row → row_fault limit (rows ++ row ∷ []) ≡ next_fault told.state row
  next-is row own =
      row-fault-next-typed limit rows row small tell.typed own (passes-as limit [] rows tell.pass)
      ∙ ap (λ S. next_fault S row) tell.state

  told-one : (row : Row) → IsRow row → next_fault told.state row ≡ None → IsToldBy limit (rows ++ row ∷ []) (told_more told row)
  told-one row own none = record {
    typed = typed-end rows row tell.typed own;
    pass = pass-end limit [] rows row tell.pass (next-is row own ∙ none);
    state = fold-append with_row (blank limit) rows (row ∷ []) ∙ ap (λ S. with_row S row) tell.state;
    records = fold-append records_more [] rows (row ∷ []) ∙ ap (λ ts. records_more ts row) tell.records;
  }

module _ (limit : ℕ) (small : limit < 2 ^ 64) (all : List RawLine) (line : ℕ) (l : RawLine) (ls : List RawLine) (told : Told)
    (read : IsReadTo limit all line (l ∷ ls) told) where
  typed-row : (w : List (List ℕ)) (row : Row) → row_in w ≡ Ok row → IsRow row
  typed-row w row is = (row_found w row is).1

  same-some : (a b : Row) → line_in l ≡ Ok (Some a) → line_in l ≡ Ok (Some b) → a ≡ b
  same-some a b one other = cc (sym one ∙ other)

  -- a row of which nothing is wrong is taken in
  pub reads-on : (row : Row) → line_in l ≡ Ok (Some row) → next_fault told.state row ≡ None → IsReadTo limit all (line + 1) ls (told_more told row)
  unfolding rows_up_to_end
  reads-on row is none = by (says l)
    where
      with-row : (w : List (List ℕ)) → words_of l ≡ Ok w → is_end w ≡ false → row_in w ≡ Ok row → IsReadTo limit all (line + 1) ls (told_more told row)
      with-row w words end row_is =
          let own = typed-row w row row_is in
          let fine : row_fault limit (read.rows ++ row ∷ []) ≡ None = next-is limit small read.rows told read.tell row own ∙ none in
          record {
            rows = read.rows ++ row ∷ [];
            tell = told-one limit small read.rows told read.tell row own none;
            same = read.same ∙ rw (words, end, row_is, fine) refl;
          }

      by : Says l → IsReadTo limit all (line + 1) ls (told_more told row)
      by (Ends w words end ends) = absurd (cc (sym is ∙ ends))
      by (Tells w other words end row_is tells) =
          with-row w words end (row_is ∙ ap (λ r. Ok r) (same-some other row tells is))
      by (Fails k fails wrong) = absurd (cc (sym is ∙ fails))

  -- what is wrong with a line is told of it
  pub wrong-line : (kind : ImageKind) → IsWrong l told kind → rows_up_to_end limit 2 [] all ≡ Err (record { line = line; kind = kind })
  unfolding rows_up_to_end
  wrong-line kind (inl (k, fails, is)) = read.same ∙ by (says l)
    where
      by : Says l → rows_up_to_end limit line read.rows (l ∷ ls) ≡ Err (record { line = line; kind = kind })
      by (Ends w words end ends) = absurd (cc (sym fails ∙ ends))
      by (Tells w other words end row_is tells) = absurd (cc (sym fails ∙ tells))
      by (Fails j other wrong) =
          let same : j ≡ k = cc (sym other ∙ fails) in
          wrong line limit read.rows ls ∙ ap (λ t. Err (record { line = line; kind = InText t })) same
          ∙ ap (λ t. Err (record { line = line; kind = t })) (sym is)
  wrong-line kind (inr (row, tells, fault)) = read.same ∙ by (says l)
    where
      with-row : (w : List (List ℕ)) → words_of l ≡ Ok w → is_end w ≡ false → row_in w ≡ Ok row
          → rows_up_to_end limit line read.rows (l ∷ ls) ≡ Err (record { line = line; kind = kind })
      with-row w words end row_is =
          let bad : row_fault limit (read.rows ++ row ∷ []) ≡ Some kind =
          next-is limit small read.rows told read.tell row (typed-row w row row_is) ∙ fault in
          rw (words, end, row_is, bad) refl

      by : Says l → rows_up_to_end limit line read.rows (l ∷ ls) ≡ Err (record { line = line; kind = kind })
      by (Ends w words end ends) = absurd (cc (sym tells ∙ ends))
      by (Tells w other words end row_is others) = with-row w words end (row_is ∙ ap (λ r. Ok r) (same-some other row others tells))
      by (Fails k fails wrong) = absurd (cc (sym tells ∙ fails))

  -- behind the last line nothing stands
  pub last-line : line_in l ≡ Ok None → rows_up_to_end limit 2 [] all ≡ rows_at_end limit read.rows ls
  unfolding rows_up_to_end
  last-line ends = read.same ∙ by (says l)
    where
      at-end : (w : List (List ℕ)) → words_of l ≡ Ok w → is_end w ≡ true → rows_up_to_end limit line read.rows (l ∷ ls) ≡ rows_at_end limit read.rows ls
      at-end w words end = rw (words, end) refl

      by : Says l → rows_up_to_end limit line read.rows (l ∷ ls) ≡ rows_at_end limit read.rows ls
      by (Ends w words end is) = at-end w words end
      by (Tells w other words end row_is tells) = absurd (cc (sym ends ∙ tells))
      by (Fails k fails wrong) = absurd (cc (sym ends ∙ fails))

  -- so it is told where a line is not taken in
  pub takes-wrong : (new : Told) (fault : RowFault) → TakesLine l told new (Err fault) → TakesLines limit all new (Err (in_line line fault))
  takes-wrong new faults.Memory wrong = tt
  takes-wrong new (faults.Row kind) wrong = wrong-line (kind_of kind) wrong

  -- and where the last line is
  pub takes-last : (new : Told) (result : Result Unit OpenFault) → TakesLine l told new (Ok taken.End)
      → ((rows : List Row) → IsBehind limit rows ls result) → TakesLines limit all new result
  takes-last new (Ok done) ends behind = (
    read.rows,
    subst (IsToldBy limit read.rows) (sym ends.1) read.tell,
    last-line ends.0 ∙ ap (rows_at_end limit read.rows) (behind read.rows),
  )
  takes-last new (Err refusals.Memory) ends behind = tt
  takes-last new (Err (refusals.Image fault)) ends behind = last-line ends.0 ∙ behind read.rows

  -- and any other
  pub takes-row : (new : Told) → TakesLine l told new (Ok taken.Row) → IsReadTo limit all (line + 1) ls new
  takes-row new (row, tells, none, is) = subst (IsReadTo limit all (line + 1) ls) (sym is) (reads-on row tells none)

pub no-line : (limit line : ℕ) (all : List RawLine) (told : Told) → IsReadTo limit all line [] told
    → rows_up_to_end limit 2 [] all ≡ Err (record { line = line; kind = InText Cut })
unfolding rows_up_to_end
no-line limit line all told read = read.same

pub line-behind : (limit line : ℕ) (rows : List Row) (l : RawLine) (ls : List RawLine) → l.number ≡ line
    → rows_at_end limit rows (l ∷ ls) ≡ Err (record { line = line; kind = InText TooMany })
unfolding rows_at_end
line-behind limit line rows l ls is = ap (λ n. Err (record { line = n; kind = InText TooMany })) is

pub line-behind-all : (limit line : ℕ) (rows : List Row) (ps : List (List ℕ)) → 0 < length (raw_lines_from line ps)
    → rows_at_end limit rows (raw_lines_from line ps) ≡ Err (record { line = line; kind = InText TooMany })
unfolding raw_lines_from
line-behind-all limit line rows [] some = absurd (omega (arith, some))
line-behind-all limit line rows (l ∷ []) some = one (length l == 0) some
  where
    one : (b : Bool) → 0 < length {A = RawLine} (cond b [] (record { number = line; bytes = l; whole = false } ∷ []))
        → rows_at_end limit rows (cond b [] (record { number = line; bytes = l; whole = false } ∷ [])) ≡ Err (record { line = line; kind = InText TooMany })
    one true there = absurd (omega (arith, there))
    one false there = line-behind limit line rows (record { number = line; bytes = l; whole = false }) [] refl
line-behind-all limit line rows (l ∷ m ∷ ls) some = line-behind limit line rows (record { number = line; bytes = l; whole = true }) (raw_lines_from
    (line + 1) (m ∷ ls)) refl
