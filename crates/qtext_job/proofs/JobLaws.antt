-- What `clap`'s matches say of a job, read off their rows.
use Rattle.std.proofs.Common.{◌≡◌, ◌⊎◌, ◌<◌, ◌≤◌, ◌==◌, ◌^◌, ℕ, Bool, true, false, List, [], ◌∷◌, Option, Some, None, Result, Ok, Err, map, codes, length, refl, sym, ap, get_or, ◌∙◌, inl, inr, arith, tests}
use Rattle.std.specs.Prelude.{IfOk, IfErr, IsErrAnd, find, option_map, option_and_then, slice_get}
use Rattle.std.specs.Borrow.{Bor}
use Rattle.std.specs.Str.{bytes_eq}
use Rattle.std.specs.Str.Parse.{ExplainsUnsignedError, HasUnsignedDigitsIfOk, ParsesUnsigned, digits_value, without_leading_plus}
use Rattle.std.specs.declared.num.ParseIntError.{ParseIntError}
use Rattle.clap.specs.Facts.{Entry}
use Rattle.clap.specs.Matches.{ReadsOne, first_value, matched_of, one_text, raw_values}
use Rattle.clap.specs.Values.{read_as}
use Rattle.clap.specs.Walk.{row_of, row_text, texts}
use Rattle.clap.specs.declared.builder.value_parser.Reading.{Reading}
use Rattle.clap.specs.declared.parser.matches.Found.{Found}
use Rattle.clap.specs.declared.error.kind.ErrorKind.{ErrorKind}
use Rattle.clap.specs.declared.error.kind.ErrorKind.TheVariants.{OutOfMemory}
use Rattle.clap.specs.Words.{IsAmong, Kinds, Row, Text, fault_of, subcommand_of, all_of, first_of, one_of, rows_of}
use Rattle.qtext_job.specs.declared.job.Job.{Job}
use Rattle.qtext_job.specs.declared.job.Job.TheVariants.{Run, Serve, Replay, Expand, Check}
use Rattle.qtext_job.specs.declared.line_fault.LineFault.{LineFault}
use Rattle.qtext_job.specs.declared.line_fault.LineFault.TheVariants.{Line, Memory}
use Rattle.qtext_job.specs.declared.share_options.ShareOptions.{ShareOptions}
use Rattle.qtext.specs.declared.telling.Telling.{Telling}
use Rattle.qtext_job.specs.Jobs.{AreBoardsIn, AreScriptsIn, FailsUnless, IsAskedBy, IsBatchIn, IsJobOf, IsNamedBy, IsRefusalOf, IsToldBy}
use Rattle.qtext_job.specs.Numbers.{IsNumberAt, Spells}
use Rattle.qtext_job.specs.Shares.{AreSharesIn}
use Rattle.qtext_job.specs.Tellings.{IsMomentIn, IsTellingIn}
use Rattle.qtext_job.specs.Commands.{quotafs}

-- ---- the row of an id is that of its entry

row_at : (id : Text) (es : List Entry) → find (λ r. bytes_eq r.id id) (map row_of es) ≡ option_map row_of (find (λ e. bytes_eq e.0.now id) es)
row_at id [] = refl
row_at id (e ∷ es) = go (bytes_eq e.0.now id) refl (row_at id es)
  where
    go : (b : Bool) → bytes_eq e.0.now id ≡ b
        → find (λ r. bytes_eq r.id id) (map row_of es)
        ≡ option_map row_of (find (λ x. bytes_eq x.0.now id) es)
        → find (λ r. bytes_eq r.id id) (map row_of (e ∷ es))
        ≡ option_map row_of (find (λ x. bytes_eq x.0.now id) (e ∷ es))
    go true is rest = rw is refl
    go false is rest = rw is rest

first_text : (vs : List (Bor (List ℕ))) → option_map (λ s. s.now) (slice_get vs 0) ≡ slice_get (texts vs) 0
first_text [] = refl
first_text (v ∷ vs) = refl

first_read : (how : Reading) (vs : List (Bor (List ℕ)))
    → option_map (λ s. read_as how s.now) (slice_get vs 0) ≡ option_map (read_as how) (slice_get (texts vs) 0)
first_read how [] = refl
first_read how (v ∷ vs) = refl

pub first_in_rows : (f : Found) (id : Text) → first_value f id ≡ first_of id (rows_of f)
first_in_rows f id = rw (row_at id f.entries.items) (go (find (λ e. bytes_eq e.0.now id) f.entries.items))
  where
    go : (o : Option Entry) → option_and_then (λ a. option_map (λ s. s.now) (slice_get a.vals.items 0))
        (option_map (λ e. e.1) o) ≡ option_and_then (λ r. slice_get r.values 0) (option_map row_of o)
    go None = refl
    go (Some e) = first_text e.1.vals.items

pub one_in_rows : (f : Found) (id : Text) → one_text f id ≡ one_of id (rows_of f)
one_in_rows f id = rw (row_at id f.entries.items) (go (find (λ e. bytes_eq e.0.now id) f.entries.items))
  where
    go : (o : Option Entry) → option_and_then
        (λ a. option_map (λ s. read_as a.reading s.now) (slice_get a.vals.items 0)) (option_map (λ e. e.1) o)
        ≡ option_and_then row_text (option_map row_of o)
    go None = refl
    go (Some e) = first_read e.1.reading e.1.vals.items

pub all_in_rows : (f : Found) (id : Text) → option_map raw_values (matched_of f id) ≡ all_of id (rows_of f)
all_in_rows f id = rw (row_at id f.entries.items) (go (find (λ e. bytes_eq e.0.now id) f.entries.items))
  where
    go : (o : Option Entry) → option_map raw_values (option_map (λ e. e.1) o) ≡ option_map (λ r. r.values) (option_map row_of o)
    go None = refl
    go (Some e) = refl

-- ---- why there is no job

pub unless_weaker : (P Q : Type 0) (fault : LineFault) → (Q → P) → FailsUnless P fault → FailsUnless Q fault
unless_weaker P Q Memory weaker h = tt
unless_weaker P Q (Line help text) weaker h = (h.0, λ q. h.1 (weaker q))

-- ---- the job of the subcommand that was met

pub job_at : (rows : Option (Text × List Row)) (name : Text) (own : List Row) (r : Result Job LineFault)
    → option_map (λ p. p.0) rows ≡ Some name → option_map (λ p. p.1) rows ≡ Some own
    → IfOk r (IsNamedBy name own) → IfOk r (IsJobOf rows)
job_at None name own r n e h = absurd cc
job_at (Some p) name own (Ok job) n e h =
    let same : p.0 ≡ name = cc in
    let entries : p.1 ≡ own = cc in
    rw (same, entries) h
job_at (Some p) name own (Err d) n e h = h

pub no_job_at : (rows : Option (Text × List Row)) (name : Text) (own : List Row) (r : Result Job LineFault)
    → option_map (λ p. p.0) rows ≡ Some name → option_map (λ p. p.1) rows ≡ Some own
    → IfErr r (FailsUnless ((job : Job) × IsNamedBy name own job))
    → IfErr r (FailsUnless ((job : Job) × IsJobOf rows job))
no_job_at None name own r n e h = absurd cc
no_job_at (Some p) name own (Err d) n e h =
    let same : p.0 ≡ name = cc in
    let entries : p.1 ≡ own = cc in
    rw (same, entries) h
no_job_at (Some p) name own (Ok job) n e h = h

pub map_first : {X A B : Type 0} (f : X → A) (g : X → B) (o : Option X) → option_map {T = A × B} (λ p. p.0) (option_map (λ b. (f b, g b)) o) ≡ option_map f o
map_first f g None = refl
map_first f g (Some x) = refl

abbrev pub some_text : Text → Option Text
some_text t = Some t

-- ---- why the matches name none

-- where nothing stands there
pub unless_there : {X : Type 0} (o : Option X) (fault : LineFault) → o ≡ None → FailsUnless ⊥ fault → FailsUnless ((x : X) × (o ≡ Some x)) fault
unless_there {X} o fault none h = unless_weaker ⊥ ((x : X) × (o ≡ Some x)) fault (λ found. let some : o ≡ Some found.0 = found.1 in absurd cc) h

-- the names that were copied are some where they were some
pub some_names : (copied : List Text) (names : List (Bor Text)) → copied ≡ map (λ s. s.now) names → (length names == 0) ≡ false → 0 < length copied
some_names copied [] same some = absurd cc
some_names copied (name ∷ names) same some = rw same (omega arith)

-- and no names are no texts
pub no_names : (copied : List Text) (names : List (Bor Text)) → map (λ s. s.now) names ≡ copied → (length names == 0) ≡ true → length copied ≡ 0
no_names copied [] same none = rw (← same) refl
no_names copied (name ∷ names) same none =
    let zero : length (name ∷ names) ≡ 0 = grind (arith, tests) in
    absurd (omega arith)

-- where no script stands there
pub no_scripts : (rows : List Row) (fault : LineFault)
    → ((ts : List Text) → all_of (codes "scripts") rows ≡ Some ts → length ts ≡ 0) → FailsUnless ⊥ fault
    → FailsUnless ((ts : List Text) × AreScriptsIn rows ts) fault
no_scripts rows fault empty h =
    unless_weaker ⊥ ((ts : List Text) × AreScriptsIn rows ts) fault (λ found. let none : length found.0
    ≡ 0 = empty found.0 found.1.0 in let some : 0 < length found.0 = found.1.1 in omega arith) h

-- how a `u64` is read from a text
abbrev pub ReadsNumber : Text → Result ℕ ParseIntError → Type 0
ReadsNumber t r = ParsesUnsigned 64 10 t r × ExplainsUnsignedError 10 t r × HasUnsignedDigitsIfOk t r

-- the number that was read
pub number_read : (f : Found) (id : Text) (least most : ℕ) (r : Option ℕ) (n : ℕ) → (one_text f id ≡ None → r ≡ None)
    → ((t : Text) → one_text f id ≡ Some t → ReadsOne ReadsNumber t r) → r ≡ Some n → least ≤ n → n ≤ most
    → IsNumberAt id least most (rows_of f) n
number_read f id least most r n none value got enough small = go (one_text f id) refl
  where
    go : (o : Option Text) → one_text f id ≡ o → IsNumberAt id least most (rows_of f) n
    go None is =
        let no : r ≡ None = none is in
        absurd cc
    go (Some t) is =
        let read : ReadsNumber t (Ok n) = rw got at (value t is) in
        (t, sym (one_in_rows f id) ∙ is, (read.0.0.0, read.0.1), enough, small)

-- no number was read, or one that is out of its bounds
pub no_number : (f : Found) (id : Text) (least most : ℕ) (r : Option ℕ)
    → ((t : Text) → one_text f id ≡ Some t → ReadsOne ReadsNumber t r) → most < 2 ^ 64
    → ((n : ℕ) → r ≡ Some n → least ≤ n → n ≤ most → ⊥)
    → (n : ℕ) → IsNumberAt id least most (rows_of f) n → ⊥
no_number f id least most r value range out n m =
    go m.0 r refl (value m.0 (one_in_rows f id ∙ m.1)) m.2 m.3 m.4
  where
    go : (t : Text) (o : Option ℕ) → r ≡ o → ReadsOne ReadsNumber t o → Spells t n → least ≤ n → n ≤ most → ⊥
    go t (Some k) is read spelled enough small =
        let same : k ≡ n = read.0.1 ∙ sym spelled.1 in
        out k is (rw same enough) (rw same small)
    go t None is read spelled enough small =
        let value_small : digits_value 10 (without_leading_plus t) < 2 ^ 64 = rw (← spelled.1) (omega arith) in
        read.1.0 (spelled.0, value_small)

-- ---- what is told of the words

-- an error of this kind, told so
pub told_among : (kinds : Kinds) (kind : ErrorKind) (fault : LineFault)
    → (kind ≡ OutOfMemory → fault ≡ Memory) → IsToldBy (kind ∷ []) fault
    → (kind ≡ OutOfMemory) ⊎ IsAmong kind kinds → IsToldBy kinds fault
told_among kinds kind Memory memory told has = tt
told_among kinds kind (Line help text) memory told (inl out) =
    let no : Line help text ≡ Memory = memory out in
    absurd cc
told_among kinds kind (Line help text) memory (k, inl same, told) (inr among) = (kind, among, rw (← same) told)
told_among kinds kind (Line help text) memory (k, inr none, told) (inr among) = absurd none

-- ---- a fault that is passed on

pub passed_on : {T : Type 0} (r : Result T LineFault) (P Q : Type 0) (fault : LineFault)
    → IsErrAnd r (λ e. e ≡ fault) → FailsUnless P fault → (Q → P) → IfErr r (FailsUnless Q)
passed_on (Ok x) P Q fault is h weaker = tt
passed_on (Err e) P Q fault is h weaker = rw is (unless_weaker P Q fault weaker h)

-- a run has how it is told, and its numbers
pub its_numbers : (rows : List Row) (job : Job) → IsNamedBy (codes "run") rows job
    → ((telling : Telling) × IsTellingIn rows telling) × ((boards : ℕ) × AreBoardsIn rows boards) × ((batch : ℕ) × IsBatchIn rows batch)
its_numbers rows (Run run) h = ((run.telling, h.2), (run.boards, h.5), (run.batch, h.6))
its_numbers rows (Serve serve) h =
    let same : codes "run" ≡ codes "serve" = h.0 in
    absurd cc
its_numbers rows (Replay replay) h =
    let same : codes "run" ≡ codes "replay" = h.0 in
    absurd cc
its_numbers rows (Expand expand) h =
    let same : codes "run" ≡ codes "expand" = h.0 in
    absurd cc
its_numbers rows (Check check) h =
    let same : codes "run" ≡ codes "check" = h.0 in
    absurd cc

-- a replay has how it is told
pub its_telling : (rows : List Row) (job : Job) → IsNamedBy (codes "replay") rows job → (telling : Telling) × IsTellingIn rows telling
its_telling rows (Run run) h =
    let same : codes "replay" ≡ codes "run" = h.0 in
    absurd cc
its_telling rows (Serve serve) h =
    let same : codes "replay" ≡ codes "serve" = h.0 in
    absurd cc
its_telling rows (Replay replay) h = (replay.telling, h.2)
its_telling rows (Expand expand) h =
    let first : 114 ≡ 101 = ap (λ name. get_or name 0 0) h.0 in
    absurd (omega (arith, first))
its_telling rows (Check check) h =
    let same : codes "replay" ≡ codes "check" = h.0 in
    absurd cc

-- a job that serves has its moment, and what a bound client may take
pub its_service : (rows : List Row) (job : Job) → IsNamedBy (codes "serve") rows job
    → ((at : ℕ) × IsMomentIn rows at) × ((shares : ShareOptions) × AreSharesIn rows shares)
its_service rows (Run run) h =
    let same : codes "serve" ≡ codes "run" = h.0 in
    absurd cc
its_service rows (Serve serve) h = ((serve.at, h.2), (serve.shares, h.8))
its_service rows (Replay replay) h =
    let same : codes "serve" ≡ codes "replay" = h.0 in
    absurd cc
its_service rows (Expand expand) h =
    let same : codes "serve" ≡ codes "expand" = h.0 in
    absurd cc
its_service rows (Check check) h =
    let first : 115 ≡ 99 = ap (λ name. get_or name 0 0) h.0 in
    absurd (omega (arith, first))

-- ---- the words

-- `clap` took the words, and its matches name the job
pub asked : (words : List Text) (rows : Option (Text × List Row)) (r : Result Job LineFault)
    → fault_of quotafs words ≡ [] → rows ≡ subcommand_of quotafs words → IfOk r (IsJobOf rows)
    → IfOk r (IsAskedBy words)
asked words rows (Ok job) free same h = (free, rw (← same) h)
asked words rows (Err e) free same h = tt

-- or they name none
pub not_asked : (words : List Text) (rows : Option (Text × List Row)) (r : Result Job LineFault)
    → fault_of quotafs words ≡ [] → rows ≡ subcommand_of quotafs words
    → IfErr r (FailsUnless ((job : Job) × IsJobOf rows job)) → IfErr r (IsRefusalOf words)
not_asked words rows (Ok job) free same h = tt
not_asked words rows (Err e) free same h = inr (free, rw (← same) h)
