-- No line of the rows of a state that a store may begin with is at fault.
use Rattle.std.proofs.Common.{◌≡◌, ℕ, ◌+◌, true, false, nat_le, nat_lt, List, [], ◌∷◌, ◌++◌, All, map, None, slice_index_or, refl, sym, ap, subst, ◌∙◌, append_assoc, arith, tests}
use Rattle.std.specs.List.{list_all, AllByRecursion}
use Rattle.std.specs.Map.{keys_of, values_of}
use Rattle.std.specs.Ordering.{nat_cmp}
use Rattle.std.proofs.lemmas.List.{append-nil, map-append}
use Rattle.std.proofs.lemmas.List.Elements.{recursion_from_All}
use Rattle.qrules.specs.declared.kind.Kind.{Kind}
use Rattle.qrules.specs.declared.kind.Kind.TheVariants.{User, Group, Project}
use Rattle.qplain.specs.declared.bounds.TheConstants.{MAX_NUMBER}
use Rattle.qplain.specs.Principals.{has_duplicate, is_principal_name}
use Rattle.qplain.specs.Setups.{Setting, setup_fault}
use Rattle.qplain.specs.State.{Holder, Inode, NameKey, State, holder_cmp, name_key_cmp}
use Rattle.qplain_laws.specs.Beginnings.{IsStateOf}
use Rattle.qplain_laws.specs.Laws.{leads}
use Rattle.qplain_image.specs.Parts.{HolderPart, InodePart, Sections, section_rows}
use Rattle.qplain_image.specs.Rows.{Row, Bounds, made_of, rows_of}
use Rattle.qplain_image.proofs.Remaking.{HasRows, rows-stand}
use Rattle.qplain_image.proofs.Returning.{entry_of, made}
use Rattle.qtext_image.specs.Faults.{is_begun_kind, do_kinds_begin, are_begun, are_bounds_fit, do_rise, fault_in, has_few_names, has_twins, has_known_owners, holds_nothing, is_holder_fit, is_inode_fit, is_path_name, row_fault}
use Rattle.qtext_image.specs.Setups.{principals_of, setup_of}
use Rattle.qtext_image.proofs.Keys.{single-first}
use Rattle.qtext_image.proofs.Granted.{begin-first, own-begin, granted-bounds, own-granted, own-singles}
use Rattle.qtext_image.proofs.Typed.{holders-called}
use Rattle.qtext_image.proofs.Ordered.{bounds-in_order, sections-in_order}
use Rattle.qtext_image.proofs.Parted.{sections-are, sections-long, sections_of}
use Rattle.qtext_image.proofs.Prefixes.{Passes, all-pass as passed-rows, upto_inodes, upto_names, upto_records}
use Rattle.qtext_image.proofs.Tests.{all-pass, first-pass, first-rise}
use Rattle.qtext_image.proofs.Passing.{PassesTests, no-fault, granted-any, holder-fits, name-fits}
use Rattle.qtext_image.proofs.Links.{few-links, few-named, names-few, links-fewer-any}
use Rattle.qtext_image.proofs.Fits.{IsPartFit, parts-blocks-fit, parts-fit, parts-known, parts-hold, keys-of-parts, numbers-are, holders-are, parts-front, all-parts-fit, entries-are}

module _ (setting : Setting) (S : State) (is : IsStateOf setting S) where
  abbrev s : Sections
  s = sections_of S

  has : All HasRows (values_of S.inodes)
  has = rows-stand setting S is

  fit : AllByRecursion (IsPartFit S) s.inodes
  fit = all-parts-fit S S.inodes (recursion_from_All (λ (e : ℕ × Inode). nat_lt e.0 S.next ≡ true) S.inodes is.lawful.parts.inodes.fresh)
      (λ k d below. (is.sized k d below, is.lawful.parts.inodes.owners_known k d below, has k d below))

  -- the state with some of its parts
  abbrev with_parts : List Holder → List (ℕ × Inode) → List (NameKey × ℕ) → State
  with_parts hs es names = record S { holders = hs; inodes = es; names = names }

  -- rows that make such a state, and begin it, pass where it passes the tests
  row-passes : (rows : List Row) (T : State) → made_of S.file_limit rows ≡ T → are_begun rows (made_of S.file_limit rows) ≡ true
      → PassesTests rows T → row_fault S.file_limit rows ≡ None
  row-passes rows T are begun passes = ap (fault_in rows) are ∙ no-fault rows T (subst (λ U. are_begun rows U ≡ true) are begun) passes

  next-fits : nat_le S.next (MAX_NUMBER + 1) ≡ true
  next-fits = grind (arith, tests, is.lawful.next_fits)

  own-setup : setup_fault (setup_of S) ≡ None
  own-setup = own-granted setting S is

  bounds-fit : are_bounds_fit S ≡ true
  bounds-fit = granted-bounds (setup_of S) own-setup

  holders-named : list_all (λ h. is_principal_name h.name) S.holders ≡ true
  holders-named = all-pass (λ (h : Holder). is_principal_name h.name) S.holders (holders-called setting S is)

  -- no two of the first holders have the same name
  twins-first : (hs more : List Holder) → hs ++ more ≡ S.holders → has_twins (record S { holders = hs }) ≡ false
  twins-first hs more are =
      let single : (kind : Kind) → has_duplicate (principals_of kind hs) ≡ false = λ kind.
      single-first kind hs more S.holders are (own-singles setting S is kind) in
      rw (single User, single Group, single Project) refl

  -- the first of each kind begin at zero
  kinds-first : (hs more : List Holder) → hs ++ more ≡ S.holders → do_kinds_begin (record S { holders = hs }) ≡ true
  kinds-first hs more are =
      let begin : (kind : Kind) → is_begun_kind (principals_of kind hs) ≡ true = λ kind.
      begin-first kind hs more S.holders are (own-begin setting S is kind) in
      rw (begin User, begin Group, begin Project) refl

  kinds-begin : do_kinds_begin S ≡ true
  kinds-begin = kinds-first S.holders [] (append-nil S.holders)

  no-twins : has_twins S ≡ false
  no-twins = twins-first S.holders [] (append-nil S.holders)

  bounds : row_fault S.file_limit (Bounds S.size S.most_inodes S.next ∷ []) ≡ None
  bounds =
      row-passes (Bounds S.size S.most_inodes S.next ∷ []) _ refl (bounds-in_order S.file_limit S.size S.most_inodes S.next)
      (record { long = refl; ordered = refl; ranged = rw (bounds-fit, next-fits) refl; named = refl; owned = refl; led = refl })

  holders-fit : list_all is_holder_fit S.holders ≡ true
  holders-fit = all-pass is_holder_fit S.holders (λ k d below. holder-fits _ (is.ranges.holders k d below))

  holders-front : (done rest : List HolderPart) → done ++ rest ≡ s.records → map (λ t. t.holder) done ++ map (λ t. t.holder) rest ≡ S.holders
  holders-front done rest are =
      sym (map-append (λ (t : HolderPart). t.holder) done rest) ∙ ap (map (λ (t : HolderPart). t.holder)) are ∙ holders-are S S.holders

  records : (done rest : List HolderPart) → done ++ rest ≡ s.records → row_fault S.file_limit (section_rows (upto_records S.file_limit s done)) ≡ None
  records done rest are =
      let hs : List Holder = map (λ t. t.holder) done in
      let more : List Holder = map (λ t. t.holder) rest in
      let rise : do_rise holder_cmp hs ≡ true =
      first-rise holder_cmp hs more S.holders (holders-front done rest are) is.lawful.parts.holders in
      let fits : list_all is_holder_fit hs ≡ true = first-pass is_holder_fit hs more S.holders (holders-front done rest are) holders-fit in
      row-passes (section_rows (upto_records S.file_limit s done)) (with_parts hs [] []) (made S.file_limit (upto_records S.file_limit s done))
      (sections-in_order S.file_limit (upto_records S.file_limit s done) tt)
      (record {
        long = sections-long (upto_records S.file_limit s done) tt;
        ordered = rw (rise, kinds-first hs more (holders-front done rest are)) refl;
        ranged = rw (bounds-fit, next-fits, is.ranges.graces, fits) refl;
        named = rw (
          first-pass (λ (h : Holder). is_principal_name h.name) hs more S.holders (holders-front done rest are) holders-named,
          twins-first hs more (holders-front done rest are),
        ) refl;
        owned = refl;
        led = refl;
      })

  holders-rise : do_rise holder_cmp S.holders ≡ true
  holders-rise = first-rise holder_cmp S.holders [] S.holders (append-nil S.holders) is.lawful.parts.holders

  -- the numbers of the first inodes
  numbers-front : (done rest : List InodePart) (p : InodePart) (blocks : List (ℕ × List ℕ)) → done ++ p ∷ rest ≡ s.inodes
      → keys_of (map entry_of (done ++ record p { blocks = blocks } ∷ [])) ++ map (λ q. q.number) rest ≡ keys_of S.inodes
  numbers-front done rest p blocks are =
      let number : InodePart → ℕ = λ q. q.number in
      let cut : InodePart = record p { blocks = blocks } in
      ap (λ l. l ++ map number rest) (keys-of-parts (done ++ cut ∷ []) ∙ map-append number done (cut ∷ []))
      ∙ append_assoc (map number done) (p.number ∷ []) (map number rest)
      ∙ sym (map-append number done (p ∷ rest)) ∙ ap (map number) are ∙ numbers-are S.inodes

  inodes : (done rest : List InodePart) (p : InodePart) (blocks more : List (ℕ × List ℕ)) → done ++ p ∷ rest ≡ s.inodes → blocks ++ more ≡ p.blocks
      → row_fault S.file_limit (section_rows (upto_inodes S.file_limit s (done ++ record p { blocks = blocks } ∷ []))) ≡ None
  inodes done rest p blocks more are cut =
      let parts : List InodePart = done ++ record p { blocks = blocks } ∷ [] in
      let sections : Sections = upto_inodes S.file_limit s parts in
      let fits : AllByRecursion (IsPartFit S) parts =
      parts-front S done rest p blocks more cut (subst (AllByRecursion (IsPartFit S)) (sym are) fit) in
      let rise : do_rise nat_cmp (keys_of (map entry_of parts)) ≡ true =
      first-rise nat_cmp (keys_of (map entry_of parts)) (map (λ q. q.number) rest) (keys_of S.inodes) (numbers-front done rest p blocks are)
      is.lawful.parts.inodes.in_order in
      row-passes (section_rows sections) (with_parts S.holders (map entry_of parts) [])
      (made S.file_limit sections ∙ ap (λ hs. with_parts hs (map entry_of parts) []) (holders-are S S.holders))
      (sections-in_order S.file_limit sections (parts-blocks-fit S parts fits))
      (record {
        long = sections-long sections (parts-blocks-fit S parts fits);
        ordered = rw (holders-rise, rise, parts-hold parts, granted-any (map entry_of parts) (setup_of S) own-setup, kinds-begin) refl;
        ranged = rw (bounds-fit, next-fits, is.ranges.graces, holders-fit, parts-fit S parts fits) refl;
        named = rw (holders-named, no-twins) refl;
        owned = parts-known S parts fits;
        led = rw (
          few-links (with_parts S.holders (map entry_of parts) []) (map entry_of parts),
          few-named (with_parts S.holders (map entry_of parts) []) (map entry_of parts),
        ) refl;
      })

  inodes-are : map entry_of s.inodes ≡ S.inodes
  inodes-are = entries-are S.inodes has

  names : (done rest : List (NameKey × ℕ)) → done ++ rest ≡ s.names → row_fault S.file_limit (section_rows (upto_names S.file_limit s done)) ≡ None
  names done rest are =
      let sections : Sections = upto_names S.file_limit s done in
      let keys : keys_of done ++ keys_of rest ≡ keys_of S.names = sym (map-append (λ (e : NameKey × ℕ). e.0) done rest) ∙ ap keys_of are in
      let rise : do_rise name_key_cmp (keys_of done) ≡ true =
      first-rise name_key_cmp (keys_of done) (keys_of rest) (keys_of S.names) keys is.lawful.parts.names.in_order in
      let numbers : do_rise nat_cmp (keys_of S.inodes) ≡ true =
      first-rise nat_cmp (keys_of S.inodes) [] (keys_of S.inodes) (append-nil (keys_of S.inodes)) is.lawful.parts.inodes.in_order in
      let hold : list_all holds_nothing (values_of S.inodes) ≡ true =
      subst (λ (es : List (ℕ × Inode)). list_all holds_nothing (values_of es) ≡ true) inodes-are (parts-hold s.inodes) in
      let in_range : list_all (is_inode_fit S) S.inodes ≡ true =
      subst (λ (es : List (ℕ × Inode)). list_all (is_inode_fit S) es ≡ true) inodes-are (parts-fit S s.inodes fit) in
      let known : list_all (has_known_owners S) (values_of S.inodes) ≡ true =
      subst (λ (es : List (ℕ × Inode)). list_all (has_known_owners S) (values_of es) ≡ true) inodes-are (parts-known S s.inodes fit) in
      let few : list_all (has_few_names (record S { names = done })) S.inodes ≡ true =
      all-pass (has_few_names (record S { names = done })) S.inodes
      (λ k d below. names-few S done rest are (slice_index_or S.inodes k d) (is.lawful.parts.names.counted k d below)) in
      let lead : list_all (leads S) done ≡ true = first-pass (leads S) done rest S.names are (all-pass (leads S) S.names is.lawful.parts.names.lead) in
      let paths : list_all (λ e. is_path_name e.0.1) done ≡ true =
      first-pass (λ (e : NameKey × ℕ). is_path_name e.0.1) done rest S.names are
      (all-pass (λ (e : NameKey × ℕ). is_path_name e.0.1) S.names (λ k d below. name-fits _ (is.named k d below))) in
      row-passes (section_rows sections) (with_parts S.holders S.inodes done)
      (made S.file_limit sections ∙ ap (λ hs. with_parts hs (map entry_of s.inodes) done) (holders-are S S.holders)
      ∙ ap (λ es. with_parts S.holders es done) inodes-are)
      (sections-in_order S.file_limit sections (parts-blocks-fit S s.inodes fit))
      (record {
        long = sections-long sections (parts-blocks-fit S s.inodes fit);
        ordered = rw (holders-rise, numbers, rise, hold, granted-any S.inodes (setup_of S) own-setup, kinds-begin) refl;
        ranged = rw (bounds-fit, next-fits, is.ranges.graces, holders-fit, in_range) refl;
        named = rw (holders-named, no-twins, paths) refl;
        owned = known;
        led = rw (lead, links-fewer-any S done rest are S.inodes is.lawful.parts.links, few) refl;
      })

  pub no-line-fails : Passes S.file_limit [] (rows_of S)
  no-line-fails =
      subst (Passes S.file_limit []) (sections-are S)
      (passed-rows S.file_limit s (record { bounds = bounds; records = records; inodes = inodes; names = names }))
