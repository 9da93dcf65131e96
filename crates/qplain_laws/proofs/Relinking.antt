-- Links after a name in place of another, for the proofs of stores that keep link counts.
use Rattle.std.proofs.Common.{◌≡◌, ℕ, ◌+◌, ◌==◌, Bool, true, false, not, ◌&&◌, cond, List, All, count_by, slice_index_or, Option, Some, None, refl, sym, ap, ◌∙◌, tests, arith}
use Rattle.std.specs.BTreeMap.{is_at}
use Rattle.std.proofs.lemmas.Bool.{and_left, and_right}
use Rattle.qplain.specs.State.{Inode, NameKey, State, inode_at, is_dir, is_directory, name_key_cmp, named}
use Rattle.qplain.specs.Use.{is_empty, links_of}
use Rattle.qplain.specs.Names.{swept, with_name, without_name}
use Rattle.qplain.specs.Renames.{passes, renamed}
use Rattle.qplain_laws.specs.Laws.{FitsTogether}
use Rattle.qplain_laws.proofs.Tables.{count_by-agree, sum_by-insert_new}
use Rattle.qplain_laws.proofs.Filtering.{sum-remove-entry}
use Rattle.qplain_laws.proofs.Sweeping.{key-dir, named-led, stays-swept}
use Rattle.qplain_laws.proofs.Renaming.{named-U, named-V, names_to-renamed, remove-none}

-- how many names in a directory lead to directories, told of any names
abbrev subdirectories : State → ℕ → List (NameKey × ℕ) → ℕ
subdirectories S q names = count_by (λ e. e.0.0 == q && is_directory S e.1) names

-- a name less in the directory is one less, where it led to a directory
less-one : (S T : State) (dir : ℕ) (name : List ℕ) (q n : ℕ) → named T dir name ≡ Some n
    → subdirectories S q (without_name T dir name).names + cond (dir == q && is_directory S n) 1 0 ≡ subdirectories S q T.names
less-one S T dir name q n led =
    let less = sum-remove-entry (λ (e : NameKey × ℕ). cond (e.0.0 == q && is_directory S e.1) 1 0) (is_at (name_key_cmp (dir, name))) T.names n led in
    let key : dir ≡ less.0.0 = key-dir dir name less.0 less.1 in
    let term : ◌≡◌ {A = ℕ} (cond (less.0.0 == q && is_directory S n) 1 0) (cond (dir == q && is_directory S n) 1 0) =
    ap (λ (d : ℕ). cond (d == q && is_directory S n) 1 0) (sym key) in
    let sum = less.2 in
    omega (arith, sum, term)

module _ (S : State) (dir : ℕ) (name : List ℕ) (number : ℕ) (inode : Inode) (to_dir : ℕ) (to_name : List ℕ) (fits : FitsTogether S)
    (led : named S dir name ≡ Some number) (there : inode_at S number ≡ Some inode) (stands : is_directory S to_dir ≡ true)
    (other : passes (λ n. n == number) (named S to_dir to_name) ≡ false) (empty : passes (λ n. not (is_empty S n)) (named S to_dir to_name) ≡ false) where
  -- without the first name, without either, with the second, and swept
  abbrev U : State
  U = without_name S dir name

  abbrev V : State
  V = without_name U to_dir to_name

  abbrev W : State
  W = with_name V to_dir to_name number

  abbrev M1 : State
  M1 = swept W

  -- what a name leads to then is as much a directory
  directory-kept : All (λ e. is_directory M1 e.1 ≡ is_directory S e.1) W.names
  directory-kept k d below =
      let e : NameKey × ℕ = slice_index_or W.names k d in
      ap is_dir (stays-swept S W.names e.1 (named-led S W.names k d below))

  -- the directory of the second name has one less without it, where it led to a directory
  less-target : (q : ℕ) (o : Option ℕ) → named U to_dir to_name ≡ o
      → subdirectories S q V.names + cond (to_dir == q && passes (λ n. is_directory S n) o) 1 0 ≡ subdirectories S q U.names
  less-target q None none =
      let same : subdirectories S q V.names ≡ subdirectories S q U.names =
      ap (subdirectories S q) (remove-none (is_at (name_key_cmp (to_dir, to_name))) U.names none) in
      let nothing : ◌≡◌ {A = ℕ} (cond (to_dir == q && false) 1 0) 0 = ap (λ b. cond b 1 0) (never (to_dir == q)) in
      omega (arith, same, nothing)
    where
      never : (b : Bool) → (b && false) ≡ false
      never true = refl
      never false = refl
  less-target q (Some t) found = less-one S U to_dir to_name q t found

  -- a directory loses a link where a name in it led to a directory, by either name, and has one more where a directory
  -- now has the second name in it
  pub links_of-renamed-directory : (q : ℕ)
      → links_of (renamed S dir name to_dir to_name number) q true + cond (dir == q && is_directory S number) 1 0
      + cond (to_dir == q && passes (λ n. is_directory S n) (named S to_dir to_name)) 1 0
      ≡ links_of S q true + cond (to_dir == q && is_directory S number) 1 0
  links_of-renamed-directory q =
      let first = less-one S S dir name q number led in
      let second = less-target q (named S to_dir to_name) (named-U S dir name number inode to_dir to_name fits led there stands other empty) in
      let more : subdirectories S q W.names ≡ subdirectories S q V.names + cond (to_dir == q && is_directory S number) 1 0 =
      sum_by-insert_new (λ (e : NameKey × ℕ). cond (e.0.0 == q && is_directory S e.1) 1 0) name_key_cmp V.names (to_dir, to_name) number
      (named-V S dir name number inode to_dir to_name fits led there stands other empty) in
      let same : count_by (λ e. e.0.0 == q && is_directory M1 e.1) W.names ≡ subdirectories S q W.names =
      count_by-agree (λ e. e.0.0 == q && is_directory M1 e.1) (λ e. e.0.0 == q && is_directory S e.1) W.names
      (λ k d below. ap (λ b. (slice_index_or W.names k d).0.0 == q && b) (directory-kept k d below)) in
      omega (arith, first, second, more, same)

  -- a file has one link less where the second name led to it
  pub links_of-renamed-file : (q : ℕ)
      → links_of (renamed S dir name to_dir to_name number) q false + cond (passes (λ n. n == q) (named S to_dir to_name)) 1 0 ≡ links_of S q false
  links_of-renamed-file q = names_to-renamed S dir name number inode to_dir to_name fits led there stands other empty q

  -- a term that does not count
  no-term : (b : Bool) → b ≡ false → ◌≡◌ {A = ℕ} (cond b 1 0) 0
  no-term b h = ap (λ c. cond c 1 0) h

  one-term : (b : Bool) → b ≡ true → ◌≡◌ {A = ℕ} (cond b 1 0) 1
  one-term b h = ap (λ c. cond c 1 0) h

  -- other files have as many as before
  pub links_of-renamed-files : (q : ℕ) → passes (λ n. n == q) (named S to_dir to_name) ≡ false
      → links_of (renamed S dir name to_dir to_name number) q false ≡ links_of S q false
  links_of-renamed-files q apart =
      let sum = links_of-renamed-file q in
      let none = no-term (passes (λ n. n == q) (named S to_dir to_name)) apart in
      omega (arith, sum, none)

  -- what is in neither directory has as many as before
  pub links_of-renamed-elsewhere : (q : ℕ) → (dir == q) ≡ false → (to_dir == q) ≡ false
      → links_of (renamed S dir name to_dir to_name number) q true ≡ links_of S q true
  links_of-renamed-elsewhere q apart apart_too =
      let sum = links_of-renamed-directory q in
      let a = no-term (dir == q && is_directory S number) (and_left (dir == q) (is_directory S number) apart) in
      let b = no-term (to_dir == q && passes (λ n. is_directory S n) (named S to_dir to_name))
      (and_left (to_dir == q) (passes (λ n. is_directory S n) (named S to_dir to_name)) apart_too) in
      let c = no-term (to_dir == q && is_directory S number) (and_left (to_dir == q) (is_directory S number) apart_too) in
      omega (arith, sum, a, b, c)

  -- where a file moves, onto a file or nothing, all directories do
  pub links_of-moved-file : (q : ℕ) → inode.dir ≡ false → passes (λ n. is_directory S n) (named S to_dir to_name) ≡ false
      → links_of (renamed S dir name to_dir to_name number) q true ≡ links_of S q true
  links_of-moved-file q is_file no_target =
      let file : is_directory S number ≡ false = ap is_dir there ∙ is_file in
      let sum = links_of-renamed-directory q in
      let a = no-term (dir == q && is_directory S number) (and_right (dir == q) (is_directory S number) file) in
      let b = no-term (to_dir == q && passes (λ n. is_directory S n) (named S to_dir to_name))
      (and_right (to_dir == q) (passes (λ n. is_directory S n) (named S to_dir to_name)) no_target) in
      let c = no-term (to_dir == q && is_directory S number) (and_right (to_dir == q) (is_directory S number) file) in
      omega (arith, sum, a, b, c)

  -- where a directory moves, the parent that it leaves has one link less
  pub links_of-moved-from : inode.dir ≡ true → (to_dir == dir) ≡ false
      → links_of (renamed S dir name to_dir to_name number) dir true + 1 ≡ links_of S dir true
  links_of-moved-from directory apart =
      let sum = links_of-renamed-directory dir in
      let itself : (dir == dir) ≡ true = grind (arith, tests) in
      let is : is_directory S number ≡ true = ap is_dir there ∙ directory in
      let a = one-term (dir == dir && is_directory S number) (λ i. itself i && is i) in
      let b = no-term (to_dir == dir && passes (λ n. is_directory S n) (named S to_dir to_name))
      (and_left (to_dir == dir) (passes (λ n. is_directory S n) (named S to_dir to_name)) apart) in
      let c = no-term (to_dir == dir && is_directory S number) (and_left (to_dir == dir) (is_directory S number) apart) in
      omega (arith, sum, a, b, c)

  -- the parent that it comes to has one more, or as many where it replaces a directory
  pub links_of-moved-to : inode.dir ≡ true → (dir == to_dir) ≡ false
      → links_of (renamed S dir name to_dir to_name number) to_dir true + cond (passes (λ n. is_directory S n) (named S to_dir to_name)) 1 0
      ≡ links_of S to_dir true + 1
  links_of-moved-to directory apart =
      let sum = links_of-renamed-directory to_dir in
      let itself : (to_dir == to_dir) ≡ true = grind (arith, tests) in
      let is : is_directory S number ≡ true = ap is_dir there ∙ directory in
      let a = no-term (dir == to_dir && is_directory S number) (and_left (dir == to_dir) (is_directory S number) apart) in
      let b : ◌≡◌ {A = ℕ} (cond (to_dir == to_dir && passes (λ n. is_directory S n) (named S to_dir to_name)) 1 0)
      (cond (passes (λ n. is_directory S n) (named S to_dir to_name)) 1 0) =
      (λ i. cond (itself i && passes (λ n. is_directory S n) (named S to_dir to_name)) 1 0) in
      let c = one-term (to_dir == to_dir && is_directory S number) (λ i. itself i && is i) in
      omega (arith, sum, a, b, c)

  -- within one directory that has as many, or one less where a directory is replaced
  pub links_of-moved-within : inode.dir ≡ true → dir ≡ to_dir
      → links_of (renamed S dir name to_dir to_name number) to_dir true + cond (passes (λ n. is_directory S n) (named S to_dir to_name)) 1 0
      ≡ links_of S to_dir true
  links_of-moved-within directory same =
      let sum = links_of-renamed-directory to_dir in
      let itself : (to_dir == to_dir) ≡ true = grind (arith, tests) in
      let here : (dir == to_dir) ≡ true = ap (λ d. d == to_dir) same ∙ itself in
      let is : is_directory S number ≡ true = ap is_dir there ∙ directory in
      let a = one-term (dir == to_dir && is_directory S number) (λ i. here i && is i) in
      let b : ◌≡◌ {A = ℕ} (cond (to_dir == to_dir && passes (λ n. is_directory S n) (named S to_dir to_name)) 1 0)
      (cond (passes (λ n. is_directory S n) (named S to_dir to_name)) 1 0) =
      (λ i. cond (itself i && passes (λ n. is_directory S n) (named S to_dir to_name)) 1 0) in
      let c = one-term (to_dir == to_dir && is_directory S number) (λ i. itself i && is i) in
      omega (arith, sum, a, b, c)
