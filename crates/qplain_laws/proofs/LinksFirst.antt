-- A mkdir meets EMLINK before want of space or of quota.
use Rattle.std.proofs.Common.{◌≡◌, ℕ, ◌+◌, ◌<◌, true, false, nat_lt, List, Option, Some, None, is_some, Result, Ok, refl, sym, ap, subst, ◌∙◌, All, tests, arith}
use Rattle.qplain.specs.declared.bounds.TheConstants.{MAX_LINKS}
use Rattle.qplain.specs.declared.call.Call.TheVariants.{Mkdir}
use Rattle.qplain.specs.declared.refusal.Refusal.{Refusal}
use Rattle.qplain.specs.declared.refusal.Refusal.TheVariants.{EEXIST, EMLINK}
use Rattle.qplain.specs.declared.reply.Reply.TheVariants.{Refused}
use Rattle.qplain.specs.Caller.{Caller}
use Rattle.qplain.specs.State.{Inode, State, inode_at, is_dir, is_directory, named, new_directory}
use Rattle.qplain.specs.Use.{has_too_many_links, links_of}
use Rattle.qplain.specs.Walk.{components, parent}
use Rattle.qplain.specs.Calls.{attempt, attempt_of, refusal_of_arguments}
use Rattle.qplain.specs.Attempt.{Attempt, Refuse, Answer, Becomes}
use Rattle.qplain.specs.Names.{created, mkdir_as, owners_by, unless_too_many_links}
use Rattle.qplain.specs.Step.{settle}
use Rattle.qplain_laws.specs.Laws.{FitsTogether, IsLawful, is_for_limits}
use Rattle.qplain_laws.specs.Order.{LinksComeFirst}
use Rattle.qplain_laws.proofs.Answering.{MayBecome, TellsNone, attempt-none, is_refused}
use Rattle.qplain_laws.proofs.FewLinks.{few-links}
use Rattle.qplain_laws.proofs.Filtering.{All-lookup}
use Rattle.qplain_laws.proofs.Fitting.{some-is_dir}
use Rattle.qplain_laws.proofs.Linking.{inode_at-created-there, links_of-created-parent}
use Rattle.qplain_laws.proofs.Tables.{absent-fresh}
use Rattle.qplain_laws.proofs.Trying.{OnBecomes, choice, in_parent-becomes, none-from_not_some, unless-becomes}

module _ (S : State) (fits : FitsTogether S) (inode : Inode) (dir : ℕ) (name : List ℕ) (made : inode.dir ≡ true) (stands : is_directory S dir ≡ true)
    (absent : named S dir name ≡ None) (few : has_too_many_links (created S inode dir name) ≡ false) where
  abbrev T : State
  T = created S inode dir name

  -- with the new directory the parent has no more links than it may
  few-parent : (o : Option Inode) → inode_at T dir ≡ o → is_dir o ≡ true → nat_lt MAX_LINKS (links_of T dir true) ≡ false
  few-parent None there at = cc
  few-parent (Some x) there at =
      let all : All (λ e. nat_lt MAX_LINKS (links_of T e.0 e.1.dir) ≡ false) T.inodes = few-links T few in
      ap (λ b. nat_lt MAX_LINKS (links_of T dir b)) (sym at)
      ∙ All-lookup (λ e. nat_lt MAX_LINKS (links_of T e.0 e.1.dir) ≡ false) T.inodes dir x all there

  -- so it had fewer before
  links-left : links_of S dir true < MAX_LINKS
  links-left =
      let none : inode_at S S.next ≡ None = absent-fresh S.inodes S.next fits.inodes.fresh in
      let kept : inode_at T dir ≡ inode_at S dir = inode_at-created-there S inode dir name dir none (some-is_dir (inode_at S dir) stands) in
      let below : nat_lt MAX_LINKS (links_of T dir true) ≡ false = few-parent (inode_at S dir) kept stands in
      let sum : links_of T dir true ≡ links_of S dir true + 1 = links_of-created-parent S inode dir name fits absent made in
      less (links_of T dir true) (links_of S dir true) sum below
    where
      less : (n m : ℕ) → n ≡ m + 1 → nat_lt MAX_LINKS n ≡ false → m < MAX_LINKS
      less n m sum below = grind (arith, tests, sum, below)

module _ (S : State) (cred : Caller) (moment : ℕ) (path : List ℕ) (dir : ℕ) (lawful : IsLawful S) (placed : parent S (components path) ≡ Ok dir) where
  -- the parent has links left
  abbrev Left : Type 0
  Left = links_of S dir true < MAX_LINKS

  mkdir-left : (d : ℕ) (name : List ℕ) → parent S (components path) ≡ Ok d → is_directory S d ≡ true → OnBecomes (λ T. Left) (mkdir_as S cred d name)
  mkdir-left d name is stands =
      let inode : Inode = new_directory (owners_by S cred d) in
      let new : State = created S inode d name in
      choice (λ T. Left) (is_some (named S d name)) (Refuse EEXIST) (unless_too_many_links new S.next) tt (λ free.
      choice (λ T. Left) (has_too_many_links new) (Refuse EMLINK) (Becomes new S.next) tt (λ few.
      let same : d ≡ dir = number-of (sym is ∙ placed) in
      subst (λ n. links_of S n true < MAX_LINKS) same
      (links-left S lawful.parts inode d name refl stands (none-from_not_some (named S d name) free) few)))
    where
      number-of : {m n : ℕ} → ◌≡◌ {A = Result ℕ Refusal} (Ok m) (Ok n) → m ≡ n
      number-of e = cc

  attempt-left : OnBecomes (λ T. Left) (attempt S cred moment (Mkdir path))
  attempt-left =
      unless-becomes (λ T. Left) (refusal_of_arguments S cred moment (Mkdir path)) (attempt_of S cred (Mkdir path)) (λ written.
      in_parent-becomes (λ T. Left) S EEXIST (mkdir_as S cred) path mkdir-left)

  settle-left : (P : State → Type 0) (a : Attempt) (r : Refusal) → OnBecomes (λ T. Left) a → TellsNone P a → (settle S cred moment a).1 ≡ Refused r
      → is_for_limits r ≡ true → Left
  settle-left P (Refuse e) r left tells is limits =
      let same : e ≡ r = cc in
      let plain : is_for_limits r ≡ false = ap is_for_limits (sym same) ∙ tells.none in
      absurd (cc)
  settle-left P (Answer reply) r left tells is limits =
      let granted : is_refused reply ≡ false = tells.none.1 in
      let refused : is_refused reply ≡ true = ap is_refused is in
      absurd (cc)
  settle-left P (Becomes T number) r left tells is limits = left

pub links_come_first : LinksComeFirst
links_come_first S cred moment path dir r lawful placed is limits =
    settle-left S cred moment path dir lawful placed (MayBecome S (Mkdir path)) (attempt S cred moment (Mkdir path)) r
    (attempt-left S cred moment path dir lawful placed) (attempt-none S cred moment (Mkdir path)) is limits
