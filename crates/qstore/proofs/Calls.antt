-- The plain results of the calls that change inodes, and what stands where then.
use Rattle.std.proofs.Common.{◌≡◌, ℕ, ◌+◌, ◌^◌, ◌<◌, ◌≤◌, ◌==◌, ⊎_elim, Bool, true, false, not, ◌&&◌, ◌||◌, nat_lt, cond, List, [], ◌∷◌, length, Option, None, Some, refl, sym, ap, subst, ◌∙◌, arith, tests}
use Rattle.std.specs.List.{list_any}
use Rattle.std.specs.Option.{option_or, unwrap_or}
use Rattle.std.proofs.lemmas.Bool.{and_from, and_parts, cases_lt, or_parts}
use Rattle.qrules.specs.Sort.{Blocks}
use Rattle.qblocks.specs.File.{Adds, File, MoreBlocks, after_truncate, after_write, blocks_of, with_touched}
use Rattle.qplain.specs.declared.owners.Owners.{Owners}
use Rattle.qplain.specs.declared.refusal.Refusal.TheVariants.{EACCES, EFBIG, EISDIR, EPERM}
use Rattle.qplain.specs.declared.reply.Reply.TheVariants.{Done}
use Rattle.qrules.specs.declared.kind.Kind.{Kind}
use Rattle.qrules.specs.declared.kind.Kind.TheVariants.{User, Group, Project}
use Rattle.qplain.specs.Known.{is_declared, is_holder, is_undeclared}
use Rattle.qplain.specs.Attempt.{Answer, Becomes, Refuse, at_inode, at_reached, no_change}
use Rattle.qplain.specs.Caller.{Caller}
use Rattle.qplain.specs.Files.{truncate_at, with_file, with_inode, write_into}
use Rattle.qplain.specs.Names.{created, owners_by, project_of, swept, unlink_as, unlink_at, without_name}
use Rattle.qplain.specs.Owners.{give, renewed, with_owners}
use Rattle.qplain.specs.Rights.{may_give, may_remove, may_write}
use Rattle.qplain.specs.State.{Inode, State, inode_at, is_directory, named, new_directory, new_file}
use Rattle.qplain.specs.Use.{links_of, weight}
use Rattle.qplain.specs.Walk.{led_to}
use Rattle.qplain_laws.specs.Laws.{AreKnown, FitsTogether, is_known_owner}
use Rattle.qplain_laws.proofs.Fitting.{known-project}
use Rattle.qplain_laws.proofs.Settling.{absent-next}
use Rattle.qplain_laws.proofs.Removing.{Replaces-last, Replaces-more, links_of-unlinked}
use Rattle.qplain_laws.proofs.Replacing.{Replaces-changed, Replaces-created}
use Rattle.qstore_accounts.specs.declared.claim.Claim.{Claim}
use Rattle.qstore_accounts.specs.declared.kept_holder.KeptHolder.{KeptHolder}
use Rattle.qstore_accounts.specs.Books.{ledger_in}
use Rattle.qstore_accounts.proofs.Holders.{declared-kept}
use Rattle.qstore_tree.specs.Tree.{IsSameTree, RoomyTree}
use Rattle.qstore.specs.declared.store.Store.TheInside.{Inside}
use Rattle.qstore_change.specs.declared.file_type.FileType.{FileType}
use Rattle.qstore_change.specs.declared.file_type.FileType.TheVariants.{File as AFile, Directory}
use Rattle.qstore.specs.declared.store.write.Target.{Target}
use Rattle.qstore.specs.Kept.{state_of, stored_of}
use Rattle.qstore_change.specs.FileTypes.{inode_new}
use Rattle.qstore.specs.Targets.{IsTarget}
use Rattle.qstore.specs.declared.request.Exchange.{Exchange}
use Rattle.qstore.specs.Decided.{IsAsked, IsGivenUp, no_exchange}
use Rattle.qstore_walk.specs.Owners.{caller_owners}
use Rattle.qstore.specs.Requests.{IsConsistent, are_declared, is_declared_if_any}
use Rattle.qstore_change.specs.Changes.{altered, altered_at}
use Rattle.qstore.specs.Stored.{IsSameStore, Stored}
use Rattle.qstore_accounts.specs.Replacements.{IsClaimed}
use Rattle.qstore_accounts.proofs.Claimed.{claimed-again, unclaimed}
use Rattle.qstore.proofs.Deciding.{asked-for}
use Rattle.qstore.proofs.Even.{even-asked, rewritten-asked}

-- ---- the tests

-- a write that passes all tests comes to its plain result
pub write-becomes : (S : State) (cred : Caller) (off : ℕ) (bytes : List ℕ) (number : ℕ) (inode : Inode) → inode.dir ≡ false
    → may_write cred inode ≡ true → (length bytes == 0) ≡ false → nat_lt S.file_limit (off + length bytes) ≡ false
    → write_into S cred off bytes number inode ≡ Becomes (with_file S number inode (after_write inode.file off bytes)) number
write-becomes S cred off bytes number inode file may some low =
    λ i. cond (file i) (Refuse EISDIR) (cond (not (may i)) (Refuse EACCES) (cond (some i) (Answer (Done number no_change)) (cond (low i) (Refuse EFBIG)
    (Becomes (with_file S number inode (after_write inode.file off bytes)) number))))

-- and so does a truncate
pub truncate-becomes : (S : State) (cred : Caller) (size number : ℕ) (inode : Inode) → inode.dir ≡ false → may_write cred inode ≡ true
    → nat_lt S.file_limit size ≡ false
    → truncate_at S cred size number inode ≡ Becomes (with_file S number inode (after_truncate inode.file size)) number
truncate-becomes S cred size number inode file may low =
    λ i. cond (file i) (Refuse EISDIR) (cond (not (may i)) (Refuse EACCES) (cond (low i) (Refuse EFBIG)
    (Becomes (with_file S number inode (after_truncate inode.file size)) number)))

-- and an unlink
pub unlink-becomes : (S : State) (cred : Caller) (dir : ℕ) (name : List ℕ) (number : ℕ) (inode : Inode) → named S dir name ≡ Some number
    → inode_at S number ≡ Some inode → inode.dir ≡ false → may_remove S cred dir number ≡ true
    → unlink_as S cred dir name ≡ Becomes (swept (without_name S dir name)) number
unlink-becomes S cred dir name number inode led there file may =
    ap (λ o. at_reached S (unlink_at S cred dir name) (led_to o)) led
    ∙ ap (at_inode (unlink_at S cred dir name) number) there
    ∙ (λ i. cond (file i) (Refuse EISDIR) (cond (not (may i)) (Refuse EPERM) (Becomes (swept (without_name S dir name)) number)))

-- and a change of owners
pub give-becomes : (S : State) (cred : Caller) (owners : Owners) (number : ℕ) (inode : Inode) → may_give cred inode owners ≡ true
    → give S cred owners number inode ≡ Becomes (with_inode S number (with_owners inode owners)) number
give-becomes S cred owners number inode may =
    λ i. cond (not (may i)) (Refuse EPERM) (Becomes (with_inode S number (with_owners inode owners)) number)

-- and is refused to who may not give it
pub give-refused : (S : State) (cred : Caller) (owners : Owners) (number : ℕ) (inode : Inode) → may_give cred inode owners ≡ false
    → give S cred owners number inode ≡ Refuse EPERM
give-refused S cred owners number inode may =
    λ i. cond (not (may i)) (Refuse EPERM) (Becomes (with_inode S number (with_owners inode owners)) number)

-- owners that are known are declared
project-known : (S : State) (project : Option ℕ) → is_known_owner S Project project ≡ true → is_declared_if_any S project ≡ true
project-known S None known = refl
project-known S (Some id) known = known

pub known-declared : (S : State) (owners : Owners) → AreKnown S owners → are_declared S owners ≡ true
known-declared S owners known =
    and_from (is_declared S User owners.uid && is_declared S Group owners.gid) (is_declared_if_any S owners.project)
    (and_from (is_declared S User owners.uid) (is_declared S Group owners.gid) (known User) (known Group))
    (project-known S owners.project (known Project))

-- an id that is named and declared, or that is not named, is declared
named-id : (S : State) (kind : Kind) (id : Option ℕ) (own : ℕ) → is_undeclared S kind id ≡ false → is_declared S kind own ≡ true
    → is_declared S kind (unwrap_or id own) ≡ true
named-id S kind None own named is = is
named-id S kind (Some id) own named is = by (is_declared S kind id) named
  where
    by : (b : Bool) → not b ≡ false → b ≡ true
    by true n = refl
    by false n = cc

named-project : (S : State) (id own : Option ℕ) → is_undeclared S Project id ≡ false → is_declared_if_any S own ≡ true
    → is_declared_if_any S (option_or id own) ≡ true
named-project S None own named is = is
named-project S (Some id) own named is = named-id S Project (Some id) id named (by (is_declared S Project id) named)
  where
    by : (b : Bool) → not b ≡ false → b ≡ true
    by true n = refl
    by false n = cc

-- and so are all owners of an inode that is given them
pub named-declared : (S : State) (uid gid project : Option ℕ) (owners : Owners)
    → (is_undeclared S User uid || is_undeclared S Group gid || is_undeclared S Project project) ≡ false
    → are_declared S owners ≡ true → are_declared S (renewed uid gid project owners) ≡ true
named-declared S uid gid project owners named own =
    let last = or_parts (is_undeclared S User uid || is_undeclared S Group gid) (is_undeclared S Project project) named in
    let first = or_parts (is_undeclared S User uid) (is_undeclared S Group gid) last.0 in
    let all = and_parts (is_declared S User owners.uid && is_declared S Group owners.gid) (is_declared_if_any S owners.project) own in
    let both = and_parts (is_declared S User owners.uid) (is_declared S Group owners.gid) all.0 in
    and_from (is_declared S User (unwrap_or uid owners.uid) && is_declared S Group (unwrap_or gid owners.gid))
    (is_declared_if_any S (option_or project owners.project))
    (and_from (is_declared S User (unwrap_or uid owners.uid)) (is_declared S Group (unwrap_or gid owners.gid))
    (named-id S User uid owners.uid first.0 both.0) (named-id S Group gid owners.gid first.1 both.1))
    (named-project S project owners.project last.1 all.1)

-- the owners of what a caller makes in a directory are declared
pub made-declared : (S : State) (cred : Caller) (dir : ℕ) → FitsTogether S → are_declared S (caller_owners cred None) ≡ true
    → is_directory S dir ≡ true → are_declared S (owners_by S cred dir) ≡ true
made-declared S cred dir fits known stands =
    and_from (is_declared S User cred.uid && is_declared S Group cred.gid) (is_declared_if_any S (project_of (inode_at S dir)))
    (and_parts (is_declared S User cred.uid && is_declared S Group cred.gid) true known).0
    (project-known S (project_of (inode_at S dir)) (known-project S dir fits stands))

-- where no project is declared a directory has none
pub no-project : (s : Stored) → IsConsistent s → (dir : ℕ) → is_directory s.state dir ≡ true
    → (length (ledger_in Project s.books) == 0) ≡ true → None ≡ project_of (inode_at s.state dir)
no-project s whole dir stands none =
    by (project_of (inode_at s.state dir)) (known-project s.state dir whole.sound.lawful.parts stands)
  where
    absent : (id : ℕ) (os : List KeptHolder) → (length os == 0) ≡ true → list_any (λ o. id == o.id) os ≡ false
    absent id [] empty = refl
    absent id (o ∷ os) empty = absurd (grind (arith, tests, empty))

    by : (project : Option ℕ) → is_known_owner s.state Project project ≡ true → None ≡ project
    by None known = refl
    by (Some id) known =
        let undeclared : is_declared s.state Project id ≡ false =
        ap (list_any (is_holder Project id)) whole.books.holders ∙ declared-kept Project id (λ kind. ledger_in kind s.books)
        ∙ absent id (ledger_in Project s.books) none in
        cc

-- a change of the inode that is there
pub altered-there : (S : State) (number : ℕ) (change : Inode → Inode) (inode : Inode) → inode_at S number ≡ Some inode
    → altered S number change ≡ with_inode S number (change inode)
altered-there S number change inode there = ap (altered_at S number change) there

-- what a write of N bytes allocates is what it has more then
pub more-of-adds : (file : File) (off : ℕ) (bytes : List ℕ) (blocks : ℕ) → Adds file off (length bytes) blocks
    → MoreBlocks file (after_write file off bytes) blocks
unfolding after_write with_touched
more-of-adds file off [] blocks adds = adds
more-of-adds file off (byte ∷ rest) blocks adds = adds

-- ---- what stands where

-- a changed inode stands where it stood
pub changed-asked : (s : Stored) → IsConsistent s → (number : ℕ) (inode after : Inode) → inode_at s.state number ≡ Some inode
    → (from to : Claim) → IsClaimed s.books (Some from) (Some inode) → IsClaimed s.books (Some to) (Some after) → weight Blocks after ≤ 2 ^ 32
    → IsAsked s (record { from = Some from; to = Some to }) 0 (with_inode s.state number after)
changed-asked s whole number inode after there from to lost gained few =
    asked-for s whole (Some from) (Some to) 0 (with_inode s.state number after) (Some inode) (Some after)
    (Replaces-changed s.state number inode after there) (omega arith) lost gained few

-- a file that loses a name is given up with its last one
pub unlinked-asked : (s : Stored) → IsConsistent s → (dir : ℕ) (name : List ℕ) (number : ℕ) (inode : Inode) → named s.state dir name ≡ Some number
    → inode_at s.state number ≡ Some inode → inode.dir ≡ false
    → (exchange : Exchange) (links : ℕ) → links ≡ links_of s.state number inode.dir → (1 < links → exchange ≡ no_exchange)
    → (links ≤ 1 → IsGivenUp s inode exchange) → IsAsked s exchange 0 (swept (without_name s.state dir name))
unlinked-asked s whole dir name number inode led there file exchange links kept more last =
    ⊎_elim
    (λ (many : 1 < links).
    subst (λ (e : Exchange). IsAsked s e 0 S1) (sym (more many))
    (even-asked s whole S1 inode inode (λ sort. refl) refl
    (Replaces-more s.state dir name number inode fits led there (omega (arith, many, same))) refl))
    (λ (one : links ≤ 1).
    let g = last one in
    subst (λ (e : Exchange). IsAsked s e 0 S1) (sym g.is)
    (asked-for s whole (Some g.claim) None 0 S1 (Some inode) None
    (Replaces-last s.state dir name number inode fits led there (omega (arith, one, same, some))) (omega arith)
    g.claimed (unclaimed s.books) (omega arith)))
    (cases_lt 1 links)
  where
    S1 : State
    S1 = swept (without_name s.state dir name)

    same : links ≡ links_of s.state number false
    same = kept ∙ ap (links_of s.state number) file

    fits : FitsTogether s.state
    fits = whole.sound.lawful.parts

    some : links_of S1 number false + 1 ≡ links_of s.state number false
    some = links_of-unlinked s.state dir name number inode fits led there file

-- a file that changes stands where it stood, with a claim on the same records
pub resized-asked : (s : Stored) → IsConsistent s → (number : ℕ) (inode : Inode) (file : File) → inode_at s.state number ≡ Some inode
    → (from to : Claim) (blocks : ℕ) → IsClaimed s.books (Some from) (Some inode)
    → to ≡ record { slots = from.slots; weight = record { blocks = blocks; inodes = 1 } }
    → blocks_of file ≡ blocks → blocks ≤ 2 ^ 32
    → IsAsked s (record { from = Some from; to = Some to }) 0 (with_file s.state number inode file)
resized-asked s whole number inode file there from to blocks claimed is same few =
    changed-asked s whole number inode (record inode { file = file }) there from to claimed
    (subst (λ (c : Claim). IsClaimed s.books (Some c) (Some (record inode { file = file }))) (sym is)
    (claimed-again s.books from blocks inode (record inode { file = file }) claimed refl same))
    (omega (arith, same, few))

-- the write of a target
pub target-asked : (s : Stored) → IsConsistent s → (cred : Caller) (path : List ℕ) (off : ℕ) (bytes : List ℕ) (target : Target)
    (t : IsTarget s cred path off bytes target)
    → IsAsked s target.exchange 0 (with_file s.state target.number t.inode (after_write t.inode.file off bytes))
target-asked s whole cred path off bytes target t =
    ⊎_elim
    (λ (some : 0 < target.missing).
    let g = t.some some in
    let old = g.blocks in
    let few = g.few in
    let few_missing = t.few_missing in
    subst (λ (e : Exchange). IsAsked s e 0 S1) (sym g.is)
    (resized-asked s whole target.number t.inode file t.there g.claim
    (record { slots = g.claim.slots; weight = record { blocks = g.claim.weight.blocks + target.missing; inodes = 1 } })
    (g.claim.weight.blocks + target.missing) g.claimed refl (omega (arith, more, old)) (omega (arith, few, few_missing))))
    (λ (none : target.missing ≤ 0).
    subst (λ (e : Exchange). IsAsked s e 0 S1) (sym (t.none (omega (arith, none))))
    (rewritten-asked s whole target.number t.inode file t.there (omega (arith, more, none))))
    (cases_lt 0 target.missing)
  where
    file : File
    file = after_write t.inode.file off bytes

    S1 : State
    S1 = with_file s.state target.number t.inode file

    more : MoreBlocks t.inode.file file target.missing
    more = more-of-adds t.inode.file off bytes target.missing t.missing

-- a new inode of the caller's
pub created-asked : (s : Stored) → IsConsistent s → (cred : Caller) (dir : ℕ) (name : List ℕ) (sort : FileType) (owners : Owners)
    → owners ≡ owners_by s.state cred dir → (to : Claim)
    → ((inode : Inode) → inode.owners ≡ owners → weight Blocks inode ≡ 0 → IsClaimed s.books (Some to) (Some inode))
    → IsAsked s (record { from = None; to = Some to }) 1 (created s.state (inode_new sort (owners_by s.state cred dir)) dir name)
created-asked s whole cred dir name sort owners own to claimed =
    subst (λ o. IsAsked s (record { from = None; to = Some to }) 1 (created s.state (inode_new sort o) dir name)) own
    (asked-for s whole None (Some to) 1 (created s.state (inode_new sort owners) dir name) None (Some (inode_new sort owners))
    (Replaces-created s.state (inode_new sort owners) dir name (absent-next s.state whole.sound.lawful)) refl (unclaimed s.books)
    (by sort) (light sort))
  where
    by : (k : FileType) → IsClaimed s.books (Some to) (Some (inode_new k owners))
    by AFile = claimed (new_file owners) refl refl
    by Directory = claimed (new_directory owners) refl refl

    light : (k : FileType) → weight Blocks (inode_new k owners) ≤ 2 ^ 32
    light AFile = omega arith
    light Directory = omega arith

-- ---- the store in which room is made

-- it is the same store as the one that admitted the bill
pub same-with_room : (old admitted : Stored) (a : Inside) (tree : RoomyTree) → IsSameStore old admitted → stored_of a ≡ admitted
    → IsSameTree a.tree tree → IsSameStore old (stored_of (record a { tree = tree }))
same-with_room old admitted a tree same is made = record {
  state =
      (λ i. record (state_of a) { inodes = made.inodes i; names = made.names i })
      ∙ ap (λ (v : Stored). v.state) is
      ∙ same.state;
  books = ap (λ (v : Stored). v.books) is ∙ same.books;
}
