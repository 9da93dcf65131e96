-- Files stay within the file limit, and their blocks below their sizes.
use Rattle.std.proofs.Common.{◌≡◌, ℕ, [], IfSome, Option, Some, sym, subst}
use Rattle.std.specs.Ordering.{nat_cmp}
use Rattle.std.specs.BTreeMap.{is_at}
use Rattle.std.proofs.lemmas.List.Elements.{All-cons, All-nil}
use Rattle.std.proofs.lemmas.Map.Views.{All-values-insert_entry, All-values-set_value, IfSome-lookup_from_All}
use Rattle.qblocks.specs.File.{File}
use Rattle.qplain.specs.Caller.{Caller}
use Rattle.qplain.specs.State.{Inode, State, inode_at, root, start}
use Rattle.qplain.specs.Use.{has_name}
use Rattle.qplain.specs.Names.{with_name, without_name}
use Rattle.qplain_laws.specs.Sizes.{AreRightSized, FilesStayRightSized, IsRightSized, StartIsRightSized}
use Rattle.qplain_laws.proofs.Becoming.{HoldsOfResults, step-becomes}
use Rattle.qplain_laws.proofs.Filtering.{All-values-filter}
use Rattle.qplain_laws.proofs.RightSized.{right_sized-empty}

module _ (S : State) (cred : Caller) (right : AreRightSized S) where
  -- the file of an inode
  abbrev Right : Inode → Type 0
  Right inode = IsRightSized S.file_limit inode.file

  right-there : (number : ℕ) (inode : Inode) → inode_at S number ≡ Some inode → Right inode
  right-there number inode there =
      let found : IfSome (inode_at S number) Right = IfSome-lookup_from_All Right (is_at (nat_cmp number)) S.inodes right in
      let at : Option Inode → Type 0 = λ o. IfSome o Right in
      subst at there found

  results_right : HoldsOfResults AreRightSized S cred
  results_right = record {
    created = λ inode dir name own known sound stands absent few.
        All-values-insert_entry nat_cmp S.next inode Right S.inodes right
        (subst (λ (file : File). IsRightSized S.file_limit file) (sym own.empty) (right_sized-empty S.file_limit));
    changed = λ number inode after there follows may.
        All-values-set_value (is_at (nat_cmp number)) Right S.inodes after right (follows.size (right-there number inode there));
    removed = λ dir name number inode led there empty may.
        All-values-filter (λ e. has_name (without_name S dir name) e.0) Right S.inodes right;
    linked = λ number inode dir name there file stands absent few. right;
    renamed = λ to dir name number inode to_dir to_name placed outside led there stands other empty may may_too few.
        All-values-filter (λ e. has_name (with_name (without_name (without_name S dir name) to_dir to_name) to_dir to_name number) e.0) Right S.inodes right;
    limited = λ kind id limits may. right;
    graced = λ graces may. right;
  }

pub files_stay_right_sized : FilesStayRightSized
files_stay_right_sized S cred moment call right =
    step-becomes AreRightSized S cred (results_right S cred right) AreRightSized moment call right (λ new sized granted. sized)

pub start_is_right_sized : StartIsRightSized
start_is_right_sized s =
    All-cons (λ inode. IsRightSized (start s).file_limit inode.file) (root s) [] (right_sized-empty (start s).file_limit)
    (All-nil (λ inode. IsRightSized (start s).file_limit inode.file))
