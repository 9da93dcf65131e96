use Rattle.std.proofs.Common.{Option, Some, None, ap, sym, ◌∙◌}
use Rattle.std.specs.Ordering.{nat_cmp}
use Rattle.std.specs.Cmp.Lexicographic.{slice_cmp}
use Rattle.std.specs.BTreeMap.{is_at}
use Rattle.std.specs.Map.{lookup}
use Rattle.std.specs.Option.{IfSome, option_map}
use Rattle.qplain.specs.State.{is_dir}
use Rattle.qstore_tree.specs.Nodes.{inode_of}
use Rattle.qstore_tree.proofs.AllNames.{name_at}
use Rattle.qstore_tree.proofs.TreeChanges.{inode_seen, name_seen}
use Rattle.qstore_tree.proofs.tree.Tree.names_in.Goals as goal

weaker : {X : Type 0} (P Q : X → Type 0) (o : Option X) → ((x : X) → P x → Q x) → IfSome o P → IfSome o Q
weaker P Q None f p = p
weaker P Q (Some x) f p = f x p

pub returns-in-Some-clause-directory : goal.returns-in-Some-clause-directory
returns-in-Some-clause-directory c =
    c.names.ensures.directory ∙ ap (λ o. is_dir (option_map inode_of o)) c.in-Some.ensures.value
    ∙ sym (ap is_dir (inode_seen c.self.inside.nodes.entries _ c.args.self.now c.self.view_is c.args.dir))

pub returns-in-Some-clause-names : goal.returns-in-Some-clause-names
returns-in-Some-clause-names c =
    weaker _ _ c.names.result (λ names is name.
    ap (lookup (is_at (slice_cmp nat_cmp name))) is ∙ ap (name_at name) c.in-Some.ensures.value
    ∙ sym (name_seen c.self.inside.nodes.entries _ c.args.self.now c.self.view_is c.args.dir name)) c.names.ensures.names

pub returns-in-None-clause-directory : goal.returns-in-None-clause-directory
returns-in-None-clause-directory c =
    ap (λ o. is_dir (option_map inode_of o)) c.in-None.ensures.value
    ∙ sym (ap is_dir (inode_seen c.self.inside.nodes.entries _ c.args.self.now c.self.view_is c.args.dir))
