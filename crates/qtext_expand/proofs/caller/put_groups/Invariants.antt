use Rattle.std.proofs.Common.{◌≡◌, ◌++◌}
use Rattle.std.specs.Option.{option_map}
use Rattle.qtext.specs.Words.{parts_after}
use Rattle.qtext.proofs.Splitting.{size_of}
use Rattle.qtext_expand.specs.Names.{groups_text}
use Rattle.qtext_expand.proofs.caller.put_groups.Given as goal

-- the text so far, and the groups that are left
abbrev pub invariant-loop-left : goal.invariant-loop-left
invariant-loop-left l =
    l.text.items ++ groups_text l.separator l.groups (parts_after l.separator (option_map (λ t. t.now) l.left))
    ≡ l.fn.text.items ++ groups_text l.separator l.groups (parts_after l.separator (option_map (λ t. t.now) l.names))

abbrev pub decreases-loop-left : goal.decreases-loop-left
decreases-loop-left l = size_of (option_map (λ t. t.now) l.left)
