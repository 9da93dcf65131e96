use Rattle.std.proofs.Common.{◌≡◌, ◌≤◌, ◌+◌, ◌*◌, ◌++◌, drop, length}
use Rattle.std.specs.List.{flat_map}
use Rattle.qtext_write.specs.Texts.{group_text}
use Rattle.qtext_write.proofs.caller_text.put_groups.Given as goal

-- what was put and what is still to come
abbrev pub invariant-loop-group : goal.invariant-loop-group
invariant-loop-group l = record {
  text : l.line ++ flat_map group_text (drop l.group-index l.groups) ≡ l.fn.line ++ flat_map group_text l.groups;
  short : length l.line ≤ length l.fn.line + 21 * l.group-index;
}
