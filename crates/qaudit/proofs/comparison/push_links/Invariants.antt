use Rattle.std.proofs.Common.{◌≡◌, ◌++◌, take}
use Rattle.qaudit.specs.Differences.{link_differences}
use Rattle.qaudit.proofs.comparison.push_links.Given as goal

abbrev pub invariant-loop-link : goal.invariant-loop-link
invariant-loop-link l = l.differences.items ≡ l.fn.differences.items ++ link_differences (take l.link-index l.links)
