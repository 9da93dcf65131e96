use Rattle.std.proofs.Common.{rules, ◌≡◌, ◌+◌, ◌-◌, ◌==◌, false, ap, sym, ◌∙◌}
use Rattle.std.specs.BTreeMap.{is_at}
use Rattle.std.specs.Map.{lookup, set_value}
use Rattle.std.specs.Ordering.{nat_cmp}
use Rattle.qstore_change.proofs.Recounts.{kept-apart, moved-apart}
use Rattle.qstore_change.proofs.replacement.move_links.Goals as goal

pub add_link-requires : goal.add_link-requires
add_link-requires c =
    let x = c.args in
    let links = x.tree.now.links in
    let from = c.requires.from in
    let to = c.requires.to in
    let apart : (x.dir == x.to_dir) ≡ false = search rules in
    let taken = c.take_link-then-dir-to_dir.ensures.links from.0 from.1 in
    (to.0, ap (lookup (is_at (nat_cmp x.to_dir))) taken ∙ kept-apart links x.dir x.to_dir from.0 (from.0 - 1) apart from.1 ∙ to.1, to.2)

pub returns-then-dir-to_dir-clause-links : goal.returns-then-dir-to_dir-clause-links
returns-then-dir-to_dir-clause-links c from to there there_too =
    let x = c.args in
    let links = x.tree.now.links in
    let apart : (x.dir == x.to_dir) ≡ false = search rules in
    let alone : x.onto ≡ false = search rules in
    let taken = c.take_link-then-dir-to_dir.ensures.links from there in
    c.add_link.ensures.links to (ap (lookup (is_at (nat_cmp x.to_dir))) taken ∙ kept-apart links x.dir x.to_dir from (from - 1) apart there ∙ there_too)
    ∙ ap (λ es. set_value (is_at (nat_cmp x.to_dir)) es (to + 1)) taken
    ∙ sym (moved-apart links x.dir x.to_dir x.onto from to alone apart)
