use Rattle.std.proofs.Common.{◌≡◌, ℕ, length, map, sym, ap, subst, ◌∙◌, add-one, arith}
use Rattle.std.proofs.lemmas.List.{length-map}
use Rattle.qtext_image.specs.Counts.{is_below_root}
use Rattle.qstore_tree.specs.Listed.{node_entry}
use Rattle.qstore_tree.specs.Tree.{name_row_of}
use Rattle.qstore_open.specs.Reaching.{inos_at, inos_in}
use Rattle.qstore_open.proofs.Levels.{IsLevel, level-more, level-none}
use Rattle.qstore_open.proofs.reach.Reach.of.Goals as goal

pub loop-init : goal.loop-init
loop-init c = λ S is. level-none S c.in_ok-reach.reach c.in_ok-reach.ensures.found c.in_ok-reach.ensures.front

pub loop-preserved : goal.loop-preserved
loop-preserved c = λ S is.
    let are : (dir : ℕ) → inos_at c.in_ok-inos.inos dir ≡ inos_in dir (map name_row_of S.names) =
    λ dir. c.in_ok-inos.ensures dir ∙ ap (inos_in dir) (c.deref.ensures.value ∙ c.in_ok-names.ensures.rows ∙ ap (map name_row_of) is.names) in
    subst (λ k. IsLevel S k c.in_ok-reach-2.reach) (sym (add-one c.loop.counter))
    (level-more S c.in_ok-inos.inos are c.loop.counter c.loop.reach c.in_ok-reach-2.reach (c.loop.invariant S is) c.in_ok-reach-2.ensures)

pub returns : goal.returns
returns c = λ S is number.
    let many : length c.in_ok-nodes.field-0.items ≡ length S.inodes =
    sym (length-map c.in_ok-nodes.field-0.items node_entry) ∙ ap length (c.in_ok-nodes.ensures.nodes ∙ is.inodes) in
    let last : c.loop.counter ≡ length S.inodes = omega (arith, many) in
    (c.loop.invariant S is).found number ∙ ap (λ k. is_below_root S k number) last
