use Rattle.std.proofs.Common.{◌≡◌, ◌++◌, ap, append-nil, arith, refl, sym, ◌∙◌}
use Rattle.std.specs.Map.{keys_of, values_of}
use Rattle.std.proofs.lemmas.List.{take_all}
use Rattle.qaudit.proofs.Counting.{AreCounted, entry_of, all_blocks_fit, all_inodes_fit, blocks_fit, inodes_fit, none_counted, one_counted, values-counted, values_push}
use Rattle.qaudit.proofs.owners.counts_by.Goals as goal

pub loop-row-init : goal.loop-row-init
loop-row-init c = rw c.no_count-run.ensures (none_counted c.args.kind _ c.new-counts.ensures.empty)

pub count_owned-requires-clause-blocks : goal.count_owned-requires-clause-blocks
count_owned-requires-clause-blocks c q =
    blocks_fit c.args.kind c.args.inodes.now c.loop-row.row-index _ _ _ _ q
    c.loop-row.invariant c.loop-row-test.true refl c.requires.fits

pub count_owned-requires-clause-inodes : goal.count_owned-requires-clause-inodes
count_owned-requires-clause-inodes c q =
    let few = inodes_fit c.args.kind c.args.inodes.now c.loop-row.row-index _ _ q c.loop-row.invariant c.loop-row-test.true in
    grind (arith, few)

pub loop-row-preserved : goal.loop-row-preserved
loop-row-preserved c =
    one_counted c.args.kind c.args.inodes.now c.loop-row.row-index _ _ _ _ _ _ c.loop-row.invariant c.loop-row-test.true refl
    (rw c.owner_of.ensures at c.in_ok-count_owned.ensures.keys)
    (λ q. rw c.owner_of.ensures at (c.in_ok-count_owned.ensures.counts q))

pub add_run-requires-clause-blocks : goal.add_run-requires-clause-blocks
add_run-requires-clause-blocks c =
    all_blocks_fit c.args.kind c.args.inodes.now _ _ c.loop-row.run.id
    (rw (take_all c.loop-row.row-index c.args.inodes.now c.loop-row-test.false) at c.loop-row.invariant) c.requires.fits

pub add_run-requires-clause-inodes : goal.add_run-requires-clause-inodes
add_run-requires-clause-inodes c =
    let few = all_inodes_fit c.args.kind c.args.inodes.now _ _ c.loop-row.run.id
    (rw (take_all c.loop-row.row-index c.args.inodes.now c.loop-row-test.false) at c.loop-row.invariant) in
    grind (arith, few)

pub loop-row-2-init : goal.loop-row-2-init
loop-row-2-init c =
    let start : c.into_iter-row-iterator.result ≡ c.add_run.new.counts.entries = c.into_iter-row-iterator.ensures.into_iter_gives.0 in
    let so_far = rw (take_all c.loop-row.row-index c.args.inodes.now c.loop-row-test.false) at c.loop-row.invariant in
    let counted : AreCounted c.args.kind c.args.inodes.now (keys_of c.add_run.new.counts.entries) (entry_of c.add_run.new.counts.entries) =
    record {
      keys = c.in_ok-add_run.ensures.keys ∙ so_far.keys;
      counts = λ q. c.in_ok-add_run.ensures.counts q ∙ so_far.counts q;
    } in
    ap (λ rows. rows ++ values_of c.into_iter-row-iterator.result) c.in_ok-rows.ensures.items
    ∙ ap (λ es. values_of es) start
    ∙ values-counted c.args.kind c.args.inodes.now c.add_run.new.counts.entries counted
    c.into_iter-row-iterator.ensures.into_iter_gives.6

pub loop-row-2-preserved : goal.loop-row-2-preserved
loop-row-2-preserved c =
    values_push c.loop-row-2.rows.items c.push.new.self.items _ c.loop-row-2.row-iterator _ (
      c.in-Some.field-0-0.now,
      c.in-Some.row.now,
    )
    c.in-Some.ensures.steps c.in_ok-push.ensures.items c.loop-row-2.invariant

pub returns : goal.returns
returns c =
    sym (append-nil c.loop-row-2.rows.items)
    ∙ sym (ap (λ es. c.loop-row-2.rows.items ++ values_of es) c.in-None.ensures.steps.0) ∙ c.loop-row-2.invariant
