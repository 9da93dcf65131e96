use Rattle.std.proofs.Common.{◌≡◌, length, IfOk, sym, subst, ◌∙◌, arith}
use Rattle.qrules.specs.Sort.{Inodes}
use Rattle.qplain.specs.Use.{total_of}
use Rattle.qstore_open.specs.Told.{parts_of}
use Rattle.qstore_open.proofs.Counted.{counted-all, not-within, told-many, too-many, within, within-tree}
use Rattle.qstore_open.proofs.ending.end_line.Goals as goal

pub returns-then-len-bounds : goal.returns-then-len-bounds
returns-then-len-bounds c = λ S is.
    let many : length c.in_ok-inodes.inodes.items ≡ total_of S Inodes =
    told-many S c.args.bounds.now c.args.tree.now is c.in_ok-inodes.inodes.items c.in_ok-inodes.ensures.rows in
    let most = is.most_inodes in
    sym (too-many S (parts_of c.args.records.now) (omega (arith, many, most)))

pub returns-then-not-are_within : goal.returns-then-not-are_within
returns-then-not-are_within c = λ S is.
    let same = within-tree S c.args.bounds.now c.args.tree.now is c.in_ok-inodes.inodes.items c.in_ok-inodes.ensures.rows c.in_ok-counts.counts
    c.deref.result.now c.deref.ensures.value c.in_ok-counts.ensures in
    sym (not-within S (parts_of c.args.records.now) (sym same ∙ sym c.are_within.ensures ∙ c.if-not-are_within.true))

pub returns : goal.returns
returns c = λ S is.
    let items = c.in_ok-inodes.inodes.items in
    let same = within-tree S c.args.bounds.now c.args.tree.now is items c.in_ok-inodes.ensures.rows c.in_ok-counts.counts
    c.deref.result.now c.deref.ensures.value c.in_ok-counts.ensures in
    let many : length c.in_ok-inodes.inodes.items ≡ total_of S Inodes = told-many S c.args.bounds.now c.args.tree.now is items c.in_ok-inodes.ensures.rows in
    let most = is.most_inodes in
    let counted = counted-all S c.args.bounds.now c.args.tree.now is items c.in_ok-inodes.ensures.rows c.in_ok-counts.counts
    c.deref.result.now c.deref.ensures.value c.in_ok-counts.ensures c.deref-2.result.now c.deref-2.ensures.value in
    subst (λ end. IfOk c.wrong_line.result (λ line. line ≡ end))
    (sym (within S (parts_of c.args.records.now) (sym same ∙ sym c.are_within.ensures ∙ c.if-not-are_within.false) (omega (arith, many, most))))
    (c.wrong_line.ensures S is.is_of counted)
