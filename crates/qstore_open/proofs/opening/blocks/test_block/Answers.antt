use Rattle.std.proofs.Common.{length, cond, is_some, Some, None, ap, sym, ◌∙◌, arith}
use Rattle.qblocks.specs.File.{begins_below}
use Rattle.qtext_image.specs.Faults.{BadOrder}
use Rattle.qtext_image_read.specs.Digits.{bytes_of}
use Rattle.qstore_open.proofs.MoreBlocks.{bytes-told, digits-told, digits-twice, long, long-fits, long-short, not-long}
use Rattle.qstore_open.proofs.opening.blocks.test_block.Goals as goal

pub returns-then-block-min-clause-fault : goal.returns-then-block-min-clause-fault
returns-then-block-min-clause-fault c =
    let block = c.args.block.now in
    let begins = ap (λ s. begins_below s block.index) (sym c.size.ensures.value) ∙ c.in-Some.ensures.some.1 in
    not-long c.args.file.now.file block.index (bytes_of block.digits.now) begins
    (λ whole. c.if-block-min.true (digits-told c.args.file.now.file block.index block.digits.now c.size-2.result c.in-Some.off c.min.result
    c.size-2.ensures.value
    c.in-Some.ensures.some.0 c.min.ensures block.are whole))

pub returns-in-Some-next_allocated-clause-fault : goal.returns-in-Some-next_allocated-clause-fault
returns-in-Some-next_allocated-clause-fault c =
    let block = c.args.block.now in
    let begins = ap (λ s. begins_below s block.index) (sym c.size.ensures.value) ∙ c.in-Some.ensures.some.1 in
    let told = bytes-told c.args.file.now.file block.index block.digits.now c.size-2.result c.in-Some.off c.min.result c.size-2.ensures.value
    c.in-Some.ensures.some.0
    c.min.ensures block.are c.if-block-min.false in
    long c.args.file.now.file block.index (bytes_of block.digits.now) begins told
    ∙ ap (λ o. cond (is_some o) (Some BadOrder) None) (sym c.next_allocated.ensures.next ∙ c.in-Some-next_allocated.is)

pub returns-in-None-clause-fault : goal.returns-in-None-clause-fault
returns-in-None-clause-fault c =
    let block = c.args.block.now in
    let begins = ap (λ s. begins_below s block.index) (sym c.size.ensures.value) ∙ c.in-Some.ensures.some.1 in
    let told = bytes-told c.args.file.now.file block.index block.digits.now c.size-2.result c.in-Some.off c.min.result c.size-2.ensures.value
    c.in-Some.ensures.some.0
    c.min.ensures block.are c.if-block-min.false in
    long c.args.file.now.file block.index (bytes_of block.digits.now) begins told
    ∙ ap (λ o. cond (is_some o) (Some BadOrder) None) (sym c.next_allocated.ensures.next ∙ c.in-None.is)

pub returns-in-None-clause-short : goal.returns-in-None-clause-short
returns-in-None-clause-short c =
    let block = c.args.block.now in
    let begins = ap (λ s. begins_below s block.index) (sym c.size.ensures.value) ∙ c.in-Some.ensures.some.1 in
    let told = bytes-told c.args.file.now.file block.index block.digits.now c.size-2.result c.in-Some.off c.min.result c.size-2.ensures.value
    c.in-Some.ensures.some.0
    c.min.ensures block.are c.if-block-min.false in
    long-short c.args.file.now.file block.index (bytes_of block.digits.now) begins (length (bytes_of block.digits.now)) told

pub returns-in-None-clause-fits : goal.returns-in-None-clause-fits
returns-in-None-clause-fits c =
    let block = c.args.block.now in
    let begins = ap (λ s. begins_below s block.index) (sym c.size.ensures.value) ∙ c.in-Some.ensures.some.1 in
    let told = bytes-told c.args.file.now.file block.index block.digits.now c.size-2.result c.in-Some.off c.min.result c.size-2.ensures.value
    c.in-Some.ensures.some.0
    c.min.ensures block.are c.if-block-min.false in
    long-fits c.args.file.now.file block.index (bytes_of block.digits.now) begins (length (bytes_of block.digits.now)) told
    (omega (arith, c.size.ensures.value, c.size.ensures.bound))

pub returns-in-None-clause-long : goal.returns-in-None-clause-long
returns-in-None-clause-long c = digits-twice c.args.block.now.digits.now c.args.block.now.are
