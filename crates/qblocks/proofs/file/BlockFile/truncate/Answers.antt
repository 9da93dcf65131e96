use Rattle.std.proofs.Common.{ap, arith, ◌∙◌, length}
use Rattle.qblocks.specs.File.{after_truncate}
use Rattle.qblocks.proofs.View.{file_of-grown, file_of-cut}
use Rattle.qblocks.proofs.Fields.{FieldsFit-grown, FieldsFit-cut, row_below, rows_used}
use Rattle.qblocks.proofs.file.BlockFile.truncate.Goals as goal

pub invariant_of-self : goal.invariant_of-self
invariant_of-self c =
    FieldsFit-grown c.self.inside.rows c.self.inside.size c.self.inside.count c.args.size _ (omega arith) (omega arith) c.self.invariant

pub returns-then-size-self-clause-file : goal.returns-then-size-self-clause-file
returns-then-size-self-clause-file c =
    file_of-grown c.self.inside.rows c.self.inside.size c.args.size (omega arith) c.self.invariant.below c.self.invariant.tail
    ∙ ap (λ file. after_truncate file c.args.size) (ap (λ f. f.file) c.self.view_is ∙ c.forget_room.ensures.same)

pub returns-then-size-self-clause-count : goal.returns-then-size-self-clause-count
returns-then-size-self-clause-count c =
    let grown = FieldsFit-grown c.self.inside.rows c.self.inside.size c.self.inside.count c.args.size _ (omega arith) (omega arith) c.self.invariant in
    let seen = ap (λ file. length file.allocated) (ap (λ f. f.file) c.self.view_is ∙ c.forget_room.ensures.same) in
    omega (arith, grown.counted, c.self.invariant.counted, seen)

pub cut-freed-requires-clause-rows : goal.cut-freed-requires-clause-rows
cut-freed-requires-clause-rows c =
    let none = ap (λ f. f.room) c.self.view_is ∙ c.forget_room.ensures.room in
    let a = c.self.inside in
    record {
      bound = λ r there. omega (arith, row_below a.rows a.size a.count _ none c.self.invariant r there, c.self.invariant.bounded);
      used = rows_used a.rows a.size a.count _ none c.self.invariant;
    }

pub overflow_sub-self : goal.overflow_sub-self
overflow_sub-self c =
    let none = ap (λ f. f.room) c.self.view_is ∙ c.forget_room.ensures.room in
    let e = c.cut-freed.ensures in
    (FieldsFit-cut _ _ _ _ c.args.size _ _ none c.self.invariant (omega arith) e.cuts.tail e.filled e.used e.frees).0

pub invariant_of-self-2 : goal.invariant_of-self-2
invariant_of-self-2 c =
    let none = ap (λ f. f.room) c.self.view_is ∙ c.forget_room.ensures.room in
    let e = c.cut-freed.ensures in
    (FieldsFit-cut _ _ _ _ c.args.size _ _ none c.self.invariant (omega arith) e.cuts.tail e.filled e.used e.frees).1

pub returns-clause-file : goal.returns-clause-file
returns-clause-file c =
    let e = c.cut-freed.ensures in
    file_of-cut c.self.inside.rows c.cut-freed.new.rows c.self.inside.size c.args.size (omega arith) e.cuts.before
    e.filled c.self.invariant.below c.self.invariant.tail
    ∙ ap (λ file. after_truncate file c.args.size) (ap (λ f. f.file) c.self.view_is ∙ c.forget_room.ensures.same)

pub returns-clause-count : goal.returns-clause-count
returns-clause-count c =
    let none = ap (λ f. f.room) c.self.view_is ∙ c.forget_room.ensures.room in
    let e = c.cut-freed.ensures in
    let cut = FieldsFit-cut _ _ _ _ c.args.size _ _ none c.self.invariant (omega arith) e.cuts.tail e.filled e.used e.frees in
    let seen = ap (λ file. length file.allocated) (ap (λ f. f.file) c.self.view_is ∙ c.forget_room.ensures.same) in
    omega (arith, cut.0, cut.1.counted, c.self.invariant.counted, seen)
