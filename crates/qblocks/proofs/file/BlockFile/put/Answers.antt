use Rattle.std.proofs.Common.{◌≡◌, max, ◌+◌, ℕ, ap, arith, sym, ◌∙◌, length, subst}
use Rattle.std.proofs.lemmas.Bool.{eqb-true, eqb-false}
use Rattle.qblocks.specs.Input.{input_bytes}
use Rattle.qblocks.specs.File.{after_write, is_allocated}
use Rattle.qblocks.specs.WriteRoom.{no_room}
use Rattle.qblocks.specs.Rows.{FieldsFit, file_of}
use Rattle.qblocks.proofs.Touched.{after_write_none, is_allocated-after_write}
use Rattle.qblocks.proofs.Fields.{put_whole, ready_whole}
use Rattle.qblocks.proofs.file.BlockFile.put.Goals as goal

pub returns-then-is_empty-clause-file : goal.returns-then-is_empty-clause-file
returns-then-is_empty-clause-file c =
    ap (λ f. f.file) c.self.view_is
    ∙ sym (after_write_none c.args.self.now.file c.args.off (input_bytes c.args.input) (eqb-true _ _ (sym c.if-is_empty.ensures)))

pub put-requires-clause-spare : goal.put-requires-clause-spare
put-requires-clause-spare c =
    let ready = ready_whole c.self.inside.rows c.self.inside.size c.self.inside.count _ c.args.self.now
    c.args.off (length (input_bytes c.args.input)) c.args.spare c.self.view_is c.requires.ready c.self.invariant in
    omega (arith, ready.1)

pub overflow_add-self : goal.overflow_add-self
overflow_add-self c =
    let some = eqb-false (length (input_bytes c.args.input)) 0 (sym c.if-is_empty.ensures) in
    let size = c.max-self-inside.ensures ∙ ap (λ (x : ℕ). max c.self.inside.size (c.args.off + x)) c.len.ensures in
    let put = put_whole c.self.inside.rows c.put.new.rows c.self.inside.size c.self.inside.count _
    c.args.self.now c.args.off (input_bytes c.args.input) c.args.spare _ _ c.max-self-inside.result c.self.view_is
    c.requires.ready c.self.invariant c.put.ensures.puts (omega (arith, some)) size
    c.put.ensures.rows in
    omega (arith, put.0)

-- the fields after the write, and the file that they stand for
put_is : (c : goal.After-drop-spare-inside-3)
    → FieldsFit c.put.new.rows c.max-self-inside.result (c.self.inside.count + c.args.spare) no_room
    × (file_of c.put.new.rows c.max-self-inside.result
    ≡ after_write c.args.self.now.file c.args.off (input_bytes c.args.input))
put_is c =
    let some = eqb-false (length (input_bytes c.args.input)) 0 (sym c.if-is_empty.ensures) in
    let size = c.max-self-inside.ensures ∙ ap (λ (x : ℕ). max c.self.inside.size (c.args.off + x)) c.len.ensures in
    let put = put_whole c.self.inside.rows c.put.new.rows c.self.inside.size c.self.inside.count _
    c.args.self.now c.args.off (input_bytes c.args.input) c.args.spare _ _ c.max-self-inside.result c.self.view_is
    c.requires.ready c.self.invariant c.put.ensures.puts (omega (arith, some)) size
    c.put.ensures.rows in
    (put.1, put.2)

pub invariant_of-self-2 : goal.invariant_of-self-2
invariant_of-self-2 c =
    let Whole : ℕ → Type 0 = λ x. FieldsFit c.put.new.rows c.max-self-inside.result (c.self.inside.count + x) no_room in
    subst Whole (sym c.len-fresh.ensures) (put_is c).0

pub returns-clause-file : goal.returns-clause-file
returns-clause-file c = (put_is c).1

pub returns-clause-count : goal.returns-clause-count
returns-clause-count c =
    let whole = (put_is c).0 in
    let seen = ap (λ f. length f.file.allocated) c.self.view_is in
    omega (arith, whole.counted, c.self.invariant.counted, c.len-fresh.ensures, seen)

pub returns-clause-touched : goal.returns-clause-touched
returns-clause-touched c = λ k.
    ap (λ file. is_allocated file k) (put_is c).1
    ∙ is_allocated-after_write c.args.self.now.file c.args.off (input_bytes c.args.input) k
