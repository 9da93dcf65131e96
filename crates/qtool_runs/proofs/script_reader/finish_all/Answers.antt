use Rattle.std.proofs.Common.{◌≡◌, Ok, inl, inr, map, ◌+◌, length, [], ◌∷◌, ◌++◌, sym, ap, ◌∙◌, append_assoc, append-nil, length-append, arith}
use Rattle.std.proofs.lemmas.List.{map-append, nil_from_length}
use Rattle.std.specs.Vec.Iter.{into_iter_items}
use Rattle.qtext.specs.TextFaults.{want_of_memory}
use Rattle.qtext_files.specs.Scripts.{script_of}
use Rattle.qtool_runs.specs.Readers.{first_fault}
use Rattle.qtool_runs.proofs.Readers.{first_at, one_fault, says_so}
use Rattle.qtool_runs.proofs.script_reader.finish_all.Goals as goal

pub overflow_add-number : goal.overflow_add-number
overflow_add-number g c =
    let number : c.loop-reader.number ≡ length c.loop-reader.yielded = c.loop-reader.invariant.0 in
    let parts = ap length (c.loop-reader.invariant.1) in
    let left = ap length c.in-Some.ensures.steps.0 in
    omega (arith, number, parts, left, length-append c.loop-reader.yielded (into_iter_items c.loop-reader.reader-iterator), c.args.readers.small)

pub returns-in-Err-clause-err : goal.returns-in-Err-clause-err
returns-in-Err-clause-err g c =
    let yielded = c.loop-reader.yielded in
    let left = into_iter_items c.next.new.self in
    let parts : yielded ++ c.in-Some.reader ∷ left ≡ c.args.readers.items =
    ap (λ rs. yielded ++ rs) (sym c.in-Some.ensures.steps.0) ∙ c.loop-reader.invariant.1 in
    let number = c.loop-reader.number + 1 in
    let at : number ≡ 1 + length yielded = omega (arith, c.loop-reader.invariant.0) in
    let read = c.loop-reader.scripts.items in
    elim c.in-Err.ensures [
      | inl says ↦ inr (ap (first_fault 1) (sym parts)
          ∙ first_at 1 number yielded read c.in-Some.reader left c.in-Err.fault c.loop-reader.invariant.2 (sym says) at)
      | inr wants ↦ inl (one_fault c.in-Err.fault want_of_memory wants)
    ]

pub loop-reader-preserved : goal.loop-reader-preserved
loop-reader-preserved g c =
    let yielded = c.loop-reader.yielded in
    let scripts = c.loop-reader.scripts.items in
    let parts = ap (λ rs. yielded ++ rs) (sym c.in-Some.ensures.steps.0) ∙ c.loop-reader.invariant.1 in
    let next : Ok c.in-Ok.script ≡ script_of c.in-Some.reader = says_so c.in-Some.reader c.in-Ok.script c.in-Ok.ensures in (
      omega (arith, c.loop-reader.invariant.0, length-append yielded (c.in-Some.reader ∷ [])),
      append_assoc yielded (c.in-Some.reader ∷ []) (into_iter_items c.next.new.self) ∙ parts,
      ap (map Ok) c.in-Ok-push.ensures.items ∙ map-append Ok scripts (c.in-Ok.script ∷ [])
          ∙ ap (λ rs. rs ++ Ok c.in-Ok.script ∷ []) c.loop-reader.invariant.2
          ∙ ap (λ r. map script_of yielded ++ r ∷ []) next
          ∙ sym (map-append script_of yielded (c.in-Some.reader ∷ [])),
    )

pub returns-clause-ok : goal.returns-clause-ok
returns-clause-ok g c =
    let left = into_iter_items c.loop-reader.reader-iterator in
    let none : left ≡ [] = nil_from_length left (sym c.loop-reader.reader-iterator.rest.ok.0 ∙ c.in-None.ensures.steps.0) in
    let all : c.loop-reader.yielded ≡ c.args.readers.items =
    sym (append-nil c.loop-reader.yielded) ∙ ap (λ rs. c.loop-reader.yielded ++ rs) (sym none) ∙ c.loop-reader.invariant.1 in
    c.loop-reader.invariant.2 ∙ ap (map script_of) all
