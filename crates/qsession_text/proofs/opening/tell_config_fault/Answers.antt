use Rattle.std.proofs.Common.{ap, string_bytes, subst, sym, ◌∙◌}
use Rattle.qtext_config.specs.ConfigFaults.{cause_of, config_fault_number}
use Rattle.qsession.specs.Tellings.{IsPut}
use Rattle.qsession_text.specs.Openings.{IsReadingTold}
use Rattle.qsession_text.proofs.Reading.{told-field, told-other}
use Rattle.qsession_text.proofs.opening.tell_config_fault.Goals as goal

pub returns-in-Field-clause-told : goal.returns-in-Field-clause-told
returns-in-Field-clause-told c read ends other =
    let key = string_bytes c.in-Field.name in
    let buffer = c.put_text.new.buffer in
    let len = c.put_text.new.len in
    subst (λ n. IsReadingTold read buffer len n) (sym (c.number.ensures ∙ ap config_fault_number c.in-Field.is))
    (told-field c.args.fault.now key read buffer len c.put_text.result (ap cause_of c.in-Field.is) ends
    (subst (λ bytes. IsPut bytes buffer len c.put_text.result) c.as_bytes.ensures.value c.put_text.ensures))

pub returns-in_default-clause-told : goal.returns-in_default-clause-told
returns-in_default-clause-told c read ends other =
    subst (λ n. IsReadingTold read c.args.key.now 0 n) (sym c.number-in_default.ensures)
    (told-other c.args.fault.now read c.args.key.now c.in_default.not-Memory c.in_default.not-Field ends)
