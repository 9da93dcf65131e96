use Rattle.std.proofs.Common.{sym, ◌∙◌}
use Rattle.qstore_accounts.proofs.Booked.{bill-placed, books-settled}
use Rattle.qstore_accounts.proofs.Refusals.{bill-refused}
use Rattle.qstore_accounts.proofs.accounts.Accounts.bill.Goals as goal

pub refusal-requires : goal.refusal-requires
refusal-requires c =
    let x = c.args in
    let r = c.requires.replacement in
    record {
      placed = bill-placed x.self.now x.from x.to r.0 r.1 x.moment c.write_bill.new.bill c.requires.moment (c.write_bill.ensures.bill r.0 r.1 r.2 r.3 r.4);
    }

pub returns-in-Some-clause-refused : goal.returns-in-Some-clause-refused
returns-in-Some-clause-refused c S S1 f t r next =
    let x = c.args in
    let bill = c.write_bill.ensures in
    sym (bill-refused x.self.now x.from x.to S S1 f bill.in_range x.cred.now x.moment c.write_bill.new.bill (bill.bill S S1 f t r) t r x.next next)
    ∙ sym c.refusal.ensures ∙ c.in-Some.is

pub returns-in-None-clause-granted : goal.returns-in-None-clause-granted
returns-in-None-clause-granted c S S1 f t r next =
    let x = c.args in
    let bill = c.write_bill.ensures in (
      sym (bill-refused x.self.now x.from x.to S S1 f bill.in_range x.cred.now x.moment c.write_bill.new.bill (bill.bill S S1 f t r) t r x.next next)
          ∙ sym c.refusal.ensures ∙ c.in-None.is,
      books-settled x.self.now x.from x.to S S1 f t bill.in_range r x.moment c.write_bill.new.bill (bill.bill S S1 f t r),
    )

pub returns-in-None-clause-placed : goal.returns-in-None-clause-placed
returns-in-None-clause-placed c =
    let x = c.args in
    let r = c.requires.replacement in
    bill-placed x.self.now x.from x.to r.0 r.1 x.moment c.write_bill.new.bill c.requires.moment
    (c.write_bill.ensures.bill r.0 r.1 r.2 r.3 r.4)
