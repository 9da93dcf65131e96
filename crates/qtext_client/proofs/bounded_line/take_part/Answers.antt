use Rattle.std.proofs.Common.{◌≡◌, ◌-◌, arith, eqb, false, get_or, inl, inr, rules, subst, sym}
use Rattle.std.proofs.lemmas.Bool.Decides.{eqb_tells}
use Rattle.std.specs.Io.BufRead.{FillKeeps}
use Rattle.std.proofs.BufReadLemmas.{Consumes_shown}
use Rattle.qtext_client.specs.BoundedLines.{TakesMore}
use Rattle.qtext_client.proofs.LineParts.{longer, takes_end, takes_last, takes_more, takes_nothing}
use Rattle.qtext_client.proofs.bounded_line.take_part.Goals as goal

pub returns-then-end-eq0-clause-takes : goal.returns-then-end-eq0-clause-takes
returns-then-end-eq0-clause-takes g c =
    let rested = c.fill_buf.follows.lender-at-none in
    let filled = subst (FillKeeps _ (g.R.Read.remaining rested) (g.R.BufRead.consumable_len rested)) c.in-Ok.is c.fill_buf.follows.holds-at-none in
    takes_end _ _ c.in-Ok.shown.now _ c.len_through-end.result c.len_through-end.ensures.line c.if-end-eq0.true
    c.in-Ok.ensures.front c.in-Ok.ensures.end filled.0

pub returns-then-end-len-clause-takes : goal.returns-then-end-len-clause-takes
returns-then-end-len-clause-takes g c =
    let rested = c.fill_buf.follows.lender-at-none in
    let filled = subst (FillKeeps _ (g.R.Read.remaining rested) (g.R.BufRead.consumable_len rested)) c.in-Ok.is c.fill_buf.follows.holds-at-none in (
      takes_nothing _ _ _ filled.0,
      longer _ _ c.in-Ok.shown.now _ c.len_through-end.result c.len_through-end.ensures.line
          (omega (arith, c.if-end-len.true, c.requires)) c.in-Ok.ensures.front,
    )

pub returns-then-is_err-clause-takes : goal.returns-then-is_err-clause-takes
returns-then-is_err-clause-takes g c =
    let rested = c.fill_buf.follows.lender-at-none in
    let filled = subst (FillKeeps _ (g.R.Read.remaining rested) (g.R.BufRead.consumable_len rested)) c.in-Ok.is c.fill_buf.follows.holds-at-none in (
      subst (TakesMore _ _ c.args.line.now.items) (sym (let same : c.extend_from_slice.new.self.items ≡ c.args.line.now.items = search rules in same))
          (takes_nothing _ _ c.args.line.now.items filled.0),
      longer _ _ c.in-Ok.shown.now _ c.len_through-end.result c.len_through-end.ensures.line
          (omega (arith, c.if-end-eq0.false)) c.in-Ok.ensures.front,
    )

pub returns-then-last-clause-takes : goal.returns-then-last-clause-takes
returns-then-last-clause-takes g c =
    let shown = c.in-Ok.shown.now in
    let end = c.len_through-end in
    let rested = c.fill_buf.follows.lender-at-none in
    let filled = subst (FillKeeps _ (g.R.Read.remaining rested) (g.R.BufRead.consumable_len rested)) c.in-Ok.is c.fill_buf.follows.holds-at-none in
    let moved = Consumes_shown _ _ _ _ shown end.result end.ensures.bound
    c.in-Ok.ensures.front c.in-Ok.ensures.end filled.0 filled.1 c.consume.ensures.bytes in
    takes_last _ _ shown _ _ end.result end.ensures.line (inr c.if-last.true) (search rules) c.in-Ok.ensures.front c.in-Ok.ensures.end
    moved.0

pub returns-else-last-clause-takes : goal.returns-else-last-clause-takes
returns-else-last-clause-takes g c =
    let shown = c.in-Ok.shown.now in
    let end = c.len_through-end in
    let rested = c.fill_buf.follows.lender-at-none in
    let filled = subst (FillKeeps _ (g.R.Read.remaining rested) (g.R.BufRead.consumable_len rested)) c.in-Ok.is c.fill_buf.follows.holds-at-none in
    let moved = Consumes_shown _ _ _ _ shown end.result end.ensures.bound
    c.in-Ok.ensures.front c.in-Ok.ensures.end filled.0 filled.1 c.consume.ensures.bytes in
    let goes_on : eqb (get_or shown (end.result - 1) 0) 10 ≡ false = elim (eqb_tells (get_or shown (end.result - 1) 0) 10) [
      | inl same ↦ absurd (c.if-last.false same.1)
      | inr other ↦ other.0
    ] in
    takes_more _ _ shown _ _ end.result end.ensures.line (omega (arith, c.if-end-eq0.false)) goes_on (search rules) moved.0
