use Rattle.std.proofs.Common.{◌≡◌, ◌+◌, ◌-◌, ◌/◌, ◌%◌, [], ap, arith, eqb, false, get_or, inl, inr, length, refl, subst, sym, take}
use Rattle.std.proofs.lemmas.Bool.Decides.{eqb_tells}
use Rattle.std.proofs.lemmas.List.{length-take}
use Rattle.std.specs.Io.BufRead.{FillKeeps}
use Rattle.std.proofs.BufReadLemmas.{Consumes_shown}
use Rattle.qtext_client.proofs.LineParts.{takes_end, takes_last, takes_more, takes_nothing}
use Rattle.qtext_client.specs.Turns.{HaveTaken}
use Rattle.qtext_client.proofs.Paying.{nothing_due}
use Rattle.qtext_client.proofs.bounded_line.pass_part.Goals as goal

pub returns-in-Err : goal.returns-in-Err
returns-in-Err g c = (
  [],
  takes_nothing _ _ [] c.fill_buf.follows.holds-at-none.0,
  nothing_due c.args.left c.args.turns.now c.requires,
  omega (arith, c.requires),
)

pub returns-then-len-eq0 : goal.returns-then-len-eq0
returns-then-len-eq0 g c =
    let rested = c.fill_buf.follows.lender-at-none in
    let filled = subst (FillKeeps _ (g.R.Read.remaining rested) (g.R.BufRead.consumable_len rested)) c.in-Ok.is c.fill_buf.follows.holds-at-none in (
      [],
      takes_end _ _ c.in-Ok.shown.now [] c.len_through-len.result c.len_through-len.ensures.line c.if-len-eq0.true
          c.in-Ok.ensures.front c.in-Ok.ensures.end filled.0,
      nothing_due c.args.left c.args.turns.now c.requires,
    )

pub returns-then-last : goal.returns-then-last
returns-then-last g c =
    let shown = c.in-Ok.shown.now in
    let len = c.len_through-len in
    let rested = c.fill_buf.follows.lender-at-none in
    let filled = subst (FillKeeps _ (g.R.Read.remaining rested) (g.R.BufRead.consumable_len rested)) c.in-Ok.is c.fill_buf.follows.holds-at-none in
    let size : length (take len.result shown) ≡ len.result = omega (arith, length-take len.result shown, len.ensures.bound) in
    let moved = Consumes_shown _ _ _ _ shown len.result len.ensures.bound
    c.in-Ok.ensures.front c.in-Ok.ensures.end filled.0 filled.1 c.consume.ensures.bytes in (
      take len.result shown,
      takes_last _ _ shown [] _ len.result len.ensures.line (inr c.if-last.true) refl c.in-Ok.ensures.front c.in-Ok.ensures.end moved.0,
      subst (λ n. HaveTaken ((c.args.left + n) / 1024) c.args.turns.now c.await_turns.new.turns) (sym size) c.await_turns.ensures,
    )

pub returns-else-last : goal.returns-else-last
returns-else-last g c =
    let shown = c.in-Ok.shown.now in
    let len = c.len_through-len in
    let rested = c.fill_buf.follows.lender-at-none in
    let filled = subst (FillKeeps _ (g.R.Read.remaining rested) (g.R.BufRead.consumable_len rested)) c.in-Ok.is c.fill_buf.follows.holds-at-none in
    let size : length (take len.result shown) ≡ len.result = omega (arith, length-take len.result shown, len.ensures.bound) in
    let moved = Consumes_shown _ _ _ _ shown len.result len.ensures.bound
    c.in-Ok.ensures.front c.in-Ok.ensures.end filled.0 filled.1 c.consume.ensures.bytes in
    let goes_on : eqb (get_or shown (len.result - 1) 0) 10 ≡ false = elim (eqb_tells (get_or shown (len.result - 1) 0) 10) [
      | inl same ↦ absurd (c.if-last.false same.1)
      | inr other ↦ other.0
    ] in (
      take len.result shown,
      takes_more _ _ shown [] _ len.result len.ensures.line (omega (arith, c.if-len-eq0.false)) goes_on refl moved.0,
      subst (λ n. HaveTaken ((c.args.left + n) / 1024) c.args.turns.now c.await_turns.new.turns) (sym size) c.await_turns.ensures,
      ap (λ n. (c.args.left + n) % 1024) (sym size),
    )
