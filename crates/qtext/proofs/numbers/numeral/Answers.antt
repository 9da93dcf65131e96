use Rattle.std.proofs.Common.{sym}
use Rattle.std.proofs.lemmas.Bool.{eqb-true}
use Rattle.qtext.proofs.Numerals.{read_empty, read_zero, read_longer_zero, read_digits, read_short, some_length}
use Rattle.qtext.proofs.numbers.numeral.Goals as goal

pub returns-then-is_empty : goal.returns-then-is_empty
returns-then-is_empty c = read_empty c.args.word.now (eqb-true _ _ (sym c.if-is_empty.ensures))

pub returns-then-word-eq1 : goal.returns-then-word-eq1
returns-then-word-eq1 c = read_zero c.args.word.now c.if-word-eq48.true c.if-word-eq1.true

pub returns-else-word-eq1 : goal.returns-else-word-eq1
returns-else-word-eq1 c = read_longer_zero c.args.word.now (some_length _ c.if-is_empty.ensures) c.if-word-eq48.true c.if-word-eq1.false

pub returns : goal.returns
returns c = read_digits c.args.word.now _ (some_length _ c.if-is_empty.ensures) c.if-word-eq48.false c.long_value.ensures

pub returns-then-word-le-SHORT : goal.returns-then-word-le-SHORT
returns-then-word-le-SHORT c = read_short c.args.word.now _ (some_length _ c.if-is_empty.ensures) c.if-word-eq48.false c.short_value.ensures
