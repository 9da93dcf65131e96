use Rattle.std.proofs.Common.{◌≡◌, ◌<◌, ℕ, true, tests, arith, rules}
use Rattle.std.specs.List.{list_all}
use Rattle.std.proofs.lemmas.List.Sums.{AllPass-from_list_all}
use Rattle.std.proofs.lemmas.Str.{IsUtf8-from_ascii}
use Rattle.std.proofs.lemmas.Str.Ascii.{IsAscii-from_all}
use Rattle.qplain.specs.Paths.{is_path_byte}
use Rattle.qsession.proofs.path_text.PathText.new.Goals as goal

below : (byte : ℕ) → is_path_byte byte ≡ true → byte < 128
below byte is = grind (arith, tests, is)

pub from_utf8_unchecked-text-requires : goal.from_utf8_unchecked-text-requires
from_utf8_unchecked-text-requires c =
    let bytes = c.args.bytes.now in
    let all : list_all is_path_byte bytes ≡ true = search rules in
    let each = AllPass-from_list_all is_path_byte bytes all in
    IsUtf8-from_ascii bytes (IsAscii-from_all bytes (λ k d lt. below _ (each k d lt)))
