-- The bytes of names are text.
use Rattle.std.proofs.Common.{◌≡◌, ℕ, ◌<◌, true, List, IsUtf8, arith, tests}
use Rattle.std.specs.List.{list_all}
use Rattle.std.proofs.lemmas.List.Sums.{AllPass-from_list_all}
use Rattle.std.proofs.lemmas.Str.{IsUtf8-from_ascii}
use Rattle.std.proofs.lemmas.Str.Ascii.{IsAscii-from_all}
use Rattle.qplain.specs.Paths.{is_path_byte}

below : (byte : ℕ) → is_path_byte byte ≡ true → byte < 128
below byte is = grind (arith, tests, is)

pub path_bytes_are_utf8 : (bytes : List ℕ) → list_all is_path_byte bytes ≡ true → IsUtf8 bytes
path_bytes_are_utf8 bytes all = IsUtf8-from_ascii bytes (IsAscii-from_all bytes (λ k d lt. below _ (AllPass-from_list_all is_path_byte bytes all k d lt)))
