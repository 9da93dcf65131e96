-- How many bytes go on from a place on, counted 16 at a time.
use Rattle.std.proofs.Common.{◌≡◌, ℕ, ◌+◌, ◌≤◌, ◌<◌, Bool, false, not, cond, eqb, List, [], ◌∷◌, length, drop, map, refl, sym, ap, ◌∙◌, arith, w8}
use Rattle.std.specs.List.{prefix_len}
use Rattle.std.proofs.lemmas.Bool.Decides.{nat_tests}
use Rattle.std.proofs.lemmas.Simd.{leading_from_mask_l, trailing_mask_l, length-chunk, chunk-drop}
use Rattle.std.proofs.lemmas.List.Folds.{prefix_len-append}
use Rattle.std.proofs.lemmas.List.Sums.{prefix_len-le-length}
use lib.Count.{count_trailing_zeros}
use lib.Lanes.{Each1, chunk, mask_l}
use mir.Val.{Fits}

-- 16 lanes of which a mask tells those that stop
module _ (goes_on stops : ℕ → Bool) (agree : (b : ℕ) → Fits w8 b → not (stops b) ≡ goes_on b) where
  same_run : (v : List ℕ) → Each1 (Fits w8) v → prefix_len (λ b. not (stops b)) v ≡ prefix_len goes_on v
  same_run [] small = refl
  same_run (b ∷ v) small = rw (agree b small.0, same_run v small.1) refl

  pub run_whole : (v : List ℕ) (mask : ℕ) → length v ≡ 16 → Each1 (Fits w8) v → mask ≡ mask_l (map stops v)
      → mask ≡ 0 → 16 ≡ prefix_len goes_on v
  run_whole v mask long small is none =
      sym (sym (same_run v small) ∙ leading_from_mask_l stops v (sym is ∙ none) ∙ long)

  pub run_stopped : (v : List ℕ) (mask : ℕ) → length v ≡ 16 → Each1 (Fits w8) v → mask ≡ mask_l (map stops v)
      → 0 < mask → count_trailing_zeros 64 mask ≡ prefix_len goes_on v
  run_stopped v mask long small is some =
      let here : 0 < mask_l (map stops v) = rw is at some in
      ap (count_trailing_zeros 64) is ∙ trailing_mask_l stops 64 v (omega arith) here ∙ same_run v small

-- a run of 16 lanes, and so of the bytes from there on
module _ (goes_on : ℕ → Bool) where
  pub run_few : (v : List ℕ) (run : ℕ) → length v ≡ 16 → run ≡ prefix_len goes_on v → run ≤ 16
  run_few v run long is = omega (arith, prefix_len-le-length goes_on v)

  whole_or_not : (bytes : List ℕ) (at : ℕ) → at + 16 ≤ length bytes → prefix_len goes_on (drop at bytes)
      ≡ cond (eqb (prefix_len goes_on (chunk at 16 bytes)) 16) (16 + prefix_len goes_on (drop (at + 16) bytes))
      (prefix_len goes_on (chunk at 16 bytes))
  whole_or_not bytes at le =
      ap (prefix_len goes_on) (chunk-drop at 16 bytes)
      ∙ prefix_len-append goes_on (chunk at 16 bytes) (drop (at + 16) bytes)
      ∙ rw (length-chunk at 16 bytes le) refl

  pub run_goes_on : (bytes : List ℕ) (at run : ℕ) → at + 16 ≤ length bytes → run ≡ prefix_len goes_on (chunk at 16 bytes)
      → run ≡ 16 → prefix_len goes_on (drop at bytes) ≡ 16 + prefix_len goes_on (drop (at + 16) bytes)
  run_goes_on bytes at run le is whole = whole_or_not bytes at le ∙ rw (← is, whole) refl

  pub run_ends : (bytes : List ℕ) (at run : ℕ) → at + 16 ≤ length bytes → run ≡ prefix_len goes_on (chunk at 16 bytes)
      → run < 16 → prefix_len goes_on (drop at bytes) ≡ run
  run_ends bytes at run le is lt =
      let short : eqb run 16 ≡ false = grind (arith, nat_tests) in
      whole_or_not bytes at le ∙ rw (← is, short) refl
