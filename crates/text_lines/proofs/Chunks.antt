-- Any way of cutting an input into chunks gives the same lines; and what is left of a chunk behind a place, and behind a step from it.
use mathlib.Core.Bool.{Bool}
use mathlib.Core.Path.{◌≡◌, refl, ap, sym, ◌∙◌}
use mathlib.Core.List.{List, [], ◌∷◌, ◌++◌, append_assoc}
use Prim.Native.Nat.{ℕ, ◌+◌, ◌-◌, ◌^◌, ◌≤◌, ◌<◌}
use native.Mathlib.Omega.{arith}
use lib.ListN.{length, take, drop}
use mir.Syntax.{w64}
use mir.Val.{Fits}
use Rattle.lists.proofs.Cuts.{length_rest}
use Rattle.text_lines.specs.Lines.{ended, left, last_line, lines_of, joined_chunks, lines_of_chunks}
use Rattle.text_lines.proofs.Cut.{ended-append, left-append}

-- chunks that come after some bytes of a line
pub chunks-after : (r : Bool) (g : List ℕ) (chunks : List (List ℕ)) →
    lines_of_chunks r g chunks ≡ ended r g (joined_chunks chunks) ++ last_line (left g (joined_chunks chunks))
unfolding ended left joined_chunks lines_of_chunks
chunks-after r g [] = refl
chunks-after r g (c ∷ cs) =
    ap (λ (l : List (List ℕ)). ended r g c ++ l) (chunks-after r (left g c) cs)
    ∙ rw (ended-append r g c (joined_chunks cs), left-append g c (joined_chunks cs)) (sym (append_assoc (ended r g c) _ _))

-- chunks that come from the start
pub chunks-lines : (r : Bool) (chunks : List (List ℕ)) → lines_of_chunks r [] chunks ≡ lines_of r (joined_chunks chunks)
unfolding lines_of
chunks-lines r chunks = chunks-after r [] chunks

-- a step from a place takes some of the rest: it stays within the chunk, and less is left
module _ (chunk : List ℕ) (at : ℕ) where
  pub rest_some : at < length chunk → 0 < length (take (length chunk - at) (drop at chunk))
  rest_some below = omega (arith, length_rest chunk at)

  module _ (taken : ℕ) (some-of-rest : taken ≤ length (take (length chunk - at) (drop at chunk))) where
    pub step-within : at < length chunk → at + taken ≤ length chunk
    step-within below = omega (arith, length_rest chunk at)

    pub step_fits : at < length chunk → length chunk < 2 ^ 64 → Fits w64 (at + taken)
    step_fits below long = record { fits = omega (arith, step-within below) }

    pub step_less : at < length chunk → 0 < taken → length chunk - (at + taken) < length chunk - at
    step_less below some = omega arith
