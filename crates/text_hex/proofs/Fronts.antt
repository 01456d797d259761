-- A buffer after a piece was pasted into it: its front with the piece, what stands behind, and its length.
use mathlib.Core.Path.{◌≡◌, sym, ap, ◌∙◌}
use mathlib.Core.List.{List, ◌++◌}
use Prim.Native.Nat.{ℕ, ◌+◌, ◌≤◌}
use native.Mathlib.Omega.{arith}
use lib.ListN.{length, take, drop}
use lib.Seq.{take_all, paste, take-paste, drop-paste, length-paste}

module _ (out out' put : List ℕ) (at size next : ℕ) (ends : at + size ≡ next) (long : length put ≡ size) (room : next ≤ length out)
    (is : out' ≡ paste out at put size) where
  pub front-with : take next out' ≡ take at out ++ put
  front-with =
      ap (λ k. take k out') (sym ends)
      ∙ ap (take (at + size)) is
      ∙ take-paste out at put size (omega arith) (omega arith)
      ∙ ap (λ l. take at out ++ l) (take_all size put (omega arith))

  pub back-with : drop next out' ≡ drop next out
  back-with =
      ap (λ k. drop k out') (sym ends)
      ∙ ap (drop (at + size)) is
      ∙ drop-paste out at put size (omega arith) (omega arith)
      ∙ ap (λ k. drop k out) ends

  pub long-with : length out' ≡ length out
  long-with = ap length is ∙ length-paste out at put size (omega arith) (omega arith)
