-- The header: a byte with a stretch of zeros behind it.
use mathlib.Core.Bool.{Bool}
use mathlib.Core.List.{List}
use mathlib.Core.Path.{◌≡◌}
use Prim.Native.Nat.{ℕ, ◌+◌, ◌-◌}
use native.Mathlib.Omega.{arith}
use Rattle.geometry.specs.Layout.{layout_number, header_size}
use Rattle.pool.specs.Bytes.{byte}
use Rattle.pool.specs.Sound.{SoundHeader}
use Rattle.pool_check.specs.Parts.{Zeros}
use Rattle.pool_check.specs.Says.{Says}
use Rattle.pool_check.proofs.Deciding.{say-same}

module _ (p : List ℕ) where
  pub same_layout : (r : Bool) → byte p 0 ≡ layout_number → Says r (Zeros p 1 (header_size - 1)) → Says r (SoundHeader p)
  same_layout r layout zeros =
      say-same
      (λ z. record {
        layout = layout;
        zeros = λ j low high. let e : 1 + (j - 1) ≡ j = omega arith in rw e at (z (j - 1) (omega arith));
      })
      (λ header j l. header.zeros (1 + j) (omega arith) (omega arith)) zeros
