-- A map that fits its pool: it still does after an edit, which changes the length of neither.
use mathlib.Core.Path.{◌≡◌}
use mathlib.Core.List.{List}
use Prim.Native.Nat.{ℕ}
use native.Mathlib.Omega.{arith}
use lib.ListN.{length}
use Rattle.pool_holders.specs.Maps.{MapFits}

pub fits_after : (p q m n : List ℕ) → length q ≡ length p → length n ≡ length m → MapFits p m → MapFits q n
fits_after p q m n long_pool long_map fits =
    record { blocks = omega (arith, fits.blocks); longest = omega (arith, fits.longest) }
