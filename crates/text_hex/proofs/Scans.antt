-- What the loop that reads a number knows at each turn: reading on gives the whole, and the number so far fits.
use mathlib.Core.Path.{◌≡◌, refl, sym, ◌∙◌}
use mathlib.Core.Bool.{true}
use mathlib.Core.List.{List}
use Prim.Native.Nat.{ℕ, ◌+◌, ◌*◌, ◌^◌, ◌≤◌, ◌<◌}
use native.Mathlib.Omega.{arith}
use lib.ListN.{length, get_or, drop}
use mir.Syntax.{w32}
use mir.Val.{Fits}
use Rattle.text_hex.specs.Digits.{value_of, all_digits, number_after, number_of_digits}
use Rattle.text_hex.proofs.Digits.{number-from, number-grows, number_fits}

module _ (bytes : List ℕ) (i : ℕ) where
  -- the next digit keeps the whole number
  pub number_at : (number value : ℕ) → number_after number (drop i bytes) ≡ number_of_digits bytes → i < length bytes → value ≡ value_of (get_or bytes i 0)
      → number_after (number * 16 + value) (drop (i + 1) bytes) ≡ number_of_digits bytes
  number_at number value so_far below is = rw is (sym (number-from number bytes i below) ∙ so_far)

  -- and the number with it is at most the whole one, which fits
  pub number-so-far-fits : (number value : ℕ) → number_after number (drop i bytes) ≡ number_of_digits bytes → i < length bytes → value ≡ value_of (get_or bytes i 0)
      → length bytes ≤ 8 → all_digits bytes ≡ true → number * 16 + value < 2 ^ 32
  number-so-far-fits number value so_far below is few digits =
      omega (
        arith,
        number_at number value so_far below is,
        number-grows (number * 16 + value) (drop (i + 1) bytes),
        number_fits bytes 8 few digits,
      )

  pub number-shifted-fits : (number : ℕ) → number_after number (drop i bytes) ≡ number_of_digits bytes → i < length bytes → length bytes ≤ 8 → all_digits bytes ≡ true
      → Fits w32 (number * 16)
  number-shifted-fits number so_far below few digits =
      record { fits = omega (arith, number-so-far-fits number (value_of (get_or bytes i 0)) so_far below refl few digits) }
