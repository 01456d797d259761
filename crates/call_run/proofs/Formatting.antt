-- A pool cleared whole, with the layout's number put in front, is a formatted one, byte by byte.
use mathlib.Core.Bool.{Bool, true, false}
use mathlib.Core.Path.{◌≡◌, refl, sym, ap, ◌∙◌}
use mathlib.Core.List.{List}
use Prim.Native.Nat.{ℕ, zero, suc, ◌-◌, ◌<◌}
use native.Mathlib.Nat.{zero-add}
use native.Mathlib.Omega.{arith}
use lib.ListN.{length, get_or, get_or-replicate}
use lib.Seq.{ext_get_or}
use Rattle.geometry.specs.Layout.{layout_number}
use Rattle.pool.specs.Bytes.{byte}
use Rattle.pool.specs.Formatted.{formatted}
use Rattle.pool.specs.Sound.{LengthAllowed}
use Rattle.pool.specs.Words.{Cleared, PutByte}
use Rattle.pool.proofs.Formatted.{length-formatted}
use Rattle.pool_check.specs.Says.{Says}
use Rattle.pool_check.proofs.Deciding.{denied}
use Rattle.call_run.specs.Calls.{Formats}

-- the length isn't allowed
pub format-refused : (p : List ℕ) (said : Bool) → Says said (LengthAllowed (length p)) → said ≡ false → Formats p 101 p
format-refused p said says not = record { allowed = λ a. absurd (denied says not a); refused = λ n. (refl, refl) }

module _ (p m : List ℕ) (said : Bool) (says : Says said (LengthAllowed (length p))) (good : said ≡ true) (cleared : Cleared 0 (length p) p m) where
  -- there is a byte for the layout's number
  pub byte-there : 0 < length m
  byte-there = omega (arith, (says.sound good).shortest, cleared.same.long)

  module _ (q : List ℕ) (put : PutByte 0 layout_number m q) where
    same_bytes : (i : ℕ) → i < length q → get_or q i 0 ≡ get_or (formatted (length p)) i 0
    unfolding formatted
    same_bytes zero l = put.put
    same_bytes (suc i) l =
        put.same.high (suc i) (omega arith)
        ∙ ap (byte m) (sym (zero-add (suc i)))
        ∙ cleared.zeros (suc i) (omega (arith, put.same.long, cleared.same.long))
        ∙ sym (get_or-replicate (length p - 1) i 0 0 (omega (arith, put.same.long, cleared.same.long)))

    long : length q ≡ length (formatted (length p))
    long = put.same.long ∙ cleared.same.long ∙ sym (length-formatted (length p) (says.sound good))

    -- the length is allowed
    pub format-done : Formats p 0 q
    format-done =
        record {
          allowed = λ a. (refl, ext_get_or 0 q (formatted (length p)) long same_bytes);
          refused = λ not. absurd (not (says.sound good));
        }
