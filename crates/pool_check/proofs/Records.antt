-- The record of an open name, test by test: it is refused by the first that fails.
use mathlib.Core.Bool.{Bool}
use mathlib.Core.List.{List}
use mathlib.Core.Path.{◌≡◌, ap}
use Prim.Native.Nat.{ℕ, ◌+◌, ◌-◌, ◌*◌, ◌≤◌}
use native.Mathlib.Omega.{arith}
use Rattle.geometry.specs.Layout.{record_size, kind_marks, most_height, zero_at, spare_at}
use Rattle.geometry.specs.Limits.{least_alphabet, most_alphabet, marks_per_share}
use Rattle.geometry.specs.declared.Record.{Record}
use Rattle.pool.specs.Bytes.{byte, record_at}
use Rattle.pool.specs.Names.{record_of}
use Rattle.pool.specs.Sound.{OpenRecord}
use Rattle.pool_check.specs.Parts.{Zeros}
use Rattle.pool_check.specs.Says.{Says}
use Rattle.pool_check.proofs.Deciding.{say-same}

module _ (p : List ℕ) (name : ℕ) (found : Record) (is : found ≡ record_of p name) where
  same_kind : found.kind ≡ (record_of p name).kind
  same_kind = ap (λ (r : Record). r.kind) is

  same-alphabet : found.alphabet ≡ (record_of p name).alphabet
  same-alphabet = ap (λ (r : Record). r.alphabet) is

  same-height : found.height ≡ (record_of p name).height
  same-height = ap (λ (r : Record). r.height) is

  same-q : found.q ≡ (record_of p name).q
  same-q = ap (λ (r : Record). r.q) is

  same_length : found.length ≡ (record_of p name).length
  same_length = ap (λ (r : Record). r.length) is

  pub record-passed : (at : ℕ) (r : Bool) → at ≡ record_at name → found.kind ≡ kind_marks → least_alphabet ≤ found.alphabet → found.alphabet ≤ most_alphabet → 1 ≤ found.q
      → found.height ≤ most_height
      → found.length ≤ marks_per_share * found.q
      → byte p (at + zero_at) ≡ 0
      → Says r (Zeros p (at + spare_at) (record_size - spare_at))
      → Says r (OpenRecord p name)
  record-passed at r place kind least most promise height room zero spare =
      say-same
      (λ zeros. record {
        kind = omega (arith, same_kind);
        alphabet_least = omega (arith, same-alphabet);
        alphabet_most = omega (arith, same-alphabet);
        promise = omega (arith, same-q);
        height = omega (arith, same-height);
        zero_byte = rw place at zero;
        spare = λ j low high.
            let e : at + spare_at + (j - spare_at) ≡ record_at name + j = omega arith in
            rw e at (zeros (j - spare_at) (omega arith));
        room = omega (arith, same_length, same-q);
      })
      (λ o j low.
      let e : at + spare_at + j ≡ record_at name + (spare_at + j) = omega arith in
      rw e (o.spare (spare_at + j) (omega arith) (omega arith))) spare
