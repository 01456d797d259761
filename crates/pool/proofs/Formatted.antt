-- A formatted pool is sound, and stands for a state with every name closed: all its bytes but the first are 0.
use mathlib.Core.Path.{◌≡◌, refl, ap, ap₂}
use mathlib.Core.List.{List}
use mathlib.Core.Logic.{⊎_elim, inl}
use Prim.Native.Nat.{ℕ, zero, suc, ◌+◌, ◌-◌, ◌/◌, ◌≤◌, ◌<◌}
use native.Mathlib.Nat.{eq-zero-or-pos}
use native.Mathlib.Omega.{arith}
use lib.ListN.{length, replicate, length-replicate, get_or-replicate, get_or-eq_default}
use Rattle.geometry.specs.Limits.{names, block_size, directory_size}
use Rattle.geometry.specs.declared.Record.{Record}
use Rattle.lists.proofs.Froms.{from-same, joined-from}
use Rattle.lists.proofs.Sums.{sum_below-zero, sum_below-same}
use Rattle.lists.specs.Froms.{from}
use Rattle.protocol.specs.State as State
use Rattle.sequence.specs.Definition1.{count}
use Rattle.sequence.proofs.Counts.{count-additive}
use Rattle.shape.specs.Trees.{Tree}
use Rattle.pool.specs.Bytes.{byte, record_at}
use Rattle.pool.specs.Formatted.{formatted}
use Rattle.pool.specs.Meaning.{meaning_of, meaning}
use Rattle.pool.specs.Names.{record_of, blocks_of}
use Rattle.pool.specs.Shares.{promised_shares}
use Rattle.pool.specs.Sound.{LengthAllowed, ClosedName, Sound}
use Rattle.pool.proofs.SoundNames.{closed-blocks}
use Rattle.pool.proofs.Meaning.{closed-meaning}
use Rattle.pool.proofs.Written.{closed-record}

module _ (bytes : ℕ) (allowed : LengthAllowed bytes) where
  pub length-formatted : length (formatted bytes) ≡ bytes
  unfolding formatted
  length-formatted = omega (arith, length-replicate {A = ℕ} (bytes - 1) 0, allowed)

  pub rest-zero : (j : ℕ) → 1 ≤ j → byte (formatted bytes) j ≡ 0
  unfolding formatted
  rest-zero zero one = absurd (omega arith)
  rest-zero (suc j) one =
      ⊎_elim (λ (e : bytes - 1 - j ≡ 0). get_or-eq_default (replicate (bytes - 1) 0) 0 (omega (arith, length-replicate {A = ℕ} (bytes - 1) 0)))
      (λ (l : 0 < bytes - 1 - j). get_or-replicate (bytes - 1) j 0 0 (omega arith)) (eq-zero-or-pos (bytes - 1 - j))

  pub all_closed : (name : ℕ) → ClosedName (formatted bytes) name
  all_closed name j l = rest-zero (record_at name + j) (omega arith)

  pub formatted-sound : Sound (formatted bytes)
  unfolding formatted promised_shares count
  formatted-sound =
      let p : List ℕ = formatted bytes in
      record {
        allowed = rw length-formatted allowed;
        header = record { layout = refl; zeros = λ j one l. rest-zero j one };
        each = λ name low. inl (all_closed name);
        apart = λ b.
            omega (
              arith,
              joined-from (count b) (count-additive b) (blocks_of p) (λ name. name) names,
              sum_below-same names (λ name. count b (blocks_of p name)) (λ name. 0) (λ name l. ap (count b) (closed-blocks p name (all_closed name))),
              sum_below-zero names,
            );
        promised =
            omega (arith, sum_below-same names (λ name. (record_of p name).q) (λ name. 0) (λ name l. ap (λ (r : Record). r.q) (closed-record p name (all_closed name))), sum_below-zero names);
      }

  pub formatted-meaning : meaning (formatted bytes) ≡ State.fresh_state {A = Tree} ((bytes - directory_size) / block_size)
  unfolding from
  formatted-meaning =
      ap₂ {C = State.State Tree} (λ n parts. record { shares = n; parts = parts }) (ap (λ n. (n - directory_size) / block_size) length-formatted)
      (from-same (meaning_of (formatted bytes)) (λ name. State.closed) 0 names (λ name _ _. closed-meaning (formatted bytes) name (all_closed name)))
