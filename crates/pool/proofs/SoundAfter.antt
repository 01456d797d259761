-- A pool is sound after a change of one name, where that name is sound again, nobody else holds its blocks, and its shares are there.
-- The other names are as they were; counts of blocks and sums of shares change by what that name's changed.
use mathlib.Core.Path.{◌≡◌, ap, ◌∙◌}
use mathlib.Core.List.{List}
use mathlib.Core.Logic.{◌⊎◌, ⊎_elim}
use Prim.Native.Nat.{ℕ, ◌+◌, ◌≤◌, ◌<◌}
use native.Mathlib.Nat.{eq-zero-or-pos}
use native.Mathlib.Omega.{arith}
use lib.ListN.{length}
use Rattle.geometry.specs.Layout.{header_size}
use Rattle.geometry.specs.Limits.{names}
use Rattle.lists.proofs.Froms.{joined-from}
use Rattle.lists.proofs.Sums.{sum_below-change}
use Rattle.lists.specs.Items.{All}
use Rattle.sequence.specs.Definition1.{count}
use Rattle.sequence.proofs.Counts.{is_mark-cases, count-additive, all-standing}
use Rattle.pool.specs.Bytes.{byte}
use Rattle.pool.specs.Names.{record_of, blocks_of, held_blocks}
use Rattle.pool.specs.Shares.{promised_shares, unpromised_shares}
use Rattle.pool.specs.Sound.{ClosedName, OpenName, Distinct, Sound}
use Rattle.pool.specs.Untouched.{Untouched}
use Rattle.pool.proofs.Untouched.{record-kept, blocks-of-untouched, name-untouched}

module _ (p p' : List ℕ) (x : ℕ) (low : x < names) (sound : Sound p) (others : (y : ℕ) → y < names → (y ≡ x → ⊥) → Untouched y p p') where
  pub held_after : (b : ℕ) → count b (held_blocks p') + count b (blocks_of p x) ≡ count b (held_blocks p) + count b (blocks_of p' x)
  held_after b =
      omega (
        arith,
        joined-from (count b) (count-additive b) (blocks_of p) (λ name. name) names,
        joined-from (count b) (count-additive b) (blocks_of p') (λ name. name) names,
        sum_below-change names (λ name. count b (blocks_of p' name)) (λ name. count b (blocks_of p name)) x low
            (λ y l other. ap (count b) (blocks-of-untouched y p p' (others y l other) (sound.each y l))),
      )

  pub promised-after : promised_shares p' + (record_of p x).q ≡ promised_shares p + (record_of p' x).q
  unfolding promised_shares
  promised-after =
      sum_below-change names (λ name. (record_of p' name).q) (λ name. (record_of p name).q) x low
      (λ y l other. ap (λ r. r.q) (record-kept y p p' (others y l other).entry))

  pub sound-after : length p' ≡ length p → ((j : ℕ) → j < header_size → byte p' j ≡ byte p j) → ClosedName p' x ⊎ OpenName p' x
      → Distinct (blocks_of p' x) → All (λ b. count b (held_blocks p) ≤ count b (blocks_of p x)) (blocks_of p' x)
      → (record_of p' x).q ≤ unpromised_shares p + (record_of p x).q → Sound p'
  sound-after long header again distinct own room = record {
    allowed = rw long sound.allowed;
    header = record { layout = header 0 (omega arith) ∙ sound.header.layout; zeros = λ j one l. header j l ∙ sound.header.zeros j one l };
    each = λ y l. ⊎_elim (λ w. rw w.0 again) (λ w. name-untouched y p p' (others y l w.0) (sound.each y l)) (is_mark-cases x y);
    apart = λ b.
        ⊎_elim (λ (none : count b (blocks_of p' x) ≡ 0). omega (arith, held_after b, sound.apart b))
        (λ (some : 0 < count b (blocks_of p' x)).
        omega (arith, held_after b, distinct b, all-standing (λ c. count c (held_blocks p) ≤ count c (blocks_of p x)) (blocks_of p' x) b some own))
        (eq-zero-or-pos (count b (blocks_of p' x)));
    promised = omega (arith, promised-after, sound.promised);
  }
