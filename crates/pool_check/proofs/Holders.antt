-- The map after all names: it starts clear, and each name's blocks are marked with its number plus 1. So each block that is marked is held,
-- new blocks all along are blocks that no name holds twice, and in a sound pool the map says who holds each block.
use mathlib.Core.List.{List}
use mathlib.Core.Logic.{⊎_elim}
use mathlib.Core.Path.{◌≡◌, refl, ◌∙◌}
use Prim.Native.Nat.{ℕ, zero, suc, ◌+◌, ◌≤◌, ◌<◌}
use native.Mathlib.Nat.{eq-zero-or-pos, eq-or-lt_of_le, le_of_suc-le-suc}
use native.Mathlib.Omega.{arith}
use borrow.Author.Tests.{leb-false}
use lib.ListN.{length, get_or}
use Rattle.geometry.specs.Limits.{names}
use Rattle.lists.proofs.Froms.{joined-from}
use Rattle.lists.proofs.Sums.{sum_below-one, sum_below-grows}
use Rattle.lists.specs.Items.{AllBelow}
use Rattle.lists.specs.Sums.{sum_below}
use Rattle.pool.specs.Bytes.{shares}
use Rattle.pool.specs.Names.{blocks_of, held_blocks}
use Rattle.pool.specs.Sound.{Distinct}
use Rattle.pool.proofs.SoundNames.{closed-blocks, open-inside}
use Rattle.sequence.proofs.Counts.{count-additive, all-standing}
use Rattle.sequence.specs.Definition1.{count}
use Rattle.pool_holders.specs.Maps.{MapOf}
use Rattle.pool_check.specs.Walks.{New, map_to}
use Rattle.pool_check.specs.Parts.{SoundName}
use Rattle.pool_check.proofs.Marked.{meet-length, meet-other, meet-same, new-clear, new-distinct, distinct-new}

-- how often a block stands among those of the names below n
abbrev times : List ℕ → ℕ → ℕ → ℕ
times p b n = sum_below n (λ name. count b (blocks_of p name))

pub times-held : (p : List ℕ) (b : ℕ) → count b (held_blocks p) ≡ times p b names
times-held p b = joined-from (count b) (count-additive b) (blocks_of p) (λ name. name) names

-- a sound name's blocks are the pool's
pub name-inside : (p : List ℕ) (name : ℕ) → SoundName p name → AllBelow (shares p) (blocks_of p name)
name-inside p name sound = ⊎_elim (λ closed. rw (closed-blocks p name closed) tt) (λ o. open-inside p name o) sound

module _ (p map : List ℕ) (clear : (b : ℕ) → get_or map b 0 ≡ 0) where
  pub map-length : (n : ℕ) → length (map_to p map n) ≡ length map
  map-length zero = refl
  map-length (suc n) = meet-length (n + 1) (map_to p map n) (blocks_of p n) ∙ map-length n

  -- a block of no name below n, of some name, and of one name alone
  none-to : (n b : ℕ) → times p b n ≡ 0 → get_or (map_to p map n) b 0 ≡ 0
  unfolding sum_below
  none-to zero b none = clear b
  none-to (suc n) b none = meet-other (n + 1) (map_to p map n) (blocks_of p n) b (omega arith) ∙ none-to n b (omega arith)

  some_to : (n b : ℕ) → b < length map → 1 ≤ times p b n → 1 ≤ get_or (map_to p map n) b 0
  unfolding sum_below
  some_to zero b inside some = absurd (omega arith)
  some_to (suc n) b inside some =
      ⊎_elim
      (λ (none : count b (blocks_of p n) ≡ 0).
      omega (arith, meet-other (n + 1) (map_to p map n) (blocks_of p n) b none, some_to n b inside (omega arith)))
      (λ (more : 0 < count b (blocks_of p n)).
      omega (arith, meet-same (n + 1) (map_to p map n) (blocks_of p n) b (omega (arith, map-length n)) more))
      (eq-zero-or-pos (count b (blocks_of p n)))

  one-to : (n b name : ℕ) → b < length map → name < n → 1 ≤ count b (blocks_of p name) → times p b n ≤ 1 → get_or (map_to p map n) b 0 ≡ name + 1
  unfolding sum_below
  one-to zero b name inside low some once = absurd (omega arith)
  one-to (suc n) b name inside low some once =
      ⊎_elim
      (λ (last : name ≡ n). rw last (meet-same (n + 1) (map_to p map n) (blocks_of p n) b (omega (arith, map-length n)) (rw last at some)))
      (λ (before : name < n).
      let few : count b (blocks_of p n) ≡ 0 = omega (arith, sum_below-one n (λ x. count b (blocks_of p x)) name before) in
      meet-other (n + 1) (map_to p map n) (blocks_of p n) b few ∙ one-to n b name inside before some (omega arith)) (eq-or-lt_of_le (le_of_suc-le-suc low))

  -- names walked in turn, each with new blocks alone, hold no block twice
  once-to : (n b : ℕ) → ((name : ℕ) → name < n → AllBelow (length map) (blocks_of p name))
      → ((name : ℕ) → name < n → New (name + 1) (map_to p map name) (blocks_of p name))
      → times p b n ≤ 1
  unfolding sum_below
  once-to zero b inside new = omega arith
  once-to (suc n) b inside new =
      let fresh = new n (omega arith) in
      let before : times p b n ≤ 1 = once-to n b (λ name l. inside name (omega arith)) (λ name l. new name (omega arith)) in
      let within : AllBelow (length (map_to p map n)) (blocks_of p n) = rw (map-length n) (inside n (omega arith)) in
      let one : count b (blocks_of p n) ≤ 1 = new-distinct (n + 1) (map_to p map n) (blocks_of p n) (omega arith) within fresh b in
      ⊎_elim (λ (none : times p b n ≡ 0). omega arith)
      (λ (some : 0 < times p b n).
      ⊎_elim (λ (none : count b (blocks_of p n) ≡ 0). omega arith)
      (λ (more : 0 < count b (blocks_of p n)).
      let low : b < length map = all-standing (λ x. x < length map) (blocks_of p n) b more (inside n (omega arith)) in
      absurd (omega (arith, some_to n b low some, new-clear (n + 1) (map_to p map n) (blocks_of p n) fresh b more)))
      (eq-zero-or-pos (count b (blocks_of p n)))) (eq-zero-or-pos (times p b n))

  pub held-apart : ((name : ℕ) → name < names → AllBelow (length map) (blocks_of p name))
      → ((name : ℕ) → name < names → New (name + 1) (map_to p map name) (blocks_of p name))
      → Distinct (held_blocks p)
  held-apart inside new b = omega (arith, times-held p b, once-to names b inside new)

  -- the other way round
  module _ (apart : Distinct (held_blocks p)) where
    once : (b : ℕ) → times p b names ≤ 1
    once b = omega (arith, apart b, times-held p b)

    earlier : (n name b : ℕ) → n ≤ name → name < names → 1 ≤ count b (blocks_of p name) → times p b n ≡ 0
    unfolding sum_below
    earlier n name b low high some =
        let stands : ℕ → ℕ = λ x. count b (blocks_of p x) in
        omega (arith, once b, sum_below-grows stands n name low, sum_below-grows stands (suc name) names high)

    pub apart-new : (name : ℕ) → name < names → New (name + 1) (map_to p map name) (blocks_of p name)
    apart-new name low =
        distinct-new (name + 1) (map_to p map name) (blocks_of p name) (λ b. omega (arith, once b, sum_below-one names (λ x. count b (blocks_of p x)) name low))
        (λ b some. none-to name b (earlier name name b (omega arith) low some))

    pub map_of : shares p ≤ length map → MapOf p (map_to p map names)
    map_of fits = record {
      free = λ b low none. none-to names b (omega (arith, leb-false 1 (count b (held_blocks p)) none, times-held p b));
      held = λ b name low named some. one-to names b name (omega arith) named some (once b);
    }
