-- A leaf's marks filled up: counted to any place, a symbol stands in both equally often. A place behind the leaf's marks adds to neither, since
-- what stands there is no symbol.
use mathlib.Core.List.{List}
use mathlib.Core.Path.{◌≡◌, refl, sym, ap, ◌∙◌}
use Prim.Native.Nat.{ℕ, suc, ◌+◌, ◌-◌, ◌≤◌, ◌<◌}
use native.Mathlib.Nat.{le_refl}
use native.Mathlib.Numerals.{add-one}
use native.Mathlib.Omega.{arith}
use lib.ListN.{length, get_or, set, take, length-set}
use lib.Seq.{take_all, take-set-le, get_or-set_same}
use Rattle.geometry.specs.Layout.{count_at, most_leaf}
use Rattle.geometry.specs.Limits.{block_size, most_alphabet}
use Rattle.lists.proofs.Measures.{measure-step}
use Rattle.pool.specs.Blocks.{entries, leaf_marks}
use Rattle.pool.specs.Bytes.{byte, word, shares, block_at}
use Rattle.sequence.proofs.Counts.{is_mark-other, count-one, count-additive}
use Rattle.sequence.specs.Definition1.{is_mark, count}
use Rattle.pool.proofs.Blocks.{leaf-mark}
use Rattle.pool_check.specs.Parts.{Padded}
use Rattle.pool_check.proofs.Leaves.{length-marks}

-- what the code puts behind the marks
abbrev no_symbol : ℕ
no_symbol = 255

-- so many places are filled
pub record PaddedTo (leaf marks : List ℕ) (i : ℕ) : Type 0 where
  pub counts : (c : ℕ) → c < most_alphabet → count c (take i marks) ≡ count c (take i leaf)

module _ (leaf marks : List ℕ) where
  module _ (i x : ℕ) (room : i < length marks) (before : PaddedTo leaf marks i) where
    -- one place more counts what was put there
    counted : (c : ℕ) → count c (take (suc i) (set marks i x)) ≡ count c (take i marks) + is_mark c x
    counted c =
        rw (take-set-le i marks i x (le_refl i), get_or-set_same marks i x 0 room, count-one) at
        (measure-step (count c) (count-additive c) (set marks i x) i (rw length-set room))

    padded-mark : i < length leaf → x ≡ get_or leaf i 0 → PaddedTo leaf (set marks i x) (i + 1)
    padded-mark low is = record {
      counts = λ c l. rw add-one (omega (arith, counted c, before.counts c l, count-one c (get_or leaf i 0), ap (is_mark c) is, measure-step (count c) (count-additive c) leaf i low));
    }

    padded-behind : length leaf ≤ i → (x < most_alphabet → ⊥) → PaddedTo leaf (set marks i x) (i + 1)
    padded-behind past none = record {
      counts = λ c l.
          let other : is_mark c x ≡ 0 = is_mark-other c x (λ (e : x ≡ c). none (omega arith)) in
          let same : count c (take i marks) ≡ count c leaf = rw (take_all i leaf past) at (before.counts c l) in
          rw (add-one, take_all (suc i) leaf (omega arith)) (omega (arith, counted c));
    }

  pub padded-all : (i : ℕ) → length marks ≡ block_size → length leaf ≤ block_size → i ≤ block_size → block_size ≤ i → PaddedTo leaf marks i → Padded leaf marks
  padded-all i long fits low end all = record {
    long = long;
    counts = λ c l. rw (take_all i marks (omega arith), take_all i leaf (omega arith)) at (all.counts c l);
  }

-- A leaf's size is the low byte of its word, so the places left tell whether one stands behind the marks.
module _ (p : List ℕ) (b at : ℕ) (place : at ≡ block_at b) (inside : b < shares p) (fits : entries p b ≤ most_leaf) where
  low_byte : byte p (at + count_at) ≡ entries p b
  unfolding word
  low_byte = rw place (omega arith)

  pub low-byte-fits : byte p (at + count_at) ≤ block_size
  low-byte-fits = omega (arith, low_byte)

  long-leaf : length (leaf_marks p b) ≡ entries p b
  long-leaf = length-marks p b (entries p b) inside refl fits

  module _ (marks : List ℕ) (i left : ℕ) (long : length marks ≡ block_size) (low : i < block_size) (here : left ≡ block_size - i)
      (before : PaddedTo (leaf_marks p b) marks i) where
    pub next-mark : (x : ℕ) → x ≡ byte p (at + i) → block_size - byte p (at + count_at) < left → PaddedTo (leaf_marks p b) (set marks i x) (i + 1)
    next-mark x is ahead =
        let within : i < entries p b = omega (arith, low_byte) in
        padded-mark (leaf_marks p b) marks i x (omega arith) before (omega (arith, long-leaf)) (rw place at is ∙ sym (leaf-mark p b i within))

    pub next-behind : (x : ℕ) → x ≡ no_symbol → left ≤ block_size - byte p (at + count_at) → PaddedTo (leaf_marks p b) (set marks i x) (i + 1)
    next-behind x is behind =
        padded-behind (leaf_marks p b) marks i x (omega arith) before (omega (arith, low_byte, long-leaf)) (λ (l : x < most_alphabet). omega arith)

  pub padded-leaf : (marks : List ℕ) (i : ℕ) → length marks ≡ block_size → i ≤ block_size → block_size ≤ i → PaddedTo (leaf_marks p b) marks i
      → Padded (leaf_marks p b) marks
  padded-leaf marks i long low end all = padded-all (leaf_marks p b) marks i long (omega (arith, long-leaf)) low end all
