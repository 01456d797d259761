-- A leaf's bytes looked at many at once: counted over the whole block, where places past the one asked for don't count, and passed by
-- sixteens until those left to find are among the next.
use mathlib.Core.Path.{◌≡◌, refl, sym, ap, ap₂, ◌∙◌}
use mathlib.Core.List.{List, [], ◌++◌}
use mathlib.Core.Logic.{⊎_elim}
use Prim.Native.Nat.{ℕ, zero, suc, ◌+◌, ◌-◌, ◌*◌, ◌/◌, ◌≤◌, ◌<◌, min}
use native.Mathlib.Nat.{eq-zero-or-pos, mul-zero, mul-suc}
use native.Mathlib.Omega.{arith}
use lib.ListN.{length, get_or, take, drop, length-take, length-drop}
use lib.Seq.{take-take, take_all, drop-drop}
use Rattle.std.proofs.Common.{take-append-drop}
use Rattle.std.specs.Simd.{first_chunks}
use Rattle.geometry.specs.Limits.{block_size}
use Rattle.lists.proofs.Cuts.{cut-get_or}
use Rattle.sequence.specs.Definition1.{is_mark, count, rank, select}
use Rattle.sequence.proofs.Counts.{is_mark-same, is_mark-other, count-take-le}
use Rattle.sequence.proofs.Ranks.{count-stretch-step}
use Rattle.sequence.proofs.Seams.{select-right}
use Rattle.sequence.proofs.Selects.{select-le-length}
use Rattle.pool.specs.Blocks.{entries, leaf_marks}
use Rattle.pool.specs.Bytes.{byte, block_at}
use Rattle.pool.specs.Words.{byte_limit, address_limit}
use Rattle.pool_blocks.specs.Contents.{LeafAt}
use Rattle.pool_blocks.proofs.Leaves.{leaf-size}

-- how many of the first k bytes from a on are c, those past the i-th left out
abbrev pub met-in : List ℕ → ℕ → ℕ → ℕ → ℕ → ℕ
met-in p a c i k = count c (take (min k i) (drop a p))

module _ (p : List ℕ) (a c i k : ℕ) where
  met-few : met-in p a c i k ≤ min k i
  met-few = count-take-le c (min k i) (drop a p)

  -- a place within counts if it bears c
  within : k < i → a + k < length p → met-in p a c i (k + 1) ≡ met-in p a c i k + is_mark c (byte p (a + k))
  within before inside =
      let later : min (k + 1) i ≡ a + k + 1 - a = omega arith in
      let here : min k i ≡ a + k - a = omega arith in
      rw (later, here) (count-stretch-step c p a (a + k) (omega arith) inside)

  -- a place past the i-th doesn't
  past : (met : ℕ) → i ≤ k → met ≡ met-in p a c i k → met ≡ met-in p a c i (k + 1)
  past met behind is =
      let same : min k i ≡ min (k + 1) i = omega arith in
      is ∙ ap (λ (n : ℕ). count c (take n (drop a p))) same

-- none is met before the first
pub met-none : (p : List ℕ) (a c i : ℕ) → 0 ≡ met-in p a c i 0
unfolding count
met-none p a c i =
    let none : 0 ≡ min 0 i = omega arith in
    ap (λ (n : ℕ). count c (take n (drop a p))) none

-- the bytes of a block, as a loop goes over them
abbrev pub block_bytes : List ℕ → ℕ → List ℕ
block_bytes p at = take (at + block_size - at) (drop at p)

-- in a leaf whose place was computed
module _ (p : List ℕ) (b at : ℕ) (leaf : LeafAt p b) (place : at ≡ block_at b) where
  pub whole-block : length (block_bytes p at) ≡ block_size
  whole-block = omega (arith, length-take (at + block_size - at) (drop at p), length-drop at p, leaf.inside)

  module _ (c i k met : ℕ) (is : met ≡ met-in p at c i k) where
    -- what is met fits a byte
    pub met-more : k < length (block_bytes p at) → met + 1 < byte_limit
    met-more more = omega (arith, met-few p at c i k, whole-block)

    -- one place more: places past the i-th have no more left than stand behind it
    module _ (left met' : ℕ) (rest : left ≡ block_size - k) (more : k < length (block_bytes p at)) where
      low : k < block_size
      low = omega (arith, whole-block)

      byte-is : get_or (block_bytes p at) k 0 ≡ byte p (at + k)
      byte-is = cut-get_or p at (at + block_size - at) k (omega (arith, low))

      pub met-same : get_or (block_bytes p at) k 0 ≡ c → block_size - i < left → met' ≡ met + 1 → met' ≡ met-in p at c i (k + 1)
      met-same e before next =
          omega (arith, within p at c i k (omega arith) (omega (arith, low, leaf.inside)), is_mark-same c (byte p (at + k)) (sym byte-is ∙ e))

      pub met-past : left ≤ block_size - i → met' ≡ met → met' ≡ met-in p at c i (k + 1)
      met-past behind next = next ∙ past p at c i k met (omega (arith, low)) is

      pub met-other : (get_or (block_bytes p at) k 0 ≡ c → ⊥) → met' ≡ met → met' ≡ met-in p at c i (k + 1)
      met-other e next =
          ⊎_elim (λ (gone : i - k ≡ 0). next ∙ past p at c i k met (omega arith) is)
          (λ (before : 0 < i - k).
          omega (arith, within p at c i k (omega arith) (omega (arith, low, leaf.inside)), is_mark-other c (byte p (at + k)) (λ d. e (byte-is ∙ d))))
          (eq-zero-or-pos (i - k))

    -- all of them are the rank at i
    pub met_all : i ≤ length (leaf_marks p b) → length (block_bytes p at) ≤ k → met ≡ rank c (leaf_marks p b) i
    unfolding rank leaf_marks
    met_all inside end =
        let all : min k i ≡ i = omega (arith, leaf-size p b leaf, leaf.fits, whole-block) in
        is ∙ ap₂ (λ (n a : ℕ). count c (take n (drop a p))) all place
        ∙ ap (count c) (sym (take-take i (entries p b) (drop (block_at b) p) (omega (arith, leaf-size p b leaf))))

-- the chunks that marks are passed by, one by one
pub stride-at : (n k i : ℕ) (xs : List ℕ) → i < k → get_or (first_chunks n k xs) i [] ≡ take n (drop (n * i) xs)
stride-at n zero i xs inside = absurd (omega arith)
stride-at n (suc k) zero xs inside = rw mul-zero refl
stride-at n (suc k) (suc i) xs inside =
    let e : n + n * i ≡ n * suc i = omega (arith, mul-suc n i) in
    stride-at n k i (drop n xs) (omega arith) ∙ ap (take n) (drop-drop (n * i) n xs ∙ ap (λ (m : ℕ). drop m xs) e)

-- what is left to find of j, when the first so many marks are passed
abbrev pub LeftBehind : List ℕ → ℕ → ℕ → ℕ → ℕ → Type 0
LeftBehind xs c j passed left = select c xs j ≡ passed + select c (drop passed xs) left

-- one stride more
pub left-next : (xs : List ℕ) (c j passed left n met : ℕ) → LeftBehind xs c j passed left → passed + n ≤ length xs
    → met ≡ count c (take n (drop passed xs)) → met < left → LeftBehind xs c j (passed + n) (left - met)
left-next xs c j passed left n met is inside here fewer =
    let rest = drop passed xs in
    let split : rest ≡ take n rest ++ drop (passed + n) xs = sym (take-append-drop n rest) ∙ ap (λ (ys : List ℕ). take n rest ++ ys) (drop-drop n passed xs) in
    let size : length (take n rest) ≡ n = omega (arith, length-take n rest, length-drop passed xs) in
    let step : select c rest left ≡ n + select c (drop (passed + n) xs) (left - met) =
    ap (λ (ys : List ℕ). select c ys left) split
    ∙ select-right c (take n rest) (drop (passed + n) xs) left (omega (arith, here))
    ∙ rw (size, ← here)
    in
    omega (arith, is, step)

-- the same as the code has it: the stride is the next of those that the marks are cut into, and the rest is a slice
module _ (xs : List ℕ) (c j passed left : ℕ) (is : LeftBehind xs c j passed left) where
  module _ (strides : List (List ℕ)) (cut : strides ≡ first_chunks 16 (length xs / 16) xs) (many : length strides ≡ length xs / 16)
      (i : ℕ) (inside : i < length strides) (whole : passed ≡ 16 * i) where
    pub stride-inside : passed + 16 ≤ length xs
    stride-inside = omega arith

    pub stride-left : (met : ℕ) → met ≡ count c (take 16 (get_or strides i [])) → met < left → LeftBehind xs c j (passed + 16) (left - met)
    stride-left met counted fewer =
        let stride : get_or strides i [] ≡ take 16 (drop passed xs) = rw (cut, whole) (stride-at 16 (length xs / 16) i xs (omega arith)) in
        left-next xs c j passed left 16 met is stride-inside (counted ∙ ap (λ (ys : List ℕ). count c (take 16 ys)) stride ∙ ap (count c) (take-take 16 16 (drop passed xs) (omega arith))) fewer

  module _ (found : ℕ) (there : found ≡ select c (take (length xs - passed) (drop passed xs)) left) where
    rest : take (length xs - passed) (drop passed xs) ≡ drop passed xs
    rest = take_all (length xs - passed) (drop passed xs) (omega (arith, length-drop passed xs))

    pub found-last : passed + found ≡ select c xs j
    found-last = omega (arith, is, there, ap (λ (ys : List ℕ). select c ys left) rest)

    pub found-fits : passed ≤ length xs → length xs < address_limit → passed + found < address_limit
    found-fits inside small =
        omega (arith, there, select-le-length c (take (length xs - passed) (drop passed xs)) left, length-take (length xs - passed) (drop passed xs))
