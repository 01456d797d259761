-- A leaf by the counts that an entry claims. Each claim that isn't 0 is true, so no claim is more than the count; the counts of all symbols are at
-- most the leaf's size. Claims that add up to it are therefore the counts, and every mark is one of the symbols claimed. Once the claims of the
-- first symbols add up to it, the others are 0.
use mathlib.Core.Bool.{Bool, true, false}
use mathlib.Core.List.{List}
use mathlib.Core.Logic.{inl, inr, ⊎_elim}
use mathlib.Core.Path.{◌≡◌, refl, sym, ap, ◌∙◌}
use Prim.Native.Nat.{ℕ, suc, ◌+◌, ◌-◌, ◌≤◌, ◌<◌}
use native.Mathlib.Nat.{eq-zero-or-pos, eq-or-lt_of_le}
use native.Mathlib.Numerals.{add-one}
use native.Mathlib.Omega.{arith}
use borrow.Author.Count.{below_none, below_more}
use lib.Dec.{eqb}
use lib.ListN.{length, take}
use lib.Seq.{take_all}
use Rattle.lists.proofs.Items.{all_map}
use Rattle.lists.proofs.Sums.{sum_below-same, sum_below-tight, sum_below-short, sum_below-grows}
use Rattle.lists.specs.Items.{AllBelow}
use Rattle.lists.specs.Sums.{sum_below}
use Rattle.sequence.proofs.Counts.{all-standing}
use Rattle.pool_entries.specs.Summaries.{Is}
use Rattle.geometry.specs.Layout.{most_leaf}
use Rattle.geometry.specs.Limits.{block_size, most_alphabet}
use Rattle.pool.specs.Blocks.{entries, leaf_marks, marks_below, count_below}
use Rattle.pool.specs.Bytes.{shares}
use Rattle.sequence.proofs.Alphabets.{counts-add-up, counts-at-most, all_below-of-counts}
use Rattle.sequence.specs.Definition1.{count}
use Rattle.pool_check.specs.Parts.{Matches, Padded, Claim}
use Rattle.pool_check.specs.Says.{Says}
use Rattle.pool_check.proofs.Deciding.{say-yes, say-no, say-same, say-equal, denied}
use Rattle.pool_check.proofs.Leaves.{length-marks}

-- What is left of a sum after its first numbers.
pub left-all : (f : ℕ → ℕ) (n sum many : ℕ) → sum ≡ sum_below n f → sum ≡ many → many + sum_below 0 f ≡ sum_below n f
unfolding sum_below
left-all f n sum many so full = omega arith

module _ (f : ℕ → ℕ) (n c left : ℕ) (rest : left + sum_below c f ≡ sum_below n f) (low : c ≤ n) where
  module _ (more : 0 < left) where
    -- there are numbers left, and the next is at most what is left
    pub some_left : c < n
    some_left = ⊎_elim (λ (e : c ≡ n). absurd (omega (arith, ap (λ (k : ℕ). sum_below k f) e))) (λ l. l) (eq-or-lt_of_le low)

    pub next-left : c + 1 ≤ n
    next-left = omega (arith, some_left)

    next-sum : sum_below (c + 1) f ≡ sum_below c f + f c
    unfolding sum_below
    next-sum = rw add-one refl

    pub left-enough : (value : ℕ) → Is (f c) value → value ≤ left
    left-enough value read = omega (arith, read.is, next-sum, sum_below-grows f (c + 1) n next-left)

    pub left-next : (value : ℕ) → Is (f c) value → left - value + sum_below (c + 1) f ≡ sum_below n f
    left-next value read = omega (arith, read.is, next-sum, left-enough value read)

  -- where nothing is left the other numbers are 0
  none_left : left ≡ 0 → (d : ℕ) → c ≤ d → d < n → f d ≡ 0
  unfolding sum_below
  none_left none d past within = omega (arith, sum_below-grows f c d past, sum_below-grows f (suc d) n within)

-- One claim.
module _ (marks : List ℕ) (alphabet c told : ℕ) where
  pub claim-counted : (own : ℕ) → (told ≡ 0 → ⊥) → c < alphabet → length marks ≡ block_size → own ≡ count c (take block_size marks)
      → Says (eqb told own) (Claim marks alphabet c told)
  claim-counted own some low long counted =
      let is : own ≡ count c marks = rw (take_all block_size marks (omega arith)) at counted in
      say-same (λ same. inr (same ∙ is, low)) (λ claim. ⊎_elim (λ none. absurd (some none)) (λ w. w.0 ∙ sym is) claim) (say-equal told own)

  -- of a leaf's marks as of those filled up
  of-leaf : (leaf : List ℕ) (r : Bool) → Padded leaf marks → c < most_alphabet → Says r (Claim marks alphabet c told) → Says r (Claim leaf alphabet c told)
  of-leaf leaf r padded low says = rw (← padded.counts c low) says

-- The claims of an entry as to the symbols below n.
pub record ClaimsTo (p : List ℕ) (b k leaf alphabet n : ℕ) : Type 0 where
  pub each : (c : ℕ) → c < n → Claim (leaf_marks p leaf) alphabet c (count_below p b k c)

module _ (p : List ℕ) (b k leaf alphabet : ℕ) where
  -- what the entry must say is what it may claim
  claimed : Matches p alphabet 0 b k leaf → (c : ℕ) → c < most_alphabet → Claim (leaf_marks p leaf) alphabet c (count_below p b k c)
  claimed w c low =
      let is : count_below p b k c ≡ count c (leaf_marks p leaf) = w.same.counts c low in
      ⊎_elim (λ (none : count_below p b k c ≡ 0). inl none)
      (λ (some : 0 < count_below p b k c). inr (is, all-standing (λ x. x < alphabet) (leaf_marks p leaf) c (omega arith) w.fit))
      (eq-zero-or-pos (count_below p b k c))

  pub claims-none : ClaimsTo p b k leaf alphabet 0
  claims-none = record { each = below_none (λ c. Claim (leaf_marks p leaf) alphabet c (count_below p b k c)) }

  module _ (marks : List ℕ) (c told : ℕ) (r : Bool) (padded : Padded (leaf_marks p leaf) marks) (low : c < most_alphabet)
      (read : Is (count_below p b k c) told) (says : Says r (Claim marks alphabet c told)) where
    pub claims-more : r ≡ true → ClaimsTo p b k leaf alphabet c → ClaimsTo p b k leaf alphabet (c + 1)
    claims-more passed before =
        record {
          each = below_more (λ d. Claim (leaf_marks p leaf) alphabet d (count_below p b k d)) c before.each
              (rw read.is at ((of-leaf marks alphabet c told (leaf_marks p leaf) r padded low says).sound passed));
        }

    pub claims-not : r ≡ false → Says false (Matches p alphabet 0 b k leaf)
    claims-not failed =
        say-no (λ w. denied (of-leaf marks alphabet c told (leaf_marks p leaf) r padded low says) failed (rw read.is (claimed w c low)))

  module _ (many : ℕ) (size : Is (entries p leaf) many) where
    pub other-marks : (told : ℕ) → Is (marks_below p b k) told → (told ≡ many → ⊥) → Says false (Matches p alphabet 0 b k leaf)
    other-marks told read other = say-no (λ w. other (read.is ∙ w.same.marks ∙ sym size.is))

    module _ (inside : leaf < shares p) (fits : entries p leaf ≤ most_leaf) (low : alphabet ≤ most_alphabet) (sum : ℕ)
        (so : sum ≡ sum_below most_alphabet (count_below p b k)) where
      long : length (leaf_marks p leaf) ≡ many
      long = length-marks p leaf many inside size.is (omega (arith, size.is))

      pub other-sum : (sum ≡ many → ⊥) → Says false (Matches p alphabet 0 b k leaf)
      other-sum other =
          say-no
          (λ w.
          let below : AllBelow most_alphabet (leaf_marks p leaf)
          = all_map (λ x. x < alphabet) (λ x. x < most_alphabet) (λ x l. omega arith) (leaf_marks p leaf) w.fit in
          other
          (omega (
            arith,
            counts-add-up most_alphabet (leaf_marks p leaf) below,
            sum_below-same most_alphabet (count_below p b k) (λ d. count d (leaf_marks p leaf)) w.same.counts,
            long,
          )))

      module _ (full : sum ≡ many) (c left : ℕ) (rest : left + sum_below c (count_below p b k) ≡ sum_below most_alphabet (count_below p b k))
          (bound : c ≤ most_alphabet) (end : left ≤ 0) (claims : ClaimsTo p b k leaf alphabet c) where
        every : (d : ℕ) → d < most_alphabet → Claim (leaf_marks p leaf) alphabet d (count_below p b k d)
        every d l =
            ⊎_elim (λ (past : c - d ≡ 0). inl (none_left (count_below p b k) most_alphabet c left rest bound (omega arith) d (omega arith) l))
            (λ (here : 0 < c - d). claims.each d (omega arith)) (eq-zero-or-pos (c - d))

        counts_of : (d : ℕ) → d < most_alphabet → count_below p b k d ≡ count d (leaf_marks p leaf)
        counts_of =
            sum_below-tight (count_below p b k) (λ d. count d (leaf_marks p leaf)) most_alphabet
            (λ d l. ⊎_elim (λ none. omega arith) (λ w. omega (arith, w.0)) (every d l))
            (omega (arith, counts-at-most most_alphabet (leaf_marks p leaf), long))

        -- symbols past the alphabet are claimed 0
        past : (d : ℕ) → alphabet ≤ d → d < most_alphabet → count d (leaf_marks p leaf) ≡ 0
        past d over l = sym (counts_of d l) ∙ ⊎_elim (λ none. none) (λ w. absurd (omega (arith, w.1))) (every d l)

        marks-fit : AllBelow alphabet (leaf_marks p leaf)
        marks-fit =
            all_below-of-counts alphabet (leaf_marks p leaf)
            (omega (
              arith,
              sum_below-short (λ d. count d (leaf_marks p leaf)) alphabet most_alphabet low past,
              sum_below-same most_alphabet (count_below p b k) (λ d. count d (leaf_marks p leaf)) counts_of,
              long,
            ))

        pub claims-all : (told : ℕ) → Is (marks_below p b k) told → told ≡ many → Says true (Matches p alphabet 0 b k leaf)
        claims-all told read all =
            say-yes (record { fit = marks-fit; same = record { marks = sym read.is ∙ all ∙ size.is; counts = counts_of } })
