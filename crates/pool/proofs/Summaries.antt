-- What a block says of its own marks is true of a sound tree, so an entry that says the same of its child is right. A branch adds
-- up what its entries tell.
use mathlib.Core.Path.{◌≡◌, refl, sym, ◌∙◌}
use mathlib.Core.List.{List}
use Prim.Native.Nat.{ℕ, zero, suc, ◌<◌}
use lib.ListN.{length, length-append}
use Rattle.geometry.specs.Limits.{most_alphabet}
use Rattle.sequence.specs.Definition1.{count}
use Rattle.sequence.proofs.Counts.{count-additive}
use Rattle.shape.specs.Nested.{flat, marks_in}
use Rattle.pool.specs.Blocks.{link, marks_below, count_below}
use Rattle.pool.specs.Sound.{SoundBlock, SoundBelow, Tells}
use Rattle.pool.specs.Trees.{shape_at, own_marks, own_count}
use Rattle.pool.proofs.Blocks.{length-leaf}
use Rattle.pool.proofs.Trees.{told-all}

module _ (p : List ℕ) (alphabet : ℕ) where
  pub own-marks : (fewest h b : ℕ) → SoundBlock p fewest h b → SoundBelow p alphabet h b → own_marks p h b ≡ marks_in h (shape_at p h b)
  own-marks fewest zero b block below = sym (length-leaf p b fewest block)
  own-marks fewest (suc h) b block below = told-all p h b length length-append (marks_below p b) (λ k l. (below k l).2.marks)

  pub own-count : (h b c : ℕ) → c < most_alphabet → SoundBelow p alphabet h b → own_count p h b c ≡ count c (flat h (shape_at p h b))
  own-count zero b c low below = refl
  own-count (suc h) b c low below = told-all p h b (count c) (count-additive c) (λ k. count_below p b k c) (λ k l. (below k l).2.counts c low)

  -- an entry tells its child's marks exactly where it is the child's own summary
  module _ (fewest h b k : ℕ) (block : SoundBlock p fewest h (link p b k)) (below : SoundBelow p alphabet h (link p b k)) where
    pub tells-own : marks_below p b k ≡ own_marks p h (link p b k) → ((c : ℕ) → c < most_alphabet → count_below p b k c ≡ own_count p h (link p b k) c) → Tells p h b k
    tells-own marks counts = record {
      marks = marks ∙ own-marks fewest h (link p b k) block below;
      counts = λ c low. counts c low ∙ own-count h (link p b k) c low below;
    }

    pub own-told : Tells p h b k → (marks_below p b k ≡ own_marks p h (link p b k)) × ((c : ℕ) → c < most_alphabet → count_below p b k c ≡ own_count p h (link p b k) c)
    own-told told = (told.marks ∙ sym (own-marks fewest h (link p b k) block below), λ c low. told.counts c low ∙ sym (own-count h (link p b k) c low below))
