-- How far a gathering has come: what is known after i bytes, and what it makes of the whole at a line feed.
use mathlib.Core.Bool.{Bool, false≢true}
use mathlib.Core.Path.{◌≡◌, ap, sym, ◌∙◌}
use mathlib.Core.List.{List, [], ◌∷◌, ◌++◌, append_assoc}
use Prim.Native.Nat.{ℕ, ◌+◌, ◌-◌, ◌≤◌, ◌<◌}
use native.Mathlib.Omega.{arith}
use lib.ListN.{length, get_or, take}
use Rattle.lists.proofs.Cuts.{take_next}
use Rattle.lists.proofs.Items.{all_append}
use Rattle.text_lines.specs.declared.Gathered.{Gathered}
use Rattle.text_lines.specs.Lines.{line_feed, Plain, Stands, Accepts, Gathers}
use Rattle.text_lines.specs.declared.Gathering.TheVariants.{Whole}

-- no line feed is among the first i bytes, and the state has gone on by them
pub record Passed (returns : Bool) (bytes : List ℕ) (before : Gathered) (keep : List ℕ) (i : ℕ) (line : Gathered) (keep' : List ℕ) : Type 0 where
  pub within : i ≤ length bytes
  pub plain : Plain (take i bytes)
  pub same : length keep' ≡ length keep
  pub stands : (gathered : List ℕ) → Stands returns gathered before keep → Stands returns (gathered ++ take i bytes) line keep'

module _ (r : Bool) (bytes : List ℕ) (before : Gathered) (keep : List ℕ) where
  module _ (i : ℕ) (line : Gathered) (keep' : List ℕ) (passed : Passed r bytes before keep i line keep') where
    -- one more byte that is no line feed
    pub passed-more : (line' : Gathered) (keep'' : List ℕ) → i < length bytes → (get_or bytes i 0 ≡ line_feed → ⊥) →
        Accepts (get_or bytes i 0) r line keep' keep'' line' → Passed r bytes before keep (i + 1) line' keep''
    passed-more line' keep'' inside other a =
        record {
          within = omega arith;
          plain = rw (take_next bytes i inside) (all_append _ (take i bytes) (get_or bytes i 0 ∷ []) passed.plain (other, tt));
          same = a.same ∙ passed.same;
          stands = λ g h.
              rw (take_next bytes i inside, ← append_assoc g (take i bytes) (get_or bytes i 0 ∷ []))
              (a.stands (g ++ take i bytes) (passed.stands g h));
        }

    -- the next byte is a line feed
    pub gathers-line : i < length bytes → get_or bytes i 0 ≡ line_feed →
        Gathers r bytes before keep keep' (Whole (i + 1) line)
    gathers-line inside feed =
        let back : i + 1 - 1 ≡ i = omega arith in
        record {
          plain = rw back passed.plain;
          taken = rw back (take_next bytes i inside ∙ ap (λ (b : ℕ). take i bytes ++ (b ∷ [])) feed);
          all = λ e. absurd (false≢true (sym e));
          within = omega arith;
          onward = λ some. omega arith;
          same = passed.same;
          stands = λ g h. rw back (passed.stands g h);
        }
