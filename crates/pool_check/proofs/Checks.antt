-- The whole check: refused by the length, the header, the shares promised, or the names, which are walked with a clear map.
use mathlib.Core.Bool.{Bool}
use mathlib.Core.List.{List}
use mathlib.Core.Path.{◌≡◌, refl, ◌∙◌}
use Prim.Native.Nat.{ℕ, zero, suc, ◌+◌, ◌≤◌, ◌<◌}
use native.Mathlib.Omega.{arith}
use lib.ListN.{length, get_or, replicate}
use Rattle.geometry.specs.Limits.{names, most_shares}
use Rattle.lists.proofs.Items.{all_map}
use Rattle.lists.specs.Items.{AllBelow}
use Rattle.pool.specs.Bytes.{shares}
use Rattle.pool.specs.Names.{blocks_of, held_blocks}
use Rattle.pool.specs.Shares.{promised_shares}
use Rattle.pool.specs.Sound.{LengthAllowed, SoundHeader, Distinct}
use Rattle.pool_check.specs.Walks.{New, map_to, WalkedNames}
use Rattle.pool_check.specs.Parts.{SoundName, Checked}
use Rattle.pool_check.proofs.Deciding.{say-same}
use Rattle.pool_check.proofs.Holders.{map-length, name-inside, held-apart, apart-new, map_of}

-- a map of zeros is clear
pub zeros-clear : (n b : ℕ) → get_or {A = ℕ} (replicate n 0) b 0 ≡ 0
zeros-clear zero b = refl
zeros-clear (suc n) zero = refl
zeros-clear (suc n) (suc b) = zeros-clear n b

module _ (p after : List ℕ) where
  -- the names, walked with a clear map
  module _ (fresh : List ℕ) (long : length fresh ≡ most_shares) (clear : (b : ℕ) → get_or fresh b 0 ≡ 0)
      (r : Bool) (allowed : LengthAllowed (length p)) (header : SoundHeader p) (promised : promised_shares p ≤ shares p)
      (walked : WalkedNames r (SoundName p) p names fresh after) where
    short : shares p ≤ length fresh
    short = omega (arith, allowed)

    abbrev Each : Type 0
    Each = (name : ℕ) → name < names → SoundName p name × New (name + 1) (map_to p fresh name) (blocks_of p name)

    inside : Each → (name : ℕ) → name < names → AllBelow (length fresh) (blocks_of p name)
    inside each name low =
        all_map (λ b. b < shares p) (λ b. b < length fresh) (λ b l. omega (arith, short)) (blocks_of p name) (name-inside p name (each name low).0)

    apart : Each → Distinct (held_blocks p)
    apart each = held-apart p fresh clear (inside each) (λ name low. (each name low).1)

    pub names-checked : Checked p r after
    names-checked = record {
      says = say-same
          (λ each. record {
            allowed = allowed;
            header = header;
            each = λ name low. (each name low).0;
            apart = apart each;
            promised = promised;
          })
          (λ s name low. (s.each name low, apart-new p fresh clear s.apart name low)) walked.says;
      long = λ e. rw (walked.met e) (map-length p fresh clear names ∙ long);
      holders = λ e. rw (walked.met e) (map_of p fresh clear (apart (walked.says.sound e)) short);
    }
