-- The way back up from a leaf: an insert that has come up to a level comes up to the next where the branch there takes up what became of
-- its child. Where nothing was split, that is one mark more in an entry.
use mathlib.Core.Path.{◌≡◌, refl, ap, ◌∙◌}
use mathlib.Core.List.{List}
use Prim.Native.Nat.{ℕ, ◌+◌, ◌-◌, ◌<◌}
use lib.ListN.{length, take, drop, length-take}
use lib.Seq.{get_or-take, get_or-drop}
use native.Mathlib.Omega.{arith}
use Rattle.std.specs.Prelude.{Option, None, Some}
use Rattle.geometry.specs.Layout.{most_branch}
use Rattle.geometry.specs.Limits.{most_alphabet}
use Rattle.pool.specs.Blocks.{marks_below, count_below}
use Rattle.pool.specs.Bytes.{shares}
use Rattle.pool.specs.Words.{word_limit}
use Rattle.pool_entries.specs.Entries.{AddMark}
use Rattle.tree_splits.specs.Grafts.{TakeUpReady, SplitReady, TakenUp}
use Rattle.tree_splits.specs.Inserts.{InsertReady, Inserted}
use Rattle.tree_splits.proofs.TakeUps.{add-ready, taken-up-one}
use Rattle.tree_insert.specs.Ways.{step_at, WayTo, Climbing, Climber, Climbed, Counter, CountedUp}
use Rattle.tree_insert.specs.declared.descent.Step.{Step}
use Rattle.tree_insert.proofs.WaysDown.{climb-ready, climbed}

climber : (p m : List ℕ) (h b i c holder : ℕ) (way : List Step) (j : ℕ) (g : Option ℕ) (q l : List ℕ)
    → Climbing p m h b i c holder way j g q l → Climber h c holder way j g q l
climber p m h b i c holder way j g q l climbing = record { pool = p; map = m; block = b; place = i; climbing = climbing }

module _ (h c holder : ℕ) (way : List Step) where
  module _ (p m : List ℕ) (b i j : ℕ) (g : Option ℕ) (q l : List ℕ) (climbing : Climbing p m h b i c holder way j g q l) (low : j < h) where
    climb-up : TakeUpReady q l j (step_at way (j + 1)).block (step_at way (j + 1)).child (step_at way j).block c holder g
    climb-up = climb-ready p m h b i c holder way climbing.place climbing.found climbing.ready j low g q l climbing.inserted

    climb-on : (r : Option ℕ) (t n : List ℕ) → TakenUp j (step_at way (j + 1)).block (step_at way (j + 1)).child (step_at way j).block holder g r q t l n
        → Climbing p m h b i c holder way (j + 1) r t n
    climb-on r t n up =
        record {
          place = climbing.place;
          found = climbing.found;
          ready = climbing.ready;
          low = omega arith;
          inserted = climbed p m h b i c holder way climbing.place climbing.found climbing.ready j low g q l climbing.inserted r t n up;
        }

  -- from where it began
  pub climbed-start : (j : ℕ) (g : Option ℕ) (q l : List ℕ) → Climber h c holder way j g q l → Climbed h c holder way j g q l j g q l
  climbed-start j g q l some = record { long = refl; long_map = refl; some = some; each = λ p m b i start. start }

  module _ (j₀ : ℕ) (g₀ : Option ℕ) (q₀ l₀ : List ℕ) (j : ℕ) (g : Option ℕ) (q l : List ℕ) (so_far : Climbed h c holder way j₀ g₀ q₀ l₀ j g q l) where
    next-ready : j < h → TakeUpReady q l j (step_at way (j + 1)).block (step_at way (j + 1)).child (step_at way j).block c holder g
    next-ready low = climb-up _ _ _ _ _ _ _ _ so_far.some.climbing low

    pub next-climbed : j < h → (r : Option ℕ) (t n : List ℕ)
        → TakenUp j (step_at way (j + 1)).block (step_at way (j + 1)).child (step_at way j).block holder g r q t l n
        → Climbed h c holder way j₀ g₀ q₀ l₀ (j + 1) r t n
    next-climbed low r t n up =
        record {
          long = up.regrouped.only.long ∙ so_far.long;
          long_map = up.regrouped.entered.long ∙ so_far.long_map;
          some = climber _ _ _ _ _ _ _ _ _ _ _ _ (climb-on _ _ _ _ _ _ _ _ so_far.some.climbing low r t n up);
          each = λ p m b i start. climb-on _ _ _ _ _ _ _ _ (so_far.each p m b i start) low r t n up;
        }

-- the insert that went down the way
module _ (p m : List ℕ) (h b i c holder : ℕ) (way : List Step) (place : ℕ) (found : WayTo p h b i way place) (ready : InsertReady p m h b i c holder)
    (g : Option ℕ) (q l : List ℕ) (ins : Inserted 0 (step_at way 0).block place c holder g p q m l) where
  climb-start : Climbing p m h b i c holder way 0 g q l
  climb-start = record { place = place; found = found; ready = ready; low = omega arith; inserted = rw found.last ins }

  pub way-climber : Climber h c holder way 0 g q l
  way-climber = climber _ _ _ _ _ _ _ _ _ _ _ _ climb-start

  pub way-inserted : (r : Option ℕ) (t n : List ℕ) → Climbed h c holder way 0 g q l h r t n → Inserted h b i c holder r p t m n
  way-inserted r t n up =
      let end = up.each _ _ _ _ climb-start in
      rw end.found.block at (rw end.found.first at end.inserted)

-- the steps above a level, as a loop goes over them
abbrev pub steps_above : List Step → ℕ → ℕ → List Step
steps_above way from level = take (level + 1 - (from + 1)) (drop (from + 1) way)

pub above-low : (way : List Step) (from level k : ℕ) → k < length (steps_above way from level) → from + k < level
above-low way from level k inside = omega (arith, length-take (level + 1 - (from + 1)) (drop (from + 1) way))

pub above-is : (way : List Step) (from level k : ℕ) → k < length (steps_above way from level) → step_at (steps_above way from level) k ≡ step_at way (from + k + 1)
above-is way from level k inside =
    let low : from + k < level = above-low way from level k inside in
    let e : from + 1 + k ≡ from + k + 1 = omega arith in
    get_or-take _ (drop (from + 1) way) k _ (omega arith) ∙ get_or-drop (from + 1) way k _ ∙ ap (step_at way) e

module _ (h c : ℕ) (way : List Step) where
  pub counted_start : (j : ℕ) (q : List ℕ) → Counter h c way j q → CountedUp h c way j q j q
  counted_start j q some = record { long = refl; some = some; each = λ holder l start. climbed-start h c holder way j None q l start }

  module _ (j₀ : ℕ) (q₀ : List ℕ) (j : ℕ) (q : List ℕ) (so_far : CountedUp h c way j₀ q₀ j q) where
    pub count-ready : j < h → (step : Step) → step ≡ step_at way (j + 1)
        → ((step.block < shares q) × (step.child < most_branch) × (c < most_alphabet))
        × ((marks_below q step.block step.child + 1 < word_limit) × (count_below q step.block step.child c + 1 < word_limit))
    count-ready low step is =
        rw is
        (
        let some = so_far.some in
        let up = climbed-start h c some.holder way j None q some.map some.climber in
        add-ready q some.map j _ _ (step_at way j).block c some.holder (next-ready h c some.holder way j None q some.map j None q some.map up low))

    module _ (low : j < h) (step : Step) (is : step ≡ step_at way (j + 1)) (t : List ℕ) (put : AddMark step.block step.child c q t) where
      -- one level of an insert that split nothing there
      one_up : (holder : ℕ) (p₀ l₀ : List ℕ) (k : ℕ) (l : List ℕ) → Climbed h c holder way k None p₀ l₀ j None q l → Climbed h c holder way k None p₀ l₀ (j + 1) None t l
      one_up holder p₀ l₀ k l up =
          let ready = next-ready h c holder way k None p₀ l₀ j None q l up low in
          next-climbed h c holder way k None p₀ l₀ j None q l up low None t l (taken-up-one q l j _ _ (step_at way j).block c holder ready t (rw is at put))

      pub next-counted : CountedUp h c way j₀ q₀ (j + 1) t
      next-counted =
          let some = so_far.some in
          let on = one_up some.holder q some.map j some.map (climbed-start h c some.holder way j None q some.map some.climber) in
          record {
            long = on.long ∙ so_far.long;
            some = record { holder = some.holder; map = some.map; climber = on.some };
            each = λ holder l start. one_up holder q₀ l j₀ l (so_far.each holder l start);
          }

  -- the rest of the way where nothing more is split
  module _ (holder j₀ : ℕ) (g₀ : Option ℕ) (q₀ l₀ : List ℕ) (j : ℕ) (q l : List ℕ) (so_far : Climbed h c holder way j₀ g₀ q₀ l₀ j None q l) where
    pub rest-climbed : (t : List ℕ) → CountedUp h c way j q h t → Climbed h c holder way j₀ g₀ q₀ l₀ h None t l
    rest-climbed t counted =
        let rest = counted.each holder l so_far.some in
        record {
          long = rest.long ∙ so_far.long;
          long_map = so_far.long_map;
          some = rest.some;
          each = λ p m b i start. rest.each p m b i (so_far.each p m b i start);
        }

-- a level of the way where there was a split
pub split-ready : (h c holder : ℕ) (way : List Step) (j₀ : ℕ) (g₀ : Option ℕ) (q₀ l₀ : List ℕ) (j new : ℕ) (q l : List ℕ)
    → Climbed h c holder way j₀ g₀ q₀ l₀ j (Some new) q l → j < h
    → SplitReady q l j (step_at way (j + 1)).block (step_at way (j + 1)).child (step_at way j).block new holder
split-ready h c holder way j₀ g₀ q₀ l₀ j new q l so_far low =
    record { symbol = c; ready = next-ready h c holder way j₀ g₀ q₀ l₀ j (Some new) q l so_far low }
