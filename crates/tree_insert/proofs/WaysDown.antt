-- The way down to a leaf: what is known at its start is known at each of its levels, and an edit can go back up it one level at a time.
use mathlib.Core.Path.{◌≡◌, refl, sym, ap, subst, ◌∙◌}
use mathlib.Core.List.{List}
use mathlib.Core.Bool.{cond}
use lib.Dec.{leb}
use Prim.Native.Nat.{ℕ, zero, suc, ◌+◌, ◌-◌, ◌≤◌, ◌<◌}
use native.Mathlib.Numerals.{add-one}
use native.Mathlib.Omega.{arith}
use lib.ListN.{length, set, length-set}
use lib.Seq.{get_or-set_same, get_or-set_other}
use Rattle.std.specs.Prelude.{Option}
use Rattle.geometry.specs.Layout.{most_height}
use Rattle.shape.proofs.Choice.{by-leb, cond-le, cond-lt}
use Rattle.pool.specs.Blocks.{entries, link, marks_below}
use Rattle.pool_entries.specs.Seats.{Seated}
use Rattle.pool_entries.specs.Summaries.{Is}
use Rattle.pool_entries.specs.declared.Seat.{Seat}
use Rattle.tree_splits.specs.Grafts.{TakeUpReady, TakenUp}
use Rattle.tree_splits.specs.Inserts.{InsertReady, Inserted}
use Rattle.tree_insert.specs.Ways.{Insertable, Down, step_at, WayTo}
use Rattle.tree_insert.specs.declared.descent.Step.{Step}
use Rattle.tree_insert.proofs.Ascents.{inserted_above}
use Rattle.tree_insert.proofs.Descents.{child-ready}
use Rattle.tree_insert.proofs.Siblings.{take-up-ready}

-- one level, over plain variables
module _ (p m : List ℕ) (h : ℕ) (step : Step) (i block place c holder : ℕ) (ready : InsertReady p m (suc h) step.block i c holder) (down : Down p step i block place) where
  pub below-ready : InsertReady p m h block place c holder
  below-ready = rw down.link.is (rw down.left (child-ready p m h step.block i c holder ready down.seat down.seated))

  module _ (g : Option ℕ) (q l : List ℕ) (ins : Inserted h block place c holder g p q m l) where
    made : Inserted h (link p step.block down.seat.k) (i - down.seat.before) c holder g p q m l
    made = rw down.link.is at (rw down.left at ins)

    pub above-ready : TakeUpReady q l h step.block step.child block c holder g
    above-ready = rw down.link.is (rw down.chosen (take-up-ready p m h step.block i c holder ready down.seat down.seated g q l made))

    pub above-inserted : (r : Option ℕ) (t n : List ℕ) → TakenUp h step.block step.child block holder g r q t l n → Inserted (suc h) step.block i c holder r p t m n
    above-inserted r t n up =
        let taken : TakenUp h step.block down.seat.k (link p step.block down.seat.k) holder g r q t l n = rw down.chosen at (rw down.link.is at up) in
        inserted_above p m h step.block i c holder ready down.seat down.seated g q l made r t n taken

-- the whole way
module _ (p m : List ℕ) (h b i c holder : ℕ) (way : List Step) (place : ℕ) (found : WayTo p h b i way place) (ready : InsertReady p m h b i c holder) where
  abbrev ReadyAt : ℕ → Type 0
  ReadyAt j = InsertReady p m j (step_at way j).block (found.places j) c holder

  from-top : (d : ℕ) → d ≤ h → ReadyAt (h - d)
  from-top zero le =
      let top : ReadyAt h = rw found.block (rw found.first ready) in
      let e : h ≡ h - zero = omega arith in
      subst ReadyAt e top
  from-top (suc d) le =
      let j : ℕ = h - suc d in
      let e : h - d ≡ suc j = omega arith in
      below-ready p m j _ _ _ _ c holder (subst ReadyAt e (from-top d (omega arith))) (found.steps j (omega arith))

  ready_at : (j : ℕ) → j ≤ h → ReadyAt j
  ready_at j le =
      let e : h - (h - j) ≡ j = omega arith in
      subst ReadyAt e (from-top (h - j) (omega arith))

  pub ready-leaf : InsertReady p m 0 (step_at way 0).block place c holder
  ready-leaf = rw found.last at (ready_at 0 (omega arith))

  module _ (j : ℕ) (low : j < h) (g : Option ℕ) (q l : List ℕ) (ins : Inserted j (step_at way j).block (found.places j) c holder g p q m l) where
    pub climb-ready : TakeUpReady q l j (step_at way (j + 1)).block (step_at way (j + 1)).child (step_at way j).block c holder g
    climb-ready = rw (add-one j) (above-ready p m j _ _ _ _ c holder (ready_at (suc j) (omega arith)) (found.steps j low) g q l ins)

    pub climbed : (r : Option ℕ) (t n : List ℕ)
        → TakenUp j (step_at way (j + 1)).block (step_at way (j + 1)).child (step_at way j).block holder g r q t l n
        → Inserted (j + 1) (step_at way (j + 1)).block (found.places (j + 1)) c holder r p t m n
    climbed r t n up =
        let taken : TakenUp j (step_at way (suc j)).block (step_at way (suc j)).child (step_at way j).block holder g r q t l n = rw (add-one j) at up in
        rw (add-one j) (above-inserted p m j _ _ _ _ c holder (ready_at (suc j) (omega arith)) (found.steps j low) g q l ins r t n taken)

-- a step at a level whose child isn't known yet
abbrev enter : ℕ → Step
enter block = record { block = block; child = 0 }

-- the way as it is found: so far it goes from place i of block b of level h down to a place of a block of level l, where no step is written yet
pub record WayFound (p : List ℕ) (h b i l block place : ℕ) (way : List Step) : Type 0 where
  pub low : l ≤ h
  pub high : h ≤ most_height
  pub long : length way ≡ most_height + 1
  pub some : Insertable p l block place
  pub places : ℕ → ℕ
  pub first : places h ≡ i
  pub last : places l ≡ place
  pub top : (step_at (set way l (enter block)) h).block ≡ b
  pub steps : (j : ℕ) → l ≤ j → j < h
      → Down p (step_at (set way l (enter block)) (suc j)) (places (suc j)) (step_at (set way l (enter block)) j).block (places j)

module _ (way : List Step) (k : ℕ) (step : Step) where
  step-set : k < length way → step_at (set way k step) k ≡ step
  step-set inside = get_or-set_same way k step _ inside

  step-kept : (j : ℕ) → (j ≡ k → ⊥) → step_at (set way k step) j ≡ step_at way j
  step-kept j other = get_or-set_other way k j step _ other

pub found-start : (p : List ℕ) (h b i : ℕ) (way : List Step) → Insertable p h b i → h ≤ most_height → length way ≡ most_height + 1 → WayFound p h b i h b i way
found-start p h b i way some high long =
    record {
      low = omega arith;
      high = high;
      long = long;
      some = some;
      places = λ _. i;
      first = refl;
      last = refl;
      top = ap (λ (s : Step). s.block) (step-set way h (enter b) (omega arith));
      steps = λ j le lt. absurd (omega arith);
    }

module _ (p : List ℕ) (h b i l block place : ℕ) (way : List Step) (found : WayFound p h b i (l + 1) block place way)
    (s : Seat) (seated : Seated (marks_below p block) (entries p block) place s) (child : ℕ) (is : Is (link p block s.k) child) where
  above : InsertReady p found.some.map (suc l) block place found.some.symbol found.some.holder
  above = subst (λ (n : ℕ). InsertReady p found.some.map n block place found.some.symbol found.some.holder) (add-one l) found.some.ready

  abbrev here : Step
  here = record { block = block; child = s.k }

  down : Down p here place child (place - s.before)
  down = record { seat = s; seated = seated; chosen = refl; link = is; left = refl }

  abbrev before : List Step
  before = set way (l + 1) (enter block)

  abbrev after : List Step
  after = set (set way (l + 1) here) l (enter child)

  -- the places, with that at the new level
  abbrev places_after : ℕ → ℕ
  places_after j = cond (leb (l + 1) j) (found.places j) (place - s.before)

  place-kept : (j : ℕ) → l + 1 ≤ j → places_after j ≡ found.places j
  place-kept j le = cond-le (l + 1) j (found.places j) (place - s.before) le

  place-new : places_after l ≡ place - s.before
  place-new = cond-lt (l + 1) l (found.places l) (place - s.before) (omega arith)

  inside : l + 1 < length way
  inside = omega (arith, found.long, found.low, found.high)

  here-is : step_at after (l + 1) ≡ here
  here-is = step-kept (set way (l + 1) here) l (enter child) (l + 1) (λ e. omega arith) ∙ step-set way (l + 1) here inside

  next-is : step_at after l ≡ enter child
  next-is = step-set (set way (l + 1) here) l (enter child) (omega (arith, inside, length-set way (l + 1) here))

  before-is : step_at before (l + 1) ≡ enter block
  before-is = step-set way (l + 1) (enter block) inside

  kept : (j : ℕ) → l + 1 < j → step_at after j ≡ step_at before j
  kept j high =
      step-kept (set way (l + 1) here) l (enter child) j (λ e. omega arith) ∙ step-kept way (l + 1) here j (λ e. omega arith)
      ∙ sym (step-kept way (l + 1) (enter block) j (λ e. omega arith))

  block-kept : (j : ℕ) → l + 1 ≤ j → (step_at after j).block ≡ (step_at before j).block
  block-kept j le =
      by-leb {A = Unit {0}} (λ _. (step_at after j).block ≡ (step_at before j).block) (suc (l + 1)) j tt tt
      (λ (high : suc (l + 1) ≤ j). ap (λ (s : Step). s.block) (kept j (omega arith)))
      (λ (low : j < suc (l + 1)).
      let e : j ≡ l + 1 = omega arith in
      rw e (ap (λ (s : Step). s.block) here-is ∙ sym (ap (λ (s : Step). s.block) before-is)))

  steps-on : (j : ℕ) → l ≤ j → j < h → Down p (step_at after (suc j)) (places_after (suc j)) (step_at after j).block (places_after j)
  steps-on j le lt =
      by-leb {A = Unit {0}} (λ _. Down p (step_at after (suc j)) (places_after (suc j)) (step_at after j).block (places_after j)) (l + 1) j tt tt
      (λ (old : l + 1 ≤ j).
      rw (kept (suc j) (omega arith)) (rw (block-kept j old) (rw (place-kept j old) (rw (place-kept (suc j) (omega arith)) (found.steps j old lt)))))
      (λ (new : j < l + 1).
      let e : j ≡ l = omega arith in
      let f : places_after (l + 1) ≡ place = place-kept (l + 1) (omega arith) ∙ found.last in
      rw e (rw (← add-one l) (rw here-is (rw next-is (rw place-new (rw f down))))))

  found-down : WayFound p h b i l child (place - s.before) (set way (l + 1) here)
  found-down =
      record {
        low = omega (arith, found.low);
        high = found.high;
        long = length-set way (l + 1) here ∙ found.long;
        some =
            record {
              map = found.some.map;
              symbol = found.some.symbol;
              holder = found.some.holder;
              ready = below-ready p found.some.map l here place child (place - s.before) found.some.symbol found.some.holder above down;
            };
        places = places_after;
        first = place-kept h found.low ∙ found.first;
        last = place-new;
        top = block-kept h found.low ∙ found.top;
        steps = steps-on;
      }

-- the same, from the level above
pub found-lower : (p : List ℕ) (h b i l block place : ℕ) (way : List Step) → WayFound p h b i l block place way → 0 < l
    → (s : Seat) → Seated (marks_below p block) (entries p block) place s → (child : ℕ) → Is (link p block s.k) child
    → WayFound p h b i (l - 1) child (place - s.before) (set way (l - 1 + 1) (record { block = block; child = s.k }))
found-lower p h b i l block place way found more s seated child is =
    let e : l ≡ l - 1 + 1 = omega arith in
    found-down p h b i (l - 1) block place way (subst (λ (n : ℕ). WayFound p h b i n block place way) e found) s seated child is

-- when it has come to a leaf
pub found_all : (p : List ℕ) (h b i l block place : ℕ) (way : List Step) → WayFound p h b i l block place way → l ≤ 0
    → WayTo p h b i (set way 0 (enter block)) place
found_all p h b i l block place way found end =
    let e : l ≡ 0 = omega arith in
    let all : WayFound p h b i 0 block place way = subst (λ (n : ℕ). WayFound p h b i n block place way) e found in
    record { places = all.places; block = all.top; first = all.first; last = all.last; steps = λ j lt. all.steps j (omega arith) lt }
