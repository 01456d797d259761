-- Walks over blocks, one after the other: the map threads through, and the first walk that fails ends them.
use mathlib.Core.Bool.{Bool, true, false}
use mathlib.Core.List.{List, [], ◌∷◌, ◌++◌}
use mathlib.Core.Path.{◌≡◌, refl, sym, ap, ◌∙◌}
use Prim.Native.Nat.{ℕ}
use lib.ListN.{set}
use Rattle.pool_check.specs.Walks.{meet, New, Walked}
use Rattle.pool_check.specs.Says.{Says}
use Rattle.pool_check.proofs.Deciding.{never, not-both, say-no, say-same}

module _ (tag : ℕ) where
  pub meet-append : (m xs ys : List ℕ) → meet tag m (xs ++ ys) ≡ meet tag (meet tag m xs) ys
  meet-append m [] ys = refl
  meet-append m (x ∷ xs) ys = meet-append (set m x tag) xs ys

  pub new-append : (m xs ys : List ℕ) → New tag m xs → New tag (meet tag m xs) ys → New tag m (xs ++ ys)
  new-append m [] ys front back = back
  new-append m (x ∷ xs) ys front back = (front.0, new-append (set m x tag) xs ys front.1 back)

  pub new-front : (m xs ys : List ℕ) → New tag m (xs ++ ys) → New tag m xs
  new-front m [] ys new = tt
  new-front m (x ∷ xs) ys new = (new.0, new-front (set m x tag) xs ys new.1)

  pub new-back : (m xs ys : List ℕ) → New tag m (xs ++ ys) → New tag (meet tag m xs) ys
  new-back m [] ys new = new
  new-back m (x ∷ xs) ys new = new-back (set m x tag) xs ys new.1

  -- a walk that fails
  pub walk_no : {Good : Type 0} (bs m m' : List ℕ) → (Good → New tag m bs → ⊥) → Walked false Good tag bs m m'
  walk_no bs m m' not = record { says = say-no (λ g. not g.0 g.1); met = never }

  -- the same walk, for what holds just where the first does
  pub walk_same : {A B : Type 0} {r : Bool} (bs m m' : List ℕ) → (A → B) → (B → A) → Walked r A tag bs m m' → Walked r B tag bs m m'
  walk_same bs m m' to back walked = record {
    says = say-same (λ g. (to g.0, g.1)) (λ g. (back g.0, g.1)) walked.says;
    met = walked.met;
  }

  -- two walks
  pub walk-both : {A B : Type 0} {r s : Bool} (xs ys m m' m'' : List ℕ) → r ≡ true → Walked r A tag xs m m' → Walked s B tag ys m' m''
      → Walked s (A × B) tag (xs ++ ys) m m''
  walk-both xs ys m m' m'' passed first second =
      let marked : m' ≡ meet tag m xs = first.met passed in
      let good = first.says.sound passed in
      record {
        says = record {
          sound = λ e. let g = second.says.sound e in ((good.0, g.0), new-append m xs ys good.1 (rw marked at g.1));
          complete = λ g. second.says.complete (g.0.1, rw marked (new-back m xs ys g.1));
        };
        met = λ e. second.met e ∙ ap (λ (n : List ℕ). meet tag n ys) marked ∙ sym (meet-append m xs ys);
      }

  -- the first of two fails
  pub walk-fails : {A B : Type 0} {r : Bool} (xs ys m m' m'' : List ℕ) → r ≡ false → Walked r A tag xs m m' → Walked false (A × B) tag (xs ++ ys) m m''
  walk-fails {r = r} xs ys m m' m'' failed first =
      walk_no (xs ++ ys) m m'' (λ g new. not-both r (first.says.complete (g.0, new-front m xs ys new)) failed)

  -- a walk that succeeds, and a test of no further block: C is what the test says, given what the walk found
  pub walk-test : {A B C : Type 0} {r s : Bool} (bs m m' : List ℕ) → r ≡ true → Walked r A tag bs m m' → Says s B → (A → B → C) → (A → C → B)
      → Walked s (A × C) tag bs m m'
  walk-test bs m m' passed walked tested to back =
      let good = walked.says.sound passed in
      record {
        says = record { sound = λ e. ((good.0, to good.0 (tested.sound e)), good.1); complete = λ g. tested.complete (back good.0 g.0.1) };
        met = λ e. walked.met passed;
      }

  -- what a walk that succeeds has found
  pub walk-found : {A : Type 0} {r : Bool} {bs m m' : List ℕ} → r ≡ true → Walked r A tag bs m m' → A
  walk-found passed walked = (walked.says.sound passed).0
