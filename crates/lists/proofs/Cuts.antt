-- Lists cut and joined: `take n (drop a p)` is the stretch of n numbers from a on.
use mathlib.Core.Path.{◌≡◌, refl, sym, ap, ◌∙◌}
use mathlib.Core.List.{List, [], ◌∷◌, ◌++◌}
use Prim.Native.Nat.{ℕ, zero, suc, ◌+◌, ◌-◌, ◌≤◌, ◌<◌}
use native.Mathlib.Numerals.{add-one}
use native.Mathlib.Omega.{arith}
use lib.ListN.{length, get_or, take, drop, length-take, length-drop}
use lib.Seq.{take_all, take-add, take-suc, drop_at, drop-append-add, drop-cons, drop-drop, get_or-take, get_or-drop, ext_get_or, split_at}

pub cut-length : (p : List ℕ) (a n : ℕ) → a + n ≤ length p → length (take n (drop a p)) ≡ n
cut-length p a n h = simp (length-take, length-drop) (omega arith)

-- a number of a stretch
pub cut-get_or : (p : List ℕ) (a n i : ℕ) → i < n → get_or (take n (drop a p)) i 0 ≡ get_or p (a + i) 0
cut-get_or p a n i h = get_or-take n (drop a p) i 0 h ∙ get_or-drop a p i 0

-- stretches of the same numbers are the same
cut-alike : (p q : List ℕ) (a b n : ℕ) → length (take n (drop b q)) ≡ length (take n (drop a p))
    → ((j : ℕ) → j < n → get_or q (b + j) 0 ≡ get_or p (a + j) 0) → take n (drop b q) ≡ take n (drop a p)
cut-alike p q a b n long each =
    ext_get_or 0 (take n (drop b q)) (take n (drop a p)) long
    (λ i h.
    let below : i < n = omega (arith, length-take n (drop b q)) in
    cut-get_or q b n i below ∙ each i below ∙ sym (cut-get_or p a n i below))

-- at one place of two lists of one length
pub cut-same : (p q : List ℕ) (a n : ℕ) → length q ≡ length p
    → ((j : ℕ) → j < n → get_or q (a + j) 0 ≡ get_or p (a + j) 0) → take n (drop a q) ≡ take n (drop a p)
cut-same p q a n long each = cut-alike p q a a n (simp (length-take, length-drop, long)) each

-- at two places
pub cut-equal : (p q : List ℕ) (a b n : ℕ) → a + n ≤ length p → b + n ≤ length q
    → ((j : ℕ) → j < n → get_or q (b + j) 0 ≡ get_or p (a + j) 0) → take n (drop b q) ≡ take n (drop a p)
cut-equal p q a b n here there each = cut-alike p q a b n (cut-length q b n there ∙ sym (cut-length p a n here)) each

-- a stretch cut in two
pub cut-two : (p : List ℕ) (a n m : ℕ) → take (n + m) (drop a p) ≡ take n (drop a p) ++ take m (drop (a + n) p)
cut-two p a n m = take-add n m (drop a p) ∙ ap (λ l. take n (drop a p) ++ take m l) (drop-drop n a p)

-- and in three
pub cut-three : (p : List ℕ) (a n m k : ℕ)
    → take (n + (m + k)) (drop a p) ≡ take n (drop a p) ++ (take m (drop (a + n) p) ++ take k (drop (a + n + m) p))
cut-three p a n m k = cut-two p a n (m + k) ∙ ap (λ (l : List ℕ). take n (drop a p) ++ l) (cut-two p (a + n) m k)

-- what stands behind the first n of a stretch
pub drop-stretch : (p : List ℕ) (a n m : ℕ) → n ≤ m → a + m ≤ length p → drop n (take m (drop a p)) ≡ take (m - n) (drop (a + n) p)
drop-stretch p a n m h fits =
    let e : m ≡ n + (m - n) = omega arith in
    ap (λ (k : ℕ). drop n (take k (drop a p))) e
    ∙ ap (drop n) (cut-two p a n (m - n))
    ∙ drop_at (take n (drop a p)) (take (m - n) (drop (a + n) p)) n (cut-length p a n (omega arith))

-- one number alone
pub cut-one : (p : List ℕ) (a : ℕ) → a < length p → take 1 (drop a p) ≡ get_or p a 0 ∷ []
cut-one p a h = ap (take 1) (drop-cons p a 0 h)

-- the stretch from a place to the end, as code lends it
pub rest-is : (p : List ℕ) (at : ℕ) → take (length p - at) (drop at p) ≡ drop at p
rest-is p at = take_all (length p - at) (drop at p) (omega (arith, length-drop at p))

pub length_rest : (p : List ℕ) (at : ℕ) → length (take (length p - at) (drop at p)) ≡ length p - at
length_rest p at = ap length (rest-is p at) ∙ length-drop at p

-- one number more, at `i + 1` as code has it
pub take_next : (l : List ℕ) (i : ℕ) → i < length l → take (i + 1) l ≡ take i l ++ (get_or l i 0 ∷ [])
take_next l i h = rw add-one (take-suc l i 0 h)

pub drop-next : (l : List ℕ) (i : ℕ) → i < length l → drop i l ≡ get_or l i 0 ∷ drop (i + 1) l
drop-next l i h = rw (add-one, drop-cons l i 0)

-- a number that is there doesn't depend on the default
pub get_or-there : (l : List ℕ) (i d e : ℕ) → i < length l → get_or l i d ≡ get_or l i e
get_or-there [] zero d e h = absurd (omega arith)
get_or-there [] (suc i) d e h = absurd (omega arith)
get_or-there (x ∷ l) zero d e h = refl
get_or-there (x ∷ l) (suc i) d e h = get_or-there l i d e (omega arith)

module _ {A : Type 0} where
  -- what stands behind the item at a seam
  pub drop-suc-seam : (before : List A) (x : A) (after : List A) → drop (suc (length before)) (before ++ x ∷ after) ≡ after
  drop-suc-seam before x after = rw (← add-one (length before)) (drop-append-add before (x ∷ after) 1)

  -- a list around two items that stand side by side
  pub split-two : (d : A) (xs : List A) (k : ℕ) → suc k < length xs → xs ≡ take k xs ++ get_or xs k d ∷ get_or xs (suc k) d ∷ drop (suc (suc k)) xs
  split-two d xs k inside = split_at xs k d (omega arith) ∙ ap (λ l. take k xs ++ get_or xs k d ∷ l) (drop-cons xs (suc k) d inside)
