-- A row of bytes as chunks of one size: where rows are joined or cut between chunks, so are the lists of chunks.
use mathlib.Core.Path.{◌≡◌, refl, sym, ap, ap₂, ◌∙◌}
use mathlib.Core.List.{List, [], ◌∷◌, ◌++◌}
use Prim.Native.Nat.{ℕ, zero, suc, ◌+◌, ◌-◌, ◌*◌, ◌≤◌}
use native.Mathlib.Nat.{zero-add}
use native.Mathlib.Omega.{arith}
use lib.ListN.{length, take, drop, length-drop, take-append-drop}
use lib.Seq.{length-take-le, take_all, take-take, take-append-le, drop-append-le, take_at, drop_at}
use Rattle.lists.proofs.Cuts.{drop-stretch}
use Rattle.lists.specs.Froms.{from}

-- so many chunks of unit bytes
unfoldable pub chunks : ℕ → ℕ → List ℕ → List (List ℕ)
chunks unit zero xs = []
chunks unit (suc many) xs = take unit xs ∷ chunks unit many (drop unit xs)

chunks-length : (unit many : ℕ) (xs : List ℕ) → length (chunks unit many xs) ≡ many
unfolding chunks
chunks-length unit zero xs = refl
chunks-length unit (suc many) xs = ap suc (chunks-length unit many (drop unit xs))

-- the stretches from an address on, one behind the other
pub chunks-from : (unit a : ℕ) (p : List ℕ) (k many : ℕ) → a + unit * k + unit * many ≤ length p
    → from (λ i. take unit (drop (a + unit * i) p)) k many ≡ chunks unit many (take (unit * many) (drop (a + unit * k) p))
unfolding chunks from
chunks-from unit a p k zero fits = refl
chunks-from unit a p k (suc many) fits =
    let here = a + unit * k in
    let less : unit * suc many - unit ≡ unit * many = omega arith in
    let next : here + unit ≡ a + unit * suc k = omega arith in
    ap₂ (λ (x : List ℕ) (xs : List (List ℕ)). x ∷ xs)
    (sym (take-take unit (unit * suc many) (drop here p) (omega arith)))
    (chunks-from unit a p (suc k) many (omega arith)
    ∙ ap (chunks unit many)
    (ap₂ (λ (n m : ℕ). take n (drop m p)) (sym less) (sym next) ∙ sym (drop-stretch p here unit (unit * suc many) (omega arith) (omega arith))))

pub chunks-one : (unit : ℕ) (xs : List ℕ) → length xs ≡ unit → chunks unit 1 xs ≡ xs ∷ []
unfolding chunks
chunks-one unit xs long = ap (λ (x : List ℕ). x ∷ []) (take_all unit xs (omega arith))

pub chunks-append : (unit n m : ℕ) (xs ys : List ℕ) → length xs ≡ unit * n → chunks unit (n + m) (xs ++ ys) ≡ chunks unit n xs ++ chunks unit m ys
unfolding chunks
chunks-append unit zero m [] ys long = ap (λ (k : ℕ). chunks unit k ys) (zero-add m)
chunks-append unit zero m (x ∷ xs) ys long = absurd (omega arith)
chunks-append unit (suc n) m xs ys long =
    let e : suc n + m ≡ suc (n + m) = omega arith in
    let within : unit ≤ length xs = omega arith in
    ap (λ (k : ℕ). chunks unit k (xs ++ ys)) e
    ∙ ap₂ (λ (z : List ℕ) (zs : List (List ℕ)). z ∷ zs) (take-append-le unit xs ys within)
    (ap (chunks unit (n + m)) (drop-append-le unit xs ys within)
    ∙ chunks-append unit n m (drop unit xs) ys (omega (arith, length-drop unit xs)))

-- a row of whole chunks, cut between them
module _ (unit n m : ℕ) (xs : List ℕ) (long : length xs ≡ unit * (n + m)) where
  chunks-two : chunks unit (n + m) xs ≡ chunks unit n (take (unit * n) xs) ++ chunks unit m (drop (unit * n) xs)
  chunks-two =
      ap (chunks unit (n + m)) (sym (take-append-drop (unit * n) xs))
      ∙ chunks-append unit n m (take (unit * n) xs) (drop (unit * n) xs) (length-take-le (unit * n) xs (omega arith))

  pub chunks-take : take n (chunks unit (n + m) xs) ≡ chunks unit n (take (unit * n) xs)
  chunks-take = ap (take n) chunks-two ∙ take_at (chunks unit n (take (unit * n) xs)) _ n (chunks-length unit n (take (unit * n) xs))

  pub chunks-drop : drop n (chunks unit (n + m) xs) ≡ chunks unit m (drop (unit * n) xs)
  chunks-drop = ap (drop n) chunks-two ∙ drop_at (chunks unit n (take (unit * n) xs)) _ n (chunks-length unit n (take (unit * n) xs))
