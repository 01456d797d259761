-- One level of a tree: splitting a node, mending a short child, and which child takes a place.
use Rattle.std.specs.Prelude.{cond, List, [], ◌∷◌, ◌++◌, ℕ, suc, ◌+◌, ◌-◌, ◌/◌, ◌≤◌, ◌<◌, min, leb, length, get_or, take, drop}
use Rattle.lists.specs.Sums.{total}

-- where a node is cut in two
abbrev pub middle : {A : Type 0} → List A → ℕ
middle xs = length xs / 2

-- a node's two halves
unfoldable pub halves : {A : Type 0} → List A → List (List A)
halves xs = take (middle xs) xs ∷ drop (middle xs) xs ∷ []

-- one node if its entries are at most so many, else its two halves
unfoldable pub chop : {A : Type 0} → ℕ → List A → List (List A)
chop most xs = cond (leb (length xs) most) (xs ∷ []) (halves xs)

-- entries of the shorter of two neighbours
abbrev pub shorter : {A : Type 0} → List A → List A → ℕ
shorter x y = min (length x) (length y)

-- the first child that is short, joined with its neighbour and chopped: the left one if there is one, else the right
unfoldable pub mend : {A : Type 0} → ℕ → ℕ → List (List A) → List (List A)
mend least most [] = []
mend least most (x ∷ []) = x ∷ []
mend least most (x ∷ y ∷ ys) = cond (leb least (shorter x y)) (x ∷ mend least most (y ∷ ys)) (chop most (x ++ y) ++ ys)

-- the number of the item that takes i: the first up to which f adds up to i or more, or the last
unfoldable pub seat : {A : Type 0} → (A → ℕ) → ℕ → List A → ℕ
seat f i [] = 0
seat f i (x ∷ []) = 0
seat f i (x ∷ y ∷ ys) = cond (leb i (f x)) 0 (suc (seat f (i - f x) (y ∷ ys)))

-- what is left of i in that item
unfoldable pub rest : {A : Type 0} → (A → ℕ) → ℕ → List A → ℕ
rest f i xs = i - total f (take (seat f i xs) xs)

-- the child that takes i
unfoldable pub chosen : {A : Type 0} → (List A → ℕ) → ℕ → List (List A) → List A
chosen f i xs = get_or xs (seat f i xs) []

-- the children, where in place of the one that takes i stand the pieces that an edit makes of it
unfoldable pub in_child : {A : Type 0} → (List A → ℕ) → (ℕ → List A → List (List A)) → ℕ → List (List A) → List (List A)
in_child f edit i xs = take (seat f i xs) xs ++ (edit (rest f i xs) (chosen f i xs) ++ drop (suc (seat f i xs)) xs)

-- the item x takes i between those before and those after it: those before add up to less than i, and with x to i at least;
-- the first takes 0, and the last all that is left
pub record Takes {A : Type 0} (f : A → ℕ) (i : ℕ) (before : List A) (x : A) (after : List A) : Type 0 where
  pub past : 0 < length before → total f before < i
  pub reach : 0 < length after → i ≤ total f before + f x
