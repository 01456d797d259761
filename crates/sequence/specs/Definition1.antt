-- Definition 1 (RULES, Operations): the operations on a list of marks. Places count from 1.
-- Each is total. What it gives outside the ranges of RULES, Commands is of no account: the protocol refuses there.
use Rattle.std.specs.Prelude.{cond, List, [], ◌∷◌, ◌++◌, ℕ, zero, suc, ◌+◌, ◌-◌, eqb, get_or, take, drop}

-- 1 if the mark is c, else 0
abbrev pub is_mark : ℕ → ℕ → ℕ
is_mark c x = cond (eqb x c) 1 0

-- how many of the marks are c
unfoldable pub count : ℕ → List ℕ → ℕ
count c [] = 0
count c (x ∷ xs) = is_mark c x + count c xs

-- access(i): the mark at place i
unfoldable pub access : List ℕ → ℕ → ℕ
access xs i = get_or xs (i - 1) 0

-- rank of c at i: how many of the places 1 to i bear c
unfoldable pub rank : ℕ → List ℕ → ℕ → ℕ
rank c xs i = count c (take i xs)

-- select of c at j: the place of the j-th c, so it is 0 at j = 0. Every mark up to it is passed, and each c passed is one fewer to find
unfoldable pub select : ℕ → List ℕ → ℕ → ℕ
select c [] j = 0
select c (x ∷ xs) zero = 0
select c (x ∷ xs) (suc j) = suc (select c xs (suc j - is_mark c x))

-- insert of c at i: c stands between places i - 1 and i
unfoldable pub insert : ℕ → ℕ → List ℕ → List ℕ
insert c i xs = take (i - 1) xs ++ c ∷ drop (i - 1) xs

-- delete(i): place i is taken out
unfoldable pub delete : ℕ → List ℕ → List ℕ
delete i xs = take (i - 1) xs ++ drop i xs
