-- What the index holds: for each of sixteen names nothing, or an alphabet size, the shares promised and the marks.
use Rattle.std.specs.Prelude.{Bool, true, false, List, [], ◌∷◌, map, ℕ, ◌+◌, ◌-◌, get_or, replicate}
use Rattle.geometry.specs.Limits.{names}
use Rattle.sequence.specs.Definition1 as Definition1

-- how a name's marks are kept, what an edit leaves of them and how deep a place stands: here a list, in the crates above a tree
pub record Store (A : Type 0) : Type 0 where
  pub empty : A
  pub marks : A → List ℕ
  pub insert : ℕ → ℕ → A → A
  pub delete : ℕ → A → A
  pub depth : ℕ → A → ℕ

-- marks kept as a list, edited by Definition 1; a list has no depth
abbrev pub lists : Store (List ℕ)
lists =
    record {
      empty = [];
      marks = λ marks. marks;
      insert = Definition1.insert;
      delete = Definition1.delete;
      depth = λ place marks. 0;
    }

-- a name's part: closed, or open with its alphabet size, its shares q and its marks
pub data Part (A : Type 0) : Type 0 where
  closed : Part A
  opened : ℕ → ℕ → A → Part A

-- the pool's number of shares, and each name's part in turn
pub record State (A : Type 0) : Type 0 where
  pub shares : ℕ
  pub parts : List (Part A)

-- a freshly formatted pool of so many shares: every name closed
abbrev pub fresh_state : {A : Type 0} → ℕ → State A
fresh_state shares = record { shares = shares; parts = replicate names closed }

module _ {A : Type 0} where
  -- the part of a name; a name that there isn't counts as closed
  abbrev pub part_of : State A → ℕ → Part A
  part_of s name = get_or s.parts name closed

  -- the name is open
  abbrev pub is_open : Part A → Bool
  is_open closed = false
  is_open (opened alphabet q kept) = true

  -- its alphabet size
  abbrev pub alphabet_of : Part A → ℕ
  alphabet_of closed = 0
  alphabet_of (opened alphabet q kept) = alphabet

  -- the shares promised to a name: none to a closed one
  abbrev pub shares_of : Part A → ℕ
  shares_of closed = 0
  shares_of (opened alphabet q kept) = q

  -- the shares promised to all names together
  abbrev pub promised : List (Part A) → ℕ
  promised [] = 0
  promised (part ∷ parts) = shares_of part + promised parts

  -- the shares that nobody was promised
  abbrev pub unpromised : State A → ℕ
  unpromised s = s.shares - promised s.parts

  -- a name's marks, of which a closed one has none
  abbrev pub marks_of : Store A → Part A → List ℕ
  marks_of store closed = []
  marks_of store (opened alphabet q kept) = store.marks kept

module _ {A : Type 0} (store : Store A) where
  -- a part with its marks as a list
  abbrev pub part_as_list : Part A → Part (List ℕ)
  part_as_list closed = closed
  part_as_list (opened alphabet q kept) = opened alphabet q (store.marks kept)

  -- a state with every name's marks as a list
  abbrev pub as_lists : State A → State (List ℕ)
  as_lists s = record { shares = s.shares; parts = map part_as_list s.parts }
