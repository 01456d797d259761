-- States that can come about: what every open name keeps to, and the promise that shares are not given twice.
use Rattle.std.specs.Prelude.{List, [], ◌≡◌, ℕ, ◌+◌, ◌*◌, ◌≤◌, length}
use Rattle.geometry.specs.Limits.{names, least_alphabet, most_alphabet, marks_per_share}
use Rattle.lists.specs.Items.{AllBelow}
use Rattle.sequence.specs.Definition1 as Definition1
use Rattle.protocol.specs.State.{Store, Part, State, closed, opened, part_of, promised}

-- an open name's alphabet size, shares and marks are allowed, and the marks are within what it was promised
pub record ValidOpen (alphabet q : ℕ) (marks : List ℕ) : Type 0 where
  pub least : least_alphabet ≤ alphabet
  pub most : alphabet ≤ most_alphabet
  pub some : 1 ≤ q
  pub below : AllBelow alphabet marks
  pub room : length marks ≤ marks_per_share * q

module _ {A : Type 0} (store : Store A) where
  -- an open name is as above; of a closed one there is nothing to ask
  abbrev pub ValidPart : Part A → Type 0
  ValidPart closed = Unit {0}
  ValidPart (opened alphabet q kept) = ValidOpen alphabet q (store.marks kept)

  -- sixteen names, each with a valid part, and no more shares promised than there are
  pub record Valid (s : State A) : Type 0 where
    pub all : length s.parts ≡ names
    pub parts : (name : ℕ) → ValidPart (part_of s name)
    pub within : promised s.parts ≤ s.shares

  -- the store's edits are those of Definition 1 on its marks
  pub record Faithful : Type 0 where
    pub empty : store.marks store.empty ≡ []
    pub insert : (mark place : ℕ) (kept : A) → 1 ≤ place → place ≤ length (store.marks kept) + 1
        → store.marks (store.insert mark place kept) ≡ Definition1.insert mark place (store.marks kept)
    pub delete : (place : ℕ) (kept : A) → 1 ≤ place → place ≤ length (store.marks kept)
        → store.marks (store.delete place kept) ≡ Definition1.delete place (store.marks kept)
