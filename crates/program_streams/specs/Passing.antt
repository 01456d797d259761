-- What passing an input through a filter writes, where the bytes of the input and of the output are known.
use Rattle.std.specs.Prelude.{◌≡◌, Option, None, Some, ⊤, List, ◌++◌, ℕ, ◌-◌, ◌^◌, ◌<◌, length}
use Rattle.std.specs.Io.KnownBytes.{Appends}

-- bytes were taken in, and what is written for them was appended to the output: whatever the filter followed before, it follows with them
abbrev pub PassesOn : {S : Type 0} → (List ℕ → List ℕ → S → Type 0) → List ℕ → S → S → Option (List ℕ) → Option (List ℕ) → Type 0
PassesOn follows bytes before after old new =
    (input written : _) → follows input written before
    → (more : List ℕ) × follows (input ++ bytes) (written ++ more) after × Appends old new more

-- the input is over, and what was still to be written for it was appended to the output
abbrev pub PassesRest : {S : Type 0} → (List ℕ → List ℕ → S → Type 0) → (List ℕ → List ℕ) → S → Option (List ℕ) → Option (List ℕ) → Type 0
PassesRest follows filtered before old new =
    (input written : _) → follows input written before
    → (more : List ℕ) × (filtered input ≡ written ++ more) × Appends old new more

-- what is written for all bytes that a reader had left was appended to the output; of more bytes than there are turns nothing is said
abbrev pub WritesAll : (List ℕ → List ℕ) → Option (List ℕ) → Option (List ℕ) → Option (List ℕ) → Type 0
WritesAll filtered None old new = ⊤
WritesAll filtered (Some bytes) old new = length bytes < 2 ^ 64 - 1 → Appends old new (filtered bytes)
