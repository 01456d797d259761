-- What has been passed on so far: nothing at first, then the bytes of one step more.
use Rattle.std.proofs.Common.{◌≡◌, ℕ, ◌≤◌, ◌+◌, ◌-◌, ◌^◌, List, [], ◌++◌, length, take, drop, sym, ap, subst, ◌∙◌}
use Rattle.std.proofs.Common.{append_assoc, append-nil, take-append-drop, length-append, length-take-le, arith}
use Rattle.std.specs.Prelude.{Option, None, Some}
use Rattle.std.specs.Io.KnownBytes.{Appends, Consumes, IsAtEnd}
use Rattle.std.proofs.KnownBytes.{Appends-trans, Consumes-trans}
use Rattle.program_streams.specs.Passing.{PassesOn, PassesRest, WritesAll}

-- all bytes of a known input were read, and what is written for them was appended
whole-written : (filtered : List ℕ → List ℕ) (first left old new : Option (List ℕ)) (read : List ℕ) → Consumes first left (read ++ [])
    → IsAtEnd left → Appends old new (filtered read) → WritesAll filtered first old new
whole-written filtered None left old new read all end written = tt
whole-written filtered (Some bytes) None old new read all end written = absurd all
whole-written filtered (Some bytes) (Some rest) old new read all end written =
    λ few. rw (all, end, append-nil (read ++ []), append-nil read) written

-- a known input has no more bytes than have been read
too-many : (filtered : List ℕ → List ℕ) (first left old new : Option (List ℕ)) (read : List ℕ) → Consumes first left read
    → 2 ^ 64 - 1 ≤ length read → WritesAll filtered first old new
too-many filtered None left old new read consumes over = tt
too-many filtered (Some bytes) None old new read consumes over = absurd consumes
too-many filtered (Some bytes) (Some rest) old new read consumes over =
    λ few. absurd (omega (arith, ap length consumes, length-append read rest))

module _ {S : Type 0} (follows : List ℕ → List ℕ → S → Type 0) where
  -- bytes, and then more
  passes-both : (xs ys : List ℕ) (s t u : S) (a b c : Option (List ℕ)) → PassesOn follows xs s t a b → PassesOn follows ys t u b c
      → PassesOn follows (xs ++ ys) s u a c
  passes-both xs ys s t u a b c first second input written f =
      let one = first input written f in
      let two = second (input ++ xs) (written ++ one.0) one.1 in (
        one.0 ++ two.0,
        rw (← append_assoc input xs ys, ← append_assoc written one.0 two.0) two.1,
        Appends-trans a b c one.0 two.0 one.2 two.2,
      )

  -- the bytes of a chunk before the rest have been passed on
  pub record PassedSoFar (chunk rest : List ℕ) (before after : S) (old new : Option (List ℕ)) : Type 0 where
    pub front : List ℕ
    pub whole : front ++ rest ≡ chunk
    pub passes : PassesOn follows front before after old new

  -- all that has been read was passed on, and there were no more turns than bytes
  pub record PassedAll (first left : Option (List ℕ)) (before after : S) (old new : Option (List ℕ)) (turns : ℕ) : Type 0 where
    pub read : List ℕ
    pub consumes : Consumes first left read
    pub passes : PassesOn follows read before after old new
    pub many : turns ≤ length read

module _ {S : Type 0} {follows : List ℕ → List ℕ → S → Type 0} {before between : S} {old mid : Option (List ℕ)} where
  -- a step more, by some bytes of the rest
  pub passed-more : {chunk rest : List ℕ} (rest' : List ℕ) (after : S) (new : Option (List ℕ)) (n : ℕ)
      → PassedSoFar follows chunk rest before between old mid → rest' ≡ drop n rest
      → PassesOn follows (take n rest) between after mid new → PassedSoFar follows chunk rest' before after old new
  passed-more {rest = rest} rest' after new n so_far is step =
      record {
        front = so_far.front ++ take n rest;
        whole =
            append_assoc so_far.front (take n rest) rest'
            ∙ ap (λ l. so_far.front ++ l) (ap (λ l. take n rest ++ l) is ∙ take-append-drop n rest)
            ∙ so_far.whole;
        passes = passes-both follows so_far.front (take n rest) before between after old mid new so_far.passes step;
      }

  module _ {first left : Option (List ℕ)} {turns : ℕ} (so_far : PassedAll follows first left before between old mid turns) where
    -- a turn more, that read some bytes
    pub passed-turn : (left' new : Option (List ℕ)) (after : S) (n : ℕ) (bytes : List ℕ) → (n ≡ 0 → ⊥) → n ≤ length bytes
        → Consumes left left' (take n bytes) → PassesOn follows (take n bytes) between after mid new
        → PassedAll follows first left' before after old new (turns + 1)
    passed-turn left' new after n bytes some within consumes step =
        record {
          read = so_far.read ++ take n bytes;
          consumes = Consumes-trans first left left' so_far.read (take n bytes) so_far.consumes consumes;
          passes = passes-both follows so_far.read (take n bytes) before between after old mid new so_far.passes step;
          many = simp length-append (omega (arith, some, so_far.many, length-take-le n bytes within));
        }

    -- the input is over, and the rest was passed on
    pub passed-whole : (filtered : List ℕ → List ℕ) (left' new : Option (List ℕ)) → Consumes left left' [] → IsAtEnd left'
        → PassesRest follows filtered between mid new → follows [] [] before → WritesAll filtered first old new
    passed-whole filtered left' new none end rest starts =
        let passed = so_far.passes [] [] starts in
        let last = rest so_far.read passed.0 passed.1 in
        whole-written filtered first left' old new so_far.read (Consumes-trans first left left' so_far.read [] so_far.consumes none) end
        (subst (Appends old new) (sym last.1) (Appends-trans old mid new passed.0 last.0 passed.2 last.2))

    -- there were more turns than a known input has bytes
    pub passed-too-many : (filtered : List ℕ → List ℕ) → 2 ^ 64 - 1 ≤ turns → WritesAll filtered first old mid
    passed-too-many filtered over = too-many filtered first left old mid so_far.read so_far.consumes (omega (arith, so_far.many))
