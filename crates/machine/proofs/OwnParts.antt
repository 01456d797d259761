-- A name's reply goes by its part and the command alone, the status of an opening aside; and that status is the part's own or 12.
use mathlib.Core.Bool.{Bool, true, false, cond, ◌&&◌}
use mathlib.Core.List.{List, [], ◌∷◌, ◌++◌}
use mathlib.Core.Logic.{◌⊎◌, ◌≢◌, inl, inr, ⊎_elim}
use mathlib.Core.Path.{◌≡◌, refl, sym, ap, ◌∙◌}
use Prim.Native.Nat.{ℕ, zero, suc, ◌<◌}
use native.Mathlib.Omega.{arith}
use borrow.Author.Tests.{eqb-true, eqb-false, le-ltb}
use lib.Dec.{ltb}
use lib.ListN.{get_or, take}
use Rattle.geometry.specs.Limits.{names}
use Rattle.lists.specs.Items.{All}
use Rattle.protocol.proofs.Accepted.{name-is-below, unpromised-accepted}
use Rattle.protocol.proofs.Bools.{both}
use Rattle.protocol.proofs.Respond.{accepted-reply, refused-reply, status-goes-by-part, respond-status, other-parts-stay, own-part-after}
use Rattle.protocol.proofs.Commands.{by_row}
use Rattle.protocol.proofs.Refusals.{no_row}
use Rattle.protocol.specs.Commands.{rows, row_for, open_code, unpromised_code}
use Rattle.protocol.specs.Refusals.{Refusal, applies, first_of, refusals, status_of}
use Rattle.protocol.specs.Respond.{Reply, reply_of, reply, respond}
use Rattle.protocol.specs.State.{Part, State, opened, part_of, unpromised}
use Rattle.protocol.specs.declared.Command.{Command}
use Rattle.shape.specs.Trees.{Tree, empty_t}
use Rattle.machine.specs.Machine.{trees}
use Rattle.machine.specs.OneName.{HasNames, reply_in, is_opening, OwnPartOnly, OtherPartsStay}

-- a name's reply where the status of an opening is given: of the state it looks at the name's part alone
unfoldable pub reply_at : ℕ → Part Tree → Command → Reply Tree
reply_at opening part c = reply_of (cond (is_opening c) opening (status_of trees 0 part c)) part c ((row_for trees c).effect 0 part c)

module _ (free : ℕ) (part : Part Tree) (c : Command) where
  -- no effect but that of code 09 looks at the unpromised shares
  effect-goes-by-part : c.code ≢ unpromised_code → (row_for trees c).effect 0 part c ≡ (row_for trees c).effect free part c
  unfolding rows
  effect-goes-by-part =
      by_row (λ code r. code ≢ unpromised_code → r.effect 0 part c ≡ r.effect free part c) c.code (rows trees) (
        λ k. refl,
        (λ k. refl, (λ k. refl, (λ k. refl, (λ k. refl, (λ k. refl, (λ k. refl, (λ k. refl, (λ k. absurd (k refl), tt)))))))),
      )
      (λ k. refl)

  module _ (opening : ℕ) (given : c.code ≡ open_code → opening ≡ status_of trees free part c) where
    status-at : cond (is_opening c) opening (status_of trees 0 part c) ≡ status_of trees free part c
    status-at = go (is_opening c) refl
      where
        go : (t : Bool) → is_opening c ≡ t → cond t opening (status_of trees 0 part c) ≡ status_of trees free part c
        go true is = given (eqb-true c.code open_code is)
        go false other = status-goes-by-part trees 0 free part c (eqb-false c.code open_code other)

    -- the reply of one of the sixteen names, whatever else the state holds
    pub reply-at : c.name < names → reply_at opening part c ≡ reply trees free part c
    unfolding reply_at reply
    reply-at below = rw status-at (go (status_of trees free part c) refl)
      where
        go : (status : ℕ) → status_of trees free part c ≡ status
            → reply_of status part c ((row_for trees c).effect 0 part c) ≡ reply_of status part c ((row_for trees c).effect free part c)
        go zero accepted =
            ap (reply_of 0 part c) (effect-goes-by-part (λ is. omega (arith, unpromised-accepted trees free part c is accepted)))
        go (suc status) is = refl

-- where of two numbers of unpromised shares one is enough for the last row, and no other row looks at them, the status is the same or
-- the last row's
module _ (free enough : ℕ) (part : Part Tree) (c : Command) (last : Refusal Tree) (none : applies last enough part c ≡ false) where
  abbrev SameOrLast : List (Refusal Tree) → Type 0
  SameOrLast rs =
      (first_of rs free part c ≡ first_of rs enough part c)
      ⊎ ((applies last free part c ≡ true) × (first_of rs free part c ≡ last.status))

  same-or-last : (rs : List (Refusal Tree)) → All (λ r. applies r enough part c ≡ applies r free part c) rs → SameOrLast (rs ++ last ∷ [])
  same-or-last [] same = rw none (go (applies last free part c) refl)
    where
      go : (t : Bool) → applies last free part c ≡ t
          → (cond t last.status 0 ≡ 0) ⊎ ((applies last free part c ≡ true) × (cond t last.status 0 ≡ last.status))
      go true is = inr (is, refl)
      go false is = inl refl
  same-or-last (r ∷ rs) same = rw same.0 (go (applies r free part c) (same-or-last rs same.1))
    where
      later : ℕ → ℕ
      later shares = first_of (rs ++ last ∷ []) shares part c

      go : (t : Bool) → SameOrLast (rs ++ last ∷ [])
          → (cond t r.status (later free) ≡ cond t r.status (later enough))
          ⊎ ((applies last free part c ≡ true) × (cond t r.status (later free) ≡ last.status))
      go true found = inl refl
      go false found = found

and-false : (a : Bool) → (a && false) ≡ false
and-false true = refl
and-false false = refl

module _ (free : ℕ) (part : Part Tree) (c : Command) where
  -- the status is the one where the shares asked for are there, or 12 at an opening
  pub status-is-own-or-twelve : (status_of trees free part c ≡ status_of trees c.number part c)
      ⊎ ((c.code ≡ open_code) × (status_of trees free part c ≡ 12))
  unfolding status_of refusals
  status-is-own-or-twelve =
      let last = get_or (refusals trees) 11 no_row in
      let none : applies last c.number part c ≡ false = rw (le-ltb c.number c.number (omega arith)) (and-false (is_opening c)) in
      ⊎_elim
      (λ same. inl same)
      (λ lacking. inr (eqb-true c.code open_code (both (is_opening c) (ltb free c.number) lacking.0).0, lacking.1))
      (same-or-last free c.number part c last none (take 11 (refusals trees)) (
        refl,
        (refl, (refl, (refl, (refl, (refl, (refl, (refl, (refl, (refl, (refl, tt)))))))))),
      ))

-- a state's reply is that of the name's part
pub reply-in : (s : State Tree) (c : Command) → HasNames s → c.name < names
    → reply_in s c ≡ reply trees (unpromised s) (part_of s c.name) c
unfolding respond
reply-in s c has below =
    ap (λ part. record { answer = (reply trees (unpromised s) (part_of s c.name) c).answer; part = part })
    (own-part-after trees s c (omega arith))

pub own-part-only : (s : State Tree) (c : Command) → OwnPartOnly s c
own-part-only s c has below =
    let free = unpromised s in
    let part = part_of s c.name in
    ⊎_elim
    (λ same.
    inl
    (reply-in s c has below
    ∙ sym (reply-at free part c (status_of trees free part c) (λ is. refl) below)
    ∙ reply-at c.number part c (status_of trees free part c) (λ is. same) below))
    (λ lacking.
    inr (
      lacking.0,
      reply-in s c has below
          ∙ refused-reply trees free part c (λ none. omega (arith, lacking.1))
          ∙ rw lacking.1,
    ))
    (status-is-own-or-twelve free part c)

pub others-stay : (s : State Tree) (c : Command) → OtherPartsStay s c
others-stay s c x other = other-parts-stay trees s c x other

-- an opening that isn't refused leaves the empty leaf, whatever the name held before
pub opening-starts-afresh : (s : State Tree) (c : Command) → HasNames s → c.code ≡ open_code → (respond trees s c).answer.status ≡ 0
    → part_of (respond trees s c).state c.name ≡ opened c.symbol c.number empty_t
unfolding rows
opening-starts-afresh s c has is taken =
    let free = unpromised s in
    let part = part_of s c.name in
    let accepted : status_of trees free part c ≡ 0 = sym (respond-status trees s c) ∙ taken in
    let below = name-is-below trees free part c accepted (λ other. omega arith) in
    ap (λ r. r.part) (reply-in s c has below ∙ accepted-reply trees free part c accepted) ∙ rw is
