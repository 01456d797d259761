-- A valid state stays valid: an accepted command leaves its name's part valid and promises no more than the unpromised shares, a
-- refused one leaves the part. Of the other parts nothing changes.
use mathlib.Core.Bool.{false≢true}
use mathlib.Core.List.{List, [], ◌∷◌}
use mathlib.Core.Path.{◌≡◌, refl, ◌∙◌}
use Prim.Native.Nat.{ℕ, zero, suc, ◌+◌, ◌*◌, ◌≤◌, ◌<◌}
use native.Mathlib.Omega.{arith}
use lib.ListN.{length, get_or, set, replicate}
use Rattle.geometry.specs.Limits.{names, marks_per_share}
use Rattle.protocol.specs.Commands.{edited, rows, row_for}
use Rattle.protocol.specs.Refusals.{status_of}
use Rattle.protocol.specs.Respond.{reply_of, reply, respond, state_after}
use Rattle.protocol.specs.State.{Store, Part, State, closed, opened, fresh_state, shares_of, marks_of, part_of, promised, unpromised, lists}
use Rattle.protocol.specs.Valid.{ValidOpen, ValidPart, Valid, Faithful}
use Rattle.protocol.specs.declared.Command.{Command}
use Rattle.protocol.proofs.Accepted.{OpenAccepted, InsertAccepted, PlaceAccepted, open-accepted, insert-accepted, delete-accepted}
use Rattle.sequence.proofs.Edits.{length-insert, length-delete-le, all_below-insert, all_below-delete}
use Rattle.protocol.proofs.Respond.{names-stay}
use Rattle.protocol.proofs.Commands.{by_row}

module _ {A : Type 0} where
  -- what holds of every name's part, and of a new one, holds of every name's part after the new one has taken a name's place
  pub each-after-set : (P : Part A → Type 0) (parts : List (Part A)) (name : ℕ) (new : Part A)
      → P new → ((other : ℕ) → P (get_or parts other closed)) → (other : ℕ) → P (get_or (set parts name new) other closed)
  each-after-set P [] name new here all other = all other
  each-after-set P (p ∷ ps) zero new here all zero = here
  each-after-set P (p ∷ ps) zero new here all (suc other) = all (suc other)
  each-after-set P (p ∷ ps) (suc name) new here all zero = all zero
  each-after-set P (p ∷ ps) (suc name) new here all (suc other) = each-after-set P ps name new here (λ k. all (suc k)) other

  -- the shares promised grow by no more than the name's own
  promised-after-set : (parts : List (Part A)) (name : ℕ) (new : Part A) (more : ℕ)
      → shares_of new ≤ shares_of (get_or parts name closed) + more → promised (set parts name new) ≤ promised parts + more
  promised-after-set [] name new more grown = omega arith
  promised-after-set (p ∷ ps) zero new more grown = omega arith
  promised-after-set (p ∷ ps) (suc name) new more grown = omega (arith, promised-after-set ps name new more grown)

  edited-keeps-shares : (edit : A → A) (part : Part A) → shares_of (edited edit part) ≡ shares_of part
  edited-keeps-shares edit closed = refl
  edited-keeps-shares edit (opened alphabet q kept) = refl

  pub formatted-is-closed : (many name : ℕ) → ◌≡◌ {A = Part A} (get_or (replicate many closed) name closed) closed
  formatted-is-closed zero name = refl
  formatted-is-closed (suc many) zero = refl
  formatted-is-closed (suc many) (suc name) = formatted-is-closed many name

-- a name that an accepted insert is for has room
pub insert-has-room : {A : Type 0} (store : Store A) (part : Part A) (c : Command) → ValidPart store part → InsertAccepted store part c
    → length (marks_of store part) < marks_per_share * shares_of part
insert-has-room store closed c valid allowed = absurd (false≢true allowed.is_open_lem)
insert-has-room store (opened alphabet q kept) c valid allowed = omega arith

-- a list keeps to Definition 1 as it is
pub lists-are-faithful : Faithful lists
lists-are-faithful = record { empty = refl; insert = λ mark place kept low high. refl; delete = λ place kept low high. refl }

module _ {A : Type 0} (store : Store A) (faithful : Faithful store) where
  valid-opened : (free : ℕ) (part : Part A) (c : Command) → OpenAccepted free part c → ValidOpen c.symbol c.number (store.marks store.empty)
  valid-opened free part c allowed =
      rw faithful.empty
      (record { least = allowed.least; most = allowed.most; some = allowed.some; below = tt; room = omega arith })

  valid-inserted : (part : Part A) (c : Command) → InsertAccepted store part c → ValidPart store part
      → ValidPart store (edited (store.insert c.symbol c.number) part)
  valid-inserted closed c allowed valid = tt
  valid-inserted (opened alphabet q kept) c allowed valid =
      rw (faithful.insert c.symbol c.number kept allowed.low allowed.high)
      (record {
        least = valid.least;
        most = valid.most;
        some = valid.some;
        below = all_below-insert alphabet c.symbol c.number (store.marks kept) allowed.symbol valid.below;
        room =
            omega (
              arith,
              length-insert c.symbol c.number (store.marks kept),
              insert-has-room store (opened alphabet q kept) c valid allowed,
            );
      })

  valid-deleted : (part : Part A) (c : Command) → PlaceAccepted store part c → ValidPart store part
      → ValidPart store (edited (store.delete c.number) part)
  valid-deleted closed c allowed valid = tt
  valid-deleted (opened alphabet q kept) c allowed valid =
      rw (faithful.delete c.number kept allowed.low allowed.high)
      (record {
        least = valid.least;
        most = valid.most;
        some = valid.some;
        below = all_below-delete alphabet c.number (store.marks kept) valid.below;
        room = omega (arith, length-delete-le c.number (store.marks kept));
      })

  module _ (free : ℕ) (part : Part A) (c : Command) where
    valid-effect : status_of store free part c ≡ 0 → ValidPart store part → ValidPart store ((row_for store c).effect free part c).part
    unfolding rows
    valid-effect accepted valid =
        by_row (λ code r. c.code ≡ code → ValidPart store (r.effect free part c).part) c.code (rows store) (
          λ is. valid-opened free part c (open-accepted store free part c is accepted),
          (
            λ is. tt,
            (
              λ is. valid-inserted part c (insert-accepted store free part c is accepted) valid,
              (
                λ is. valid-deleted part c (delete-accepted store free part c is accepted) valid,
                (λ is. valid, (λ is. valid, (λ is. valid, (λ is. valid, (λ is. valid, tt))))),
              ),
            ),
          ),
        )
        (λ is. valid)
        refl

    shares-after-effect : status_of store free part c ≡ 0 → shares_of ((row_for store c).effect free part c).part ≤ shares_of part + free
    unfolding rows
    shares-after-effect accepted =
        by_row (λ code r. c.code ≡ code → shares_of (r.effect free part c).part ≤ shares_of part + free) c.code (rows store) (
          λ is. omega (arith, (open-accepted store free part c is accepted).unpromised),
          (
            λ is. omega arith,
            (
              λ is. omega (arith, edited-keeps-shares (store.insert c.symbol c.number) part),
              (
                λ is. omega (arith, edited-keeps-shares (store.delete c.number) part),
                (λ is. omega arith, (λ is. omega arith, (λ is. omega arith, (λ is. omega arith, (λ is. omega arith, tt))))),
              ),
            ),
          ),
        )
        (λ is. omega arith)
        refl

    -- what holds of the part as it was and of the effect's holds of the reply's
    pub by-status : (P : Part A → Type 0) → P part → (status_of store free part c ≡ 0 → P ((row_for store c).effect free part c).part)
        → P (reply store free part c).part
    unfolding reply
    by-status P before after = go (status_of store free part c) refl
      where
        go : (status : ℕ) → status_of store free part c ≡ status → P (reply_of status part c ((row_for store c).effect free part c)).part
        go zero accepted = after accepted
        go (suc status) is = before

    -- a reply leaves a valid part valid
    pub reply-keeps-valid : ValidPart store part → ValidPart store (reply store free part c).part
    reply-keeps-valid valid = by-status (ValidPart store) valid (λ accepted. valid-effect accepted valid)

    -- and promises no more than the unpromised shares
    pub reply-promises-unpromised : shares_of (reply store free part c).part ≤ shares_of part + free
    reply-promises-unpromised = by-status (λ after. shares_of after ≤ shares_of part + free) (omega arith) shares-after-effect

  -- a valid state stays valid
  pub respond-keeps-valid : (s : State A) (c : Command) → Valid store s → Valid store (respond store s c).state
  unfolding respond
  respond-keeps-valid s c valid =
      let free = unpromised s in
      let part = part_of s c.name in
      let after = (reply store free part c).part in
      record {
        all = names-stay store s c ∙ valid.all;
        parts =
            each-after-set (ValidPart store) s.parts c.name after (reply-keeps-valid free part c (valid.parts c.name)) valid.parts;
        within = omega (arith, promised-after-set s.parts c.name after free (reply-promises-unpromised free part c));
      }

  pub commands-keep-valid : (s : State A) (cs : List Command) → Valid store s → Valid store (state_after store s cs)
  unfolding state_after
  commands-keep-valid s [] valid = valid
  commands-keep-valid s (c ∷ cs) valid = commands-keep-valid (respond store s c).state cs (respond-keeps-valid s c valid)

-- a formatted pool is valid
pub formatted-is-valid : {A : Type 0} (store : Store A) (shares : ℕ) → Valid store (fresh_state shares)
formatted-is-valid store shares =
    record { all = refl; parts = λ name. rw (formatted-is-closed names name) tt; within = omega arith }
