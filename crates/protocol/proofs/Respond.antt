-- What every answer and every state after a command has: a refused command and a query leave the state, and no command touches another
-- name's part.
use mathlib.Core.List.{List, [], ◌∷◌, ◌++◌}
use mathlib.Core.Logic.{◌≢◌}
use mathlib.Core.Path.{◌≡◌, refl, ap, ◌∙◌}
use Prim.Native.Nat.{ℕ, zero, suc, ◌≤◌, ◌<◌}
use native.Mathlib.Omega.{arith}
use borrow.Author.Tests.{ne_eqb}
use lib.ListN.{length, length-set}
use lib.Seq.{set-get_or, get_or-set_same, get_or-set_other}
use Rattle.protocol.specs.Commands.{Effect, rows, row_for, open_code, access_code}
use Rattle.protocol.specs.Refusals.{refusals, status_of}
use Rattle.protocol.specs.Respond.{accepted, refused, reply_of, reply, respond, answers_to, state_after}
use Rattle.protocol.specs.State.{Store, Part, State, closed, part_of, unpromised}
use Rattle.protocol.specs.declared.Command.{Command}
use Rattle.protocol.proofs.Commands.{by_row}

module _ {A : Type 0} (part : Part A) (c : Command) (e : Effect A) where
  reply-of-status : (status : ℕ) → (reply_of status part c e).answer.status ≡ status
  reply-of-status zero = refl
  reply-of-status (suc status) = refl

  reply-of-name : (status : ℕ) → (reply_of status part c e).answer.name ≡ c.name
  reply-of-name zero = refl
  reply-of-name (suc status) = refl

  reply-of-refused : (status : ℕ) → status ≢ 0 → reply_of status part c e ≡ record { answer = refused status c; part = part }
  reply-of-refused zero some = absurd (some refl)
  reply-of-refused (suc status) some = refl

  reply-of-kept : (status : ℕ) → e.part ≡ part → (reply_of status part c e).part ≡ part
  reply-of-kept zero kept = kept
  reply-of-kept (suc status) kept = refl

module _ {A : Type 0} (store : Store A) where
  module _ (free : ℕ) (part : Part A) (c : Command) where
    -- the answer's status is the lowest that applies
    pub reply-status : (reply store free part c).answer.status ≡ status_of store free part c
    unfolding reply
    reply-status = reply-of-status part c ((row_for store c).effect free part c) (status_of store free part c)

    -- the name byte as received
    pub reply-name : (reply store free part c).answer.name ≡ c.name
    unfolding reply
    reply-name = reply-of-name part c ((row_for store c).effect free part c) (status_of store free part c)

    -- a refused command: the status, the name, zeros, and the part as it was
    pub refused-reply : status_of store free part c ≢ 0
        → reply store free part c ≡ record { answer = refused (status_of store free part c) c; part = part }
    unfolding reply
    refused-reply = reply-of-refused part c ((row_for store c).effect free part c) (status_of store free part c)

    -- any other: its row's effect
    pub accepted-reply : status_of store free part c ≡ 0
        → reply store free part c
        ≡ record { answer = accepted c ((row_for store c).effect free part c); part = ((row_for store c).effect free part c).part }
    unfolding reply
    accepted-reply none = ap (λ status. reply_of status part c ((row_for store c).effect free part c)) none

    -- from access on, no row of the table changes the part
    query-effect : access_code ≤ c.code → ((row_for store c).effect free part c).part ≡ part
    unfolding rows
    query-effect =
        by_row (λ code r. access_code ≤ code → (r.effect free part c).part ≡ part) c.code (rows store) (
          λ late. absurd (omega arith),
          (
            λ late. absurd (omega arith),
            (
              λ late. absurd (omega arith),
              (λ late. absurd (omega arith), (λ late. refl, (λ late. refl, (λ late. refl, (λ late. refl, (λ late. refl, tt)))))),
            ),
          ),
        )
        (λ late. refl)

    -- access, rank, select, length and unpromised leave the part
    pub query-keeps-part : access_code ≤ c.code → (reply store free part c).part ≡ part
    unfolding reply
    query-keeps-part late =
        reply-of-kept part c ((row_for store c).effect free part c) (status_of store free part c) (query-effect late)

  module _ (free other : ℕ) (part : Part A) (c : Command) where
    -- only an opening's status looks at the unpromised shares
    pub status-goes-by-part : c.code ≢ open_code → status_of store free part c ≡ status_of store other part c
    unfolding status_of refusals
    status-goes-by-part no-opening = rw (ne_eqb c.code open_code no-opening)

  module _ (s : State A) (c : Command) where
    -- the answer is the name's own
    pub respond-answer : (respond store s c).answer ≡ (reply store (unpromised s) (part_of s c.name) c).answer
    unfolding respond
    respond-answer = refl

    pub respond-status : (respond store s c).answer.status ≡ status_of store (unpromised s) (part_of s c.name) c
    unfolding respond
    respond-status = reply-status (unpromised s) (part_of s c.name) c

    -- every answer carries the name byte as received
    pub answer-has-name : (respond store s c).answer.name ≡ c.name
    unfolding respond
    answer-has-name = reply-name (unpromised s) (part_of s c.name) c

    -- where the part stays, the state does
    kept-part-keeps-state : (reply store (unpromised s) (part_of s c.name) c).part ≡ part_of s c.name → (respond store s c).state ≡ s
    unfolding respond
    kept-part-keeps-state kept =
        rw kept (ap (λ parts. record { shares = s.shares; parts = parts }) (set-get_or s.parts c.name closed))

    -- a refused command leaves the state
    pub refused-keeps-state : (respond store s c).answer.status ≢ 0 → (respond store s c).state ≡ s
    refused-keeps-state some =
        kept-part-keeps-state
        (ap (λ r. r.part) (refused-reply (unpromised s) (part_of s c.name) c (λ none. some (respond-status ∙ none))))

    -- and its answer has no symbol, depth and value
    pub refused-answers-zeros : (respond store s c).answer.status ≢ 0 → (respond store s c).answer ≡ refused (respond store s c).answer.status c
    refused-answers-zeros some =
        respond-answer
        ∙ ap (λ r. r.answer) (refused-reply (unpromised s) (part_of s c.name) c (λ none. some (respond-status ∙ none)))
        ∙ rw respond-status

    -- access, rank, select, length and unpromised leave the state
    pub query-keeps-state : access_code ≤ c.code → (respond store s c).state ≡ s
    query-keeps-state late = kept-part-keeps-state (query-keeps-part (unpromised s) (part_of s c.name) c late)

    -- the number of names stays
    pub names-stay : length (respond store s c).state.parts ≡ length s.parts
    unfolding respond
    names-stay = length-set s.parts c.name (reply store (unpromised s) (part_of s c.name) c).part

    -- a command leaves every other name's part
    pub other-parts-stay : (name : ℕ) → name ≢ c.name → part_of (respond store s c).state name ≡ part_of s name
    unfolding respond
    other-parts-stay name other =
        get_or-set_other s.parts c.name name (reply store (unpromised s) (part_of s c.name) c).part closed other

    -- its own name's part is the one of the reply
    pub own-part-after : c.name < length s.parts
        → part_of (respond store s c).state c.name ≡ (reply store (unpromised s) (part_of s c.name) c).part
    unfolding respond
    own-part-after below =
        get_or-set_same s.parts c.name (reply store (unpromised s) (part_of s c.name) c).part closed below

  -- commands in two lists, one after the other
  pub state-after-append : (s : State A) (cs ds : List Command) → state_after store s (cs ++ ds) ≡ state_after store (state_after store s cs) ds
  unfolding state_after
  state-after-append s [] ds = refl
  state-after-append s (c ∷ cs) ds = state-after-append (respond store s c).state cs ds

  pub answers-append : (s : State A) (cs ds : List Command)
      → answers_to store s (cs ++ ds) ≡ answers_to store s cs ++ answers_to store (state_after store s cs) ds
  unfolding state_after answers_to
  answers-append s [] ds = refl
  answers-append s (c ∷ cs) ds = ap (λ l. (respond store s c).answer ∷ l) (answers-append (respond store s c).state cs ds)
