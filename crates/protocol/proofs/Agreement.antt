-- However a name's marks are kept, the index answers and goes on as it does on lists, but for the depth: the tables' columns are the
-- same for both, the tests look at the marks alone, and a faithful store's edits are those of the list.
use mathlib.Core.List.{List, [], ◌∷◌, map}
use mathlib.Core.Path.{◌≡◌, refl, sym, ap, ◌∙◌}
use Prim.Native.Nat.{ℕ, zero, suc, ◌+◌}
use native.Mathlib.Omega.{arith}
use lib.ListN.{length, set, get_or-map}
use Rattle.sequence.specs.Definition1 as Definition1
use Rattle.protocol.specs.Commands.{Effect, edited, depth_of, rows, row_for}
use Rattle.protocol.specs.Refusals.{refusals, status_of, listed}
use Rattle.protocol.specs.Respond.{reply, respond, answers_to, state_after, without_depth}
use Rattle.protocol.specs.State.{Store, Part, State, closed, opened, marks_of, part_of, promised, unpromised, lists, part_as_list, as_lists}
use Rattle.protocol.specs.Valid.{Faithful}
use Rattle.protocol.specs.declared.Command.{Command}
use Rattle.protocol.proofs.Accepted.{InsertAccepted, PlaceAccepted, insert-accepted, delete-accepted}
use Rattle.protocol.proofs.Respond.{accepted-reply, refused-reply}
use Rattle.protocol.proofs.Commands.{columns_of, columns-of-row, by-pair}

no-depth-on-lists : (part : Part (List ℕ)) (place : ℕ) → depth_of lists part place ≡ 0
no-depth-on-lists closed place = refl
no-depth-on-lists (opened alphabet q kept) place = refl

module _ {A : Type 0} (store : Store A) where
  -- the columns that tests look at are the same in both tables
  same-columns : (c : Command) → columns_of (row_for lists c) ≡ columns_of (row_for store c)
  unfolding rows
  same-columns c = columns-of-row c.code (rows lists) ∙ sym (columns-of-row c.code (rows store))

  pub same-listed : (code : ℕ) → listed lists code ≡ listed store code
  unfolding rows
  same-listed code = refl

  same-symbol : (c : Command) → (row_for lists c).uses_symbol ≡ (row_for store c).uses_symbol
  same-symbol c = ap (λ r. r.uses_symbol) (same-columns c)

  same_number : (c : Command) → (row_for lists c).uses_number ≡ (row_for store c).uses_number
  same_number c = ap (λ r. r.uses_number) (same-columns c)

  same-range : (c : Command) (n : ℕ) → (row_for lists c).in_range n c.number ≡ (row_for store c).in_range n c.number
  same-range c n = ap (λ r. r.in_range n c.number) (same-columns c)

  -- the status goes by the marks alone
  pub status-on-lists : (free : ℕ) (part : Part A) (c : Command) → status_of lists free (part_as_list store part) c ≡ status_of store free part c
  unfolding status_of refusals
  status-on-lists free closed c =
      rw (same-listed c.code, same-symbol c, same_number c, same-range c 0)
  status-on-lists free (opened alphabet q kept) c =
      rw (same-listed c.code, same-symbol c, same_number c, same-range c (length (store.marks kept)))

  marks-on-lists : (part : Part A) → marks_of lists (part_as_list store part) ≡ marks_of store part
  marks-on-lists closed = refl
  marks-on-lists (opened alphabet q kept) = refl

  promised-on-lists : (parts : List (Part A)) → promised (map (part_as_list store) parts) ≡ promised parts
  promised-on-lists [] = refl
  promised-on-lists (closed ∷ parts) = ap (λ n. 0 + n) (promised-on-lists parts)
  promised-on-lists (opened alphabet q kept ∷ parts) = ap (λ n. q + n) (promised-on-lists parts)

  set-on-lists : (parts : List (Part A)) (name : ℕ) (new : Part A)
      → map (part_as_list store) (set parts name new) ≡ set (map (part_as_list store) parts) name (part_as_list store new)
  set-on-lists [] name new = refl
  set-on-lists (p ∷ ps) zero new = refl
  set-on-lists (p ∷ ps) (suc name) new = ap (λ l. part_as_list store p ∷ l) (set-on-lists ps name new)

  -- an effect with the part's marks as a list, and no depth
  abbrev effect_as_list : Effect A → Effect (List ℕ)
  effect_as_list e = record { symbol = e.symbol; depth = 0; value = e.value; part = part_as_list store e.part }

  module _ (faithful : Faithful store) where
    inserted-on-lists : (part : Part A) (c : Command) → InsertAccepted store part c
        → edited (Definition1.insert c.symbol c.number) (part_as_list store part)
        ≡ part_as_list store (edited (store.insert c.symbol c.number) part)
    inserted-on-lists closed c allowed = refl
    inserted-on-lists (opened alphabet q kept) c allowed =
        ap (opened alphabet q) (sym (faithful.insert c.symbol c.number kept allowed.low allowed.high))

    deleted-on-lists : (part : Part A) (c : Command) → PlaceAccepted store part c
        → edited (Definition1.delete c.number) (part_as_list store part) ≡ part_as_list store (edited (store.delete c.number) part)
    deleted-on-lists closed c allowed = refl
    deleted-on-lists (opened alphabet q kept) c allowed =
        ap (opened alphabet q) (sym (faithful.delete c.number kept allowed.low allowed.high))

    effect-on-lists : (free : ℕ) (part : Part A) (c : Command) → status_of store free part c ≡ 0
        → (row_for lists c).effect free (part_as_list store part) c ≡ effect_as_list ((row_for store c).effect free part c)
    unfolding rows
    effect-on-lists free part c accepted =
        by-pair
        (λ code r r'. c.code ≡ code → r'.effect free (part_as_list store part) c ≡ effect_as_list (r.effect free part c))
        c.code (rows store) (rows lists) (
          refl,
          (λ is. rw faithful.empty),
          (
            refl,
            (λ is. refl),
            (
              refl,
              (λ is. rw (marks-on-lists part, inserted-on-lists part c (insert-accepted store free part c is accepted))),
              (
                refl,
                (λ is. rw (marks-on-lists part, deleted-on-lists part c (delete-accepted store free part c is accepted))),
                (
                  refl,
                  (λ is. rw (marks-on-lists part, no-depth-on-lists (part_as_list store part) c.number)),
                  (
                    refl,
                    (λ is. rw (marks-on-lists part)),
                    (refl, (λ is. rw (marks-on-lists part)), (refl, (λ is. rw (marks-on-lists part)), (refl, (λ is. refl), tt))),
                  ),
                ),
              ),
            ),
          ),
        )
        (λ is. refl)
        refl

    -- a reply on lists
    pub reply-on-lists : (free : ℕ) (part : Part A) (c : Command)
        → reply lists free (part_as_list store part) c
        ≡ record { answer = without_depth (reply store free part c).answer; part = part_as_list store (reply store free part c).part }
    reply-on-lists free part c = go (status_of store free part c) refl
      where
        same : status_of lists free (part_as_list store part) c ≡ status_of store free part c
        same = status-on-lists free part c

        go : (status : ℕ) → status_of store free part c ≡ status
            → reply lists free (part_as_list store part) c
            ≡ record { answer = without_depth (reply store free part c).answer; part = part_as_list store (reply store free part c).part }
        go zero accepted =
            accepted-reply lists free (part_as_list store part) c (same ∙ accepted)
            ∙ rw (effect-on-lists free part c accepted, accepted-reply store free part c accepted)
        go (suc status) is =
            refused-reply lists free (part_as_list store part) c (λ none. omega (arith, same))
            ∙ rw (refused-reply store free part c (λ none. omega arith), same)

    module _ (s : State A) (c : Command) where
      part-on-lists : part_of (as_lists store s) c.name ≡ part_as_list store (part_of s c.name)
      part-on-lists = get_or-map (part_as_list store) s.parts c.name closed

      unpromised-on-lists : unpromised (as_lists store s) ≡ unpromised s
      unpromised-on-lists = omega (arith, promised-on-lists s.parts)

      -- the answer to a command on lists is the store's but for the depth, and the state after it the store's as lists
      pub respond-on-lists : respond lists (as_lists store s) c
          ≡ record { answer = without_depth (respond store s c).answer; state = as_lists store (respond store s c).state }
      unfolding respond
      respond-on-lists =
          rw (unpromised-on-lists, part-on-lists, reply-on-lists (unpromised s) (part_of s c.name) c)
          (rw (set-on-lists s.parts c.name (reply store (unpromised s) (part_of s c.name) c).part))

    -- commands in order
    pub state-after-on-lists : (s : State A) (cs : List Command) → state_after lists (as_lists store s) cs ≡ as_lists store (state_after store s cs)
    unfolding state_after
    state-after-on-lists s [] = refl
    state-after-on-lists s (c ∷ cs) = rw (respond-on-lists s c) (state-after-on-lists (respond store s c).state cs)

    pub answers-on-lists : (s : State A) (cs : List Command) → answers_to lists (as_lists store s) cs ≡ map without_depth (answers_to store s cs)
    unfolding answers_to
    answers-on-lists s [] = refl
    answers-on-lists s (c ∷ cs) =
        rw (respond-on-lists s c)
        (ap (λ l. without_depth (respond store s c).answer ∷ l) (answers-on-lists (respond store s c).state cs))
