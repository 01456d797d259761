-- The table of statuses: its numbers ascend, so the first that applies is the lowest; and when a row's status is given.
use mathlib.Core.Bool.{true, false, ◌&&◌}
use mathlib.Core.List.{List, [], ◌∷◌, ◌++◌, map}
use mathlib.Core.Logic.{◌↔◌}
use mathlib.Core.Path.{◌≡◌, refl, ap, ap₂, subst, sym, ◌∙◌}
use Prim.Native.Nat.{ℕ, zero, suc, ◌*◌, ◌<◌}
use borrow.Author.Tests.{eqb-true, eq-eqb, ltb-true, lt-ltb}
use lib.Dec.{lit<}
use lib.ListN.{length, get_or, take, drop}
use lib.Seq.{split_at}
use Rattle.geometry.specs.Limits.{marks_per_share}
use Rattle.protocol.specs.Commands.{open_code, insert_code}
use Rattle.protocol.specs.Refusals.{Refusal, refusal, applies, first_of, NoneApplies, Lowest, refusals, status_of}
use Rattle.protocol.specs.State.{Store, Part, shares_of, marks_of}
use Rattle.protocol.specs.declared.Command.{Command}
use Rattle.protocol.proofs.Bools.{both}
use Rattle.protocol.proofs.Order.{Ascending, first-gives-lowest, given-if, given-only-if}

-- a row that never applies, for what stands past a table's end
abbrev pub no_row : {A : Type 0} → Refusal A
no_row = refusal 0 (λ code. false) (λ free part c. false)

-- where none applies, the row at an index doesn't
pub none-at : {A : Type 0} (rs : List (Refusal A)) (free : ℕ) (part : Part A) (c : Command) (k : ℕ) → NoneApplies rs free part c
    → applies (get_or rs k no_row) free part c ≡ false
none-at [] free part c k none = refl
none-at (r ∷ rs) free part c zero none = none.0
none-at (r ∷ rs) free part c (suc k) none = none-at rs free part c k none.1

module _ {A : Type 0} (store : Store A) where
  -- the numbers are 1 to 12, in this order
  pub statuses-are-one-to-twelve : map (λ r. r.status) (refusals store) ≡ 1 ∷ 2 ∷ 3 ∷ 4 ∷ 5 ∷ 6 ∷ 7 ∷ 8 ∷ 9 ∷ 10 ∷ 11 ∷ 12 ∷ []
  unfolding refusals
  statuses-are-one-to-twelve = refl

  pub statuses-ascend : Ascending 0 (refusals store)
  unfolding refusals
  statuses-ascend =
      (lit< tt, (lit< tt, (lit< tt, (lit< tt, (lit< tt, (lit< tt, (lit< tt, (lit< tt, (lit< tt, (lit< tt, (lit< tt, (lit< tt, tt))))))))))))

  module _ (free : ℕ) (part : Part A) (c : Command) where
    -- the status is the lowest number that applies, and 0 exactly when none applies
    pub status-is-lowest : Lowest (refusals store) free part c (status_of store free part c)
    unfolding status_of
    status-is-lowest = first-gives-lowest free part c (refusals store) statuses-ascend

    -- a row's status is given exactly when it applies and none before it does
    pub status-given-exactly-when : (k : ℕ) → k < length (refusals store)
        → (status_of store free part c ≡ (get_or (refusals store) k no_row).status)
        ↔ (NoneApplies (take k (refusals store)) free part c × (applies (get_or (refusals store) k no_row) free part c ≡ true))
    unfolding status_of
    status-given-exactly-when k below =
        let rs = refusals store in
        let split : rs ≡ take k rs ++ get_or rs k no_row ∷ drop (suc k) rs = split_at rs k no_row below in (
          λ is.
              given-only-if free part c 0 (take k rs) (get_or rs k no_row) (drop (suc k) rs)
              (subst (Ascending 0) split statuses-ascend)
              (ap (λ l. first_of l free part c) (sym split) ∙ is),
          λ holds.
              ap (λ l. first_of l free part c) split
              ∙ given-if free part c (take k rs) (get_or rs k no_row) (drop (suc k) rs) holds.0 holds.1,
        )

    -- 11 exactly when a name that an insert is for is full and nothing before 11 applies
    pub full-exactly-when : (status_of store free part c ≡ 11)
        ↔ (NoneApplies (take 10 (refusals store)) free part c
        × (c.code ≡ insert_code)
        × (length (marks_of store part) ≡ marks_per_share * shares_of part))
    unfolding refusals
    full-exactly-when =
        let exactly = status-given-exactly-when 10 (lit< tt) in (
          λ is.
              let holds = exactly.0 is in
              let tests = both _ _ holds.1 in
              (holds.0, eqb-true _ _ tests.0, eqb-true _ _ tests.1),
          λ holds. exactly.1 (holds.0, ap₂ ◌&&◌ (eq-eqb _ _ holds.1) (eq-eqb _ _ holds.2)),
        )

    -- 12 exactly when an opening wants more than the unpromised shares and nothing before 12 applies
    pub shares-exceeded-exactly-when : (status_of store free part c ≡ 12)
        ↔ (NoneApplies (take 11 (refusals store)) free part c
        × (c.code ≡ open_code)
        × (free < c.number))
    unfolding refusals
    shares-exceeded-exactly-when =
        let exactly = status-given-exactly-when 11 (lit< tt) in (
          λ is.
              let holds = exactly.0 is in
              let tests = both _ _ holds.1 in
              (holds.0, eqb-true _ _ tests.0, ltb-true _ _ tests.1),
          λ holds. exactly.1 (holds.0, ap₂ ◌&&◌ (eq-eqb _ _ holds.1) (lt-ltb _ _ holds.2)),
        )
