-- What holds of a command that isn't refused: no row of the table of statuses applies, and each is read at the command's code.
use mathlib.Core.Bool.{true, false, true≢false}
use mathlib.Core.Logic.{◌≢◌}
use mathlib.Core.Path.{◌≡◌, refl, subst}
use Prim.Native.Nat.{ℕ, ◌+◌, ◌-◌, ◌*◌, ◌≤◌, ◌<◌}
use native.Mathlib.Omega.{arith}
use borrow.Author.Tests.{eqb-true, eqb-false, ne_eqb, leb-true, leb-false, ltb-true, ltb-false, not-false}
use lib.Dec.{leb}
use lib.ListN.{length, get_or}
use Rattle.geometry.specs.Limits.{names, least_alphabet, most_alphabet, marks_per_share}
use Rattle.sequence.specs.Definition1.{count}
use Rattle.protocol.specs.Commands.{open_code, close_code, insert_code, delete_code, access_code, rank_code, select_code, length_code, unpromised_code}
use Rattle.protocol.specs.Commands.{rows}
use Rattle.protocol.specs.Refusals.{NoneApplies, applies, refusals, status_of, listed, is_name_allowed, no_name}
use Rattle.protocol.specs.State.{Store, Part, closed, opened, is_open, alphabet_of, shares_of, marks_of}
use Rattle.protocol.specs.declared.Command.{Command}
use Rattle.protocol.proofs.Bools.{both, neither}
use Rattle.protocol.proofs.Commands.{with_code}
use Rattle.protocol.proofs.Refusals.{no_row, none-at, status-is-lowest}

-- a closed name is opened with an allowed alphabet size and some of the unpromised shares
pub record OpenAccepted {A : Type 0} (free : ℕ) (part : Part A) (c : Command) : Type 0 where
  pub is-closed : part ≡ closed
  pub least : least_alphabet ≤ c.symbol
  pub most : c.symbol ≤ most_alphabet
  pub some : 1 ≤ c.number
  pub unpromised : c.number ≤ free

-- a mark of the alphabet is put at one of the places 1 to n + 1 of an open name that isn't full
pub record InsertAccepted {A : Type 0} (store : Store A) (part : Part A) (c : Command) : Type 0 where
  pub is_open_lem : is_open part ≡ true
  pub symbol : c.symbol < alphabet_of part
  pub low : 1 ≤ c.number
  pub high : c.number ≤ length (marks_of store part) + 1
  pub not_full : length (marks_of store part) ≢ marks_per_share * shares_of part

-- one of the places 1 to n of an open name is taken out or looked at
pub record PlaceAccepted {A : Type 0} (store : Store A) (part : Part A) (c : Command) : Type 0 where
  pub is_open_lem : is_open part ≡ true
  pub low : 1 ≤ c.number
  pub high : c.number ≤ length (marks_of store part)

-- a symbol of the alphabet is counted at one of the places 0 to n of an open name
pub record RankAccepted {A : Type 0} (store : Store A) (part : Part A) (c : Command) : Type 0 where
  pub is_open_lem : is_open part ≡ true
  pub symbol : c.symbol < alphabet_of part
  pub high : c.number ≤ length (marks_of store part)

-- a symbol of the alphabet is looked for in an open name that has at least so many of it
pub record SelectAccepted {A : Type 0} (store : Store A) (part : Part A) (c : Command) : Type 0 where
  pub is_open_lem : is_open part ≡ true
  pub symbol : c.symbol < alphabet_of part
  pub low : 1 ≤ c.number
  pub high : c.number ≤ count c.symbol (marks_of store part)

-- a name that isn't open is closed
closed-if-not-open : {A : Type 0} (part : Part A) → is_open part ≡ false → part ≡ closed
closed-if-not-open closed fails = refl
closed-if-not-open (opened alphabet q kept) fails = absurd (true≢false fails)

module _ {A : Type 0} (store : Store A) (free : ℕ) (part : Part A) where
  -- the test of a status fails
  abbrev Fails : ℕ → Command → Type 0
  Fails status c = applies (get_or (refusals store) (status - 1) no_row) free part c ≡ false

  -- at the command's code
  fails-at : (code : ℕ) (c : Command) → c.code ≡ code → status_of store free part c ≡ 0 → (status : ℕ) → Fails status (with_code code c)
  fails-at code c is accepted status =
      none-at (refusals store) free part (with_code code c) (status - 1)
      (subst (λ code'. NoneApplies (refusals store) free part (with_code code' c)) is ((status-is-lowest store free part c).none accepted))

  module _ (c : Command) where
    -- the code is in the table of commands
    pub code-is-listed : status_of store free part c ≡ 0 → listed store c.code ≡ true
    unfolding refusals
    code-is-listed accepted = not-false _ (fails-at c.code c refl accepted 1)

    pub name-is-allowed : status_of store free part c ≡ 0 → is_name_allowed c ≡ true
    unfolding refusals
    name-is-allowed accepted =
        not-false _ (rw (code-is-listed accepted) at (fails-at c.code c refl accepted 2))

    -- every command but 09 names one of the sixteen
    pub name-is-below : status_of store free part c ≡ 0 → c.code ≢ unpromised_code → c.name < names
    name-is-below accepted other =
        ltb-true c.name names (rw (ne_eqb c.code unpromised_code other) at (name-is-allowed accepted))

    pub open-accepted : c.code ≡ open_code → status_of store free part c ≡ 0 → OpenAccepted free part c
    unfolding rows refusals
    open-accepted is accepted =
        let fails = fails-at open_code c is accepted in
        let sizes = both _ _ (not-false _ (fails 6)) in
        let more : c.number ≡ 0 → ⊥ = eqb-false _ _ (fails 7) in
        record {
          is-closed = closed-if-not-open part (fails 4);
          least = leb-true _ _ sizes.0;
          most = leb-true _ _ sizes.1;
          some = omega arith;
          unpromised = ltb-false _ _ (fails 12);
        }

    pub close-accepted : c.code ≡ close_code → status_of store free part c ≡ 0 → is_open part ≡ true
    unfolding rows refusals
    close-accepted is accepted = not-false _ (fails-at close_code c is accepted 5)

    pub insert-accepted : c.code ≡ insert_code → status_of store free part c ≡ 0 → InsertAccepted store part c
    unfolding rows refusals
    insert-accepted is accepted =
        let fails = fails-at insert_code c is accepted in
        let place = both _ _ (not-false _ (fails 9)) in
        record {
          is_open_lem = not-false _ (fails 5);
          symbol = leb-false _ _ (fails 8);
          low = leb-true _ _ place.0;
          high = leb-true _ _ place.1;
          not_full = eqb-false _ _ (fails 11);
        }

    pub delete-accepted : c.code ≡ delete_code → status_of store free part c ≡ 0 → PlaceAccepted store part c
    unfolding rows refusals
    delete-accepted is accepted =
        let fails = fails-at delete_code c is accepted in
        let place = both _ _ (not-false _ (fails 9)) in
        record { is_open_lem = not-false _ (fails 5); low = leb-true _ _ place.0; high = leb-true _ _ place.1 }

    pub access-accepted : c.code ≡ access_code → status_of store free part c ≡ 0 → PlaceAccepted store part c
    unfolding rows refusals
    access-accepted is accepted =
        let fails = fails-at access_code c is accepted in
        let place = both _ _ (not-false _ (fails 9)) in
        record { is_open_lem = not-false _ (fails 5); low = leb-true _ _ place.0; high = leb-true _ _ place.1 }

    pub rank-accepted : c.code ≡ rank_code → status_of store free part c ≡ 0 → RankAccepted store part c
    unfolding rows refusals
    rank-accepted is accepted =
        let fails = fails-at rank_code c is accepted in
        let place = both (leb 0 c.number) _ (not-false _ (fails 9)) in
        record { is_open_lem = not-false _ (fails 5); symbol = leb-false _ _ (fails 8); high = leb-true _ _ place.1 }

    pub select-accepted : c.code ≡ select_code → status_of store free part c ≡ 0 → SelectAccepted store part c
    unfolding rows refusals
    select-accepted is accepted =
        let fails = fails-at select_code c is accepted in
        let ordinal = neither _ _ (fails 10) in
        let more : c.number ≡ 0 → ⊥ = eqb-false _ _ ordinal.0 in
        record {
          is_open_lem = not-false _ (fails 5);
          symbol = leb-false _ _ (fails 8);
          low = omega arith;
          high = ltb-false _ _ ordinal.1;
        }

    pub length-accepted : c.code ≡ length_code → status_of store free part c ≡ 0 → is_open part ≡ true
    unfolding rows refusals
    length-accepted is accepted = not-false _ (fails-at length_code c is accepted 5)

    pub unpromised-accepted : c.code ≡ unpromised_code → status_of store free part c ≡ 0 → c.name ≡ no_name
    unfolding rows refusals
    unpromised-accepted is accepted = eqb-true _ _ (not-false _ (fails-at unpromised_code c is accepted 2))
