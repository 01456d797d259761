-- A sound pool stands for a valid state; a change of one name changes that name's part and no other. Name by name, closed or open.
use mathlib.Core.Path.{◌≡◌, refl, sym, ap, ap₂, ◌∙◌}
use mathlib.Core.Bool.{cond}
use mathlib.Core.List.{List, [], ◌∷◌}
use mathlib.Core.Logic.{◌⊎◌, ⊎_elim}
use Prim.Native.Nat.{ℕ, ◌+◌, ◌-◌, ◌/◌, ◌≤◌, ◌<◌}
use native.Mathlib.Nat.{eq-zero-or-pos}
use native.Mathlib.Omega.{arith}
use lib.Dec.{eqb}
use lib.ListN.{length, set, get_or-eq_default}
use borrow.Author.Tests.{ne_eqb}
use Rattle.geometry.specs.Layout.{kind_closed}
use Rattle.geometry.specs.Limits.{names, block_size, directory_size}
use Rattle.geometry.specs.declared.Record.{Record}
use Rattle.lists.proofs.Froms.{length_from, get_or-from-start, from-set, total-from}
use Rattle.lists.proofs.Sums.{sum_below-same}
use Rattle.lists.specs.Froms.{from}
use Rattle.lists.specs.Sums.{total}
use Rattle.protocol.specs.State.{Store, Part, State, closed, opened, part_of, shares_of, promised, unpromised}
use Rattle.protocol.specs.Valid.{ValidPart, Valid}
use Rattle.shape.specs.Trees.{Tree, marks_t}
use Rattle.pool.specs.Bytes.{shares}
use Rattle.pool.specs.Meaning.{meaning_of, meaning}
use Rattle.pool.specs.Names.{record_of, tree_of}
use Rattle.pool.specs.Shares.{promised_shares, unpromised_shares}
use Rattle.pool.specs.Sound.{ClosedName, OpenName, Sound}
use Rattle.pool.specs.Trees.{shape_at}
use Rattle.pool.specs.Untouched.{Untouched}
use Rattle.pool.proofs.SoundNames.{open-marks}
use Rattle.pool.proofs.Written.{closed-record}
use Rattle.pool.proofs.Untouched.{record-kept, tree-kept, closed-kept, open_kept}

module _ (p : List ℕ) where
  pub closed-meaning : (name : ℕ) → ClosedName p name → meaning_of p name ≡ closed
  unfolding meaning_of
  closed-meaning name c =
      ap (λ (r : Record). cond {A = Part Tree} (eqb r.kind kind_closed) closed (opened r.alphabet r.q (record { height = r.height; root = shape_at p r.height r.root })))
      (closed-record p name c)

  pub open-meaning : (name : ℕ) → OpenName p name → meaning_of p name ≡ opened (record_of p name).alphabet (record_of p name).q (tree_of p name)
  unfolding meaning_of
  open-meaning name o =
      ap (λ b. cond b closed (opened (record_of p name).alphabet (record_of p name).q (tree_of p name)))
      (ne_eqb (record_of p name).kind kind_closed (λ (e : (record_of p name).kind ≡ kind_closed). omega (arith, o.entry.kind)))

  pub part-meaning : (name : ℕ) → name < names → part_of (meaning p) name ≡ meaning_of p name
  part-meaning name low = get_or-from-start (meaning_of p) names name closed low

  pub no_part : (name : ℕ) → names ≤ name → part_of (meaning p) name ≡ closed
  no_part name high = get_or-eq_default (from (meaning_of p) 0 names) closed (omega (arith, length_from (meaning_of p) 0 names))

promised-total : (parts : List (Part Tree)) → promised parts ≡ total shares_of parts
promised-total [] = refl
promised-total (part ∷ parts) = ap (λ n. shares_of part + n) (promised-total parts)

-- A sound pool.
module _ (p : List ℕ) (sound : Sound p) where
  shares-meaning : (name : ℕ) → name < names → shares_of (meaning_of p name) ≡ (record_of p name).q
  shares-meaning name low =
      ⊎_elim (λ c. ap shares_of (closed-meaning p name c) ∙ ap (λ (r : Record). r.q) (sym (closed-record p name c)))
      (λ o. ap shares_of (open-meaning p name o)) (sound.each name low)

  pub promised-meaning : promised (meaning p).parts ≡ promised_shares p
  unfolding promised_shares
  promised-meaning =
      promised-total (meaning p).parts ∙ total-from shares_of (meaning_of p) names ∙ sum_below-same names (λ name. shares_of (meaning_of p name)) (λ name. (record_of p name).q) shares-meaning

  pub unpromised-meaning : unpromised (meaning p) ≡ unpromised_shares p
  unpromised-meaning = ap (λ n. shares p - n) promised-meaning

  module _ (store : Store Tree) (marks : (t : Tree) → store.marks t ≡ marks_t t) where
    valid-part : (name : ℕ) → name < names → ValidPart store (meaning_of p name)
    valid-part name low =
        ⊎_elim (λ c. rw (closed-meaning p name c) tt)
        (λ o. rw (open-meaning p name o)
        (record {
          least = o.entry.alphabet_least;
          most = o.entry.alphabet_most;
          some = o.entry.promise;
          below = rw (marks (tree_of p name)) (open-marks p name o);
          room = rw (marks (tree_of p name)) (omega (arith, o.length, o.entry.room));
        })) (sound.each name low)

    pub valid-meaning : Valid store (meaning p)
    valid-meaning = record {
      all = length_from (meaning_of p) 0 names;
      parts = λ name.
          ⊎_elim (λ (high : names - name ≡ 0). rw (no_part p name (omega arith)) tt)
          (λ (low : 0 < names - name). rw (part-meaning p name (omega arith)) (valid-part name (omega arith))) (eq-zero-or-pos (names - name));
      within = rw promised-meaning sound.promised;
    }

-- A name left alone, and a change of one name.
pub meaning-untouched : (name : ℕ) (p p' : List ℕ) → Untouched name p p' → ClosedName p name ⊎ OpenName p name → meaning_of p' name ≡ meaning_of p name
meaning-untouched name p p' kept either =
    ⊎_elim (λ c. closed-meaning p' name (closed-kept name p p' kept.entry c) ∙ sym (closed-meaning p name c))
    (λ o. open-meaning p' name (open_kept name p p' kept o)
    ∙ ap (λ (r : Record). opened r.alphabet r.q (tree_of p' name)) (record-kept name p p' kept.entry)
    ∙ ap (opened (record_of p name).alphabet (record_of p name).q) (tree-kept name p p' kept o) ∙ sym (open-meaning p name o)) either

pub meaning-after : (p p' : List ℕ) (x : ℕ) → x < names → Sound p → length p' ≡ length p → ((y : ℕ) → y < names → (y ≡ x → ⊥) → Untouched y p p')
    → meaning p' ≡ record { shares = shares p; parts = set (meaning p).parts x (meaning_of p' x) }
meaning-after p p' x low sound long others =
    ap₂ {C = State Tree} (λ n parts. record { shares = n; parts = parts }) (ap (λ n. (n - directory_size) / block_size) long)
    (from-set (meaning_of p) (meaning_of p') names x low (λ y l other. meaning-untouched y p p' (others y l other) (sound.each y l)))
