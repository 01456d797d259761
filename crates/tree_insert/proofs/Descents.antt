-- One level down: the child that takes the place is ready for the insert where its parent is.
use mathlib.Core.Path.{◌≡◌, sym, ap, ap₂, ◌∙◌}
use mathlib.Core.Bool.{cond}
use mathlib.Core.List.{List}
use Prim.Native.Nat.{ℕ, suc, ◌+◌, ◌-◌, ◌≤◌, ◌<◌}
use native.Mathlib.Omega.{arith}
use lib.ListN.{length, length-append}
use lib.ListN.{length, length-append}
use Rattle.lists.specs.Sums.{sum_below}
use Rattle.shape.proofs.Choice.{by-leb}
use Rattle.shape.proofs.Steps.{splits-takes}
use Rattle.shape.specs.Blocks.{divides, splits}
use Rattle.shape.specs.Nested.{Node, marks_in}
use Rattle.shape.specs.Sizes.{one_to_a_byte}
use Rattle.pool.specs.Blocks.{entries, link, marks_below}
use Rattle.pool.specs.Trees.{shape_at}
use Rattle.tree_splits.proofs.ChosenChildren.{child-blocks, child-told, child-takes, before-total, child-short, child-root}
use Rattle.shape.specs.Sizes.{one_to_a_byte}
use Rattle.pool.specs.Trees.{shape_at}
use Rattle.pool.proofs.Trees.{shape-around, told-all}
use Rattle.tree_splits.specs.Inserts.{InsertReady}
use Rattle.pool_entries.proofs.Seats.{seated-left}
use Rattle.pool_entries.specs.Seats.{Seated}
use Rattle.pool_entries.specs.declared.Seat.{Seat}

module _ (p m : List ℕ) (h b i c holder : ℕ) (ready : InsertReady p m (suc h) b i c holder) (s : Seat) (seated : Seated (marks_below p b) (entries p b) i s) where
  -- the place is in the child, or just behind it where it is the last
  place-last : i - s.before ≤ marks_in h (shape_at p h (link p b s.k)) + 1
  unfolding sum_below
  place-last =
      by-leb {A = Unit {0}} (λ _. i - s.before ≤ marks_in h (shape_at p h (link p b s.k)) + 1) (suc (suc s.k)) (entries p b) tt tt
      (λ l. omega (arith, seated.reach l, child-told p h b ready.below s.k seated.inside))
      (λ (l : entries p b < suc (suc s.k)).
      let e : entries p b ≡ suc s.k = omega (arith, seated.inside) in
      let all : sum_below (suc s.k) (marks_below p b) ≡ marks_in (suc h) (shape_at p (suc h) b) =
      ap (λ (n : ℕ). sum_below n (marks_below p b)) (sym e) ∙ told-all p h b length length-append (marks_below p b) (child-told p h b ready.below) in
      omega (arith, ready.last, seated.sum, child-told p h b ready.below s.k seated.inside))

  pub child-splits : splits one_to_a_byte (suc h) i (shape_at p (suc h) b)
      ≡ splits one_to_a_byte h (i - s.before) (shape_at p h (link p b s.k)) + cond (divides one_to_a_byte (suc h) i (shape_at p (suc h) b)) 1 0
  child-splits =
      let around = shape-around p h b s.k seated.inside in
      ap (splits one_to_a_byte (suc h) i) around
      ∙ splits-takes one_to_a_byte h i _ (shape_at p h (link p b s.k)) _ (child-takes p h b ready.below i s seated)
      ∙ ap₂ (λ (n : ℕ) (x : Node (suc h)). splits one_to_a_byte h (i - n) (shape_at p h (link p b s.k)) + cond (divides one_to_a_byte (suc h) i x) 1 0) (before-total p h b ready.below i s seated) (sym around)

  pub child-ready : InsertReady p m h (link p b s.k) (i - s.before) c holder
  child-ready =
      record {
        map = ready.map;
        named = ready.named;
        block = child-root p h b ready.below i s seated;
        below = (ready.below s.k seated.inside).1;
        agrees = λ x. omega (arith, ready.agrees x, child-blocks p h b s.k seated.inside x);
        first = seated-left (marks_below p b) (entries p b) i s seated ready.first;
        last = place-last;
        symbol = ready.symbol;
        short = omega (arith, ready.short, child-short p h b ready.below i s seated);
        room = omega (arith, ready.room, child-splits);
      }
