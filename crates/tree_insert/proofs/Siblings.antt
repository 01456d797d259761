-- After the insert in a child: the branch itself and the trees of the other children are as before, and the branch can take up what the insert made of the child.
use mathlib.Core.Path.{◌≡◌, refl, sym, ap, ap₂, ◌∙◌}
use mathlib.Core.Bool.{cond, ◌&&◌}
use mathlib.Core.List.{List}
use Prim.Native.Nat.{ℕ, suc, ◌+◌, ◌-◌, ◌≤◌, ◌<◌}
use native.Mathlib.Omega.{arith}
use lib.Dec.{leb}
use lib.ListN.{length, length-map, length-append}
use Rattle.std.specs.Prelude.{Option, None, Some}
use Rattle.geometry.specs.Layout.{most_branch}
use Rattle.geometry.specs.Limits.{most_alphabet}
use Rattle.lists.proofs.Items.{all_map}
use Rattle.lists.proofs.Measures.{Additive}
use Rattle.lists.proofs.Sums.{total-joined, total-map}
use Rattle.lists.specs.Items.{All}
use Rattle.lists.specs.Sums.{total}
use Rattle.sequence.proofs.Counts.{is_mark-same, count-additive, all-standing}
use Rattle.sequence.proofs.Edits.{length-insert, count-insert}
use Rattle.sequence.specs.Definition1.{count, insert}
use Rattle.shape.proofs.Instances.{one_to_a_byte-proper}
use Rattle.shape.proofs.Marks.{insert_node-marks}
use Rattle.shape.proofs.Splits.{insert_node-pieces}
use Rattle.shape.proofs.Steps.{divides-takes}
use Rattle.shape.specs.Blocks.{divides}
use Rattle.shape.specs.Fill.{root_least}
use Rattle.shape.specs.Nested.{flat}
use Rattle.shape.specs.Sizes.{one_to_a_byte, least}
use Rattle.shape.specs.Trees.{insert_node}
use Rattle.pool.proofs.SoundTrees.{sound-filled, sound-readable}
use Rattle.pool.proofs.Ways.{path-among}
use Rattle.pool.specs.Blocks.{entries, link, marks_below}
use Rattle.pool.specs.Changes.{SameBlock}
use Rattle.pool.specs.Sound.{SoundBlock, SoundBelow, Tells}
use Rattle.pool.specs.Trees.{shape_at, blocks_at, path_at}
use Rattle.pool.proofs.Trees.{length-shape, shape-around}
use Rattle.pool.proofs.TreesKept.{same_byte, same_entries, same-link, same-marks_below, same-count_below}
use Rattle.pool_holders.specs.Maps.{is_free, free_in}
use Rattle.pool_holders.proofs.Maps.{fits_after}
use Rattle.pool_holders.proofs.Takes.{entered-falls}
use Rattle.tree_splits.specs.Entries.{SoundChild}
use Rattle.tree_splits.specs.Grafts.{TakeUpReady}
use Rattle.tree_splits.specs.Inserts.{roots, added, least_after, InsertReady, Inserted}
use Rattle.tree_splits.proofs.SoundBlocks.{block-least}
use Rattle.tree_splits.proofs.Pieces.{room-step}
use Rattle.pool_entries.specs.Seats.{Seated}
use Rattle.pool_entries.specs.declared.Seat.{Seat}
use Rattle.tree_splits.proofs.ChosenChildren.{child-blocks, child-takes, before-total, child-short}
use Rattle.tree_insert.proofs.Descents.{child-splits, child-ready}

-- how many roots there are
pub length-roots : (g : Option ℕ) (b : ℕ) → length (roots g b) ≡ suc (added g)
length-roots None b = refl
length-roots (Some new) b = refl

least-after : (g : Option ℕ) (h before : ℕ) → least one_to_a_byte h ≤ before → least one_to_a_byte h ≤ least_after g h before
least-after None h before low = low
least-after (Some new) h before low = omega arith

-- An insert at any level, as it was made.
module _ (h b i c holder : ℕ) (g : Option ℕ) (p q m n : List ℕ) (ready : InsertReady p m h b i c holder) (ins : Inserted h b i c holder g p q m n) where
  -- a block that is neither the tree's nor free is as before
  pub insert-same : (x : ℕ) → count x (blocks_at p h b) ≡ 0 → is_free m x ≡ 0 → SameBlock x p q
  insert-same x none held =
      ins.only.others x
      (λ (change : 1 ≤ count x (path_at p h i b) + (is_free m x - is_free n x)).
      let among : 1 ≤ count x (blocks_at p h b) =
      all-standing (λ y. 1 ≤ count y (blocks_at p h b)) (path_at p h i b) x (omega arith)
      (path-among p h i b (sound-readable p most_alphabet (root_least h) h b (omega arith) ready.block ready.below)) in
      omega arith)

  -- what is counted over the pieces is what is counted in the marks with c put in
  pub insert-total : (μ : List ℕ → ℕ) → Additive μ → total (λ x. μ (flat h (shape_at q h x))) (roots g b) ≡ μ (insert c i (flat h (shape_at p h b)))
  insert-total μ additive =
      sym (total-map (λ y. μ (flat h y)) (shape_at q h) (roots g b))
      ∙ ap (total (λ y. μ (flat h y))) ins.shapes
      ∙ total-joined μ additive (flat h) (insert_node one_to_a_byte c h i (shape_at p h b))
      ∙ ap μ (insert_node-marks one_to_a_byte c h i (shape_at p h b))

  -- the block was split where the shape function says so
  pub insert-split : added g ≡ cond (divides one_to_a_byte h i (shape_at p h b)) 1 0
  insert-split =
      omega (
        arith,
        length-roots g b,
        length-map (roots g b) (shape_at q h),
        ap length ins.shapes,
        insert_node-pieces one_to_a_byte one_to_a_byte-proper c h (root_least h) i (shape_at p h b) (omega arith) (sound-filled p most_alphabet (root_least h) h b ready.block ready.below),
      )

  -- each piece can be a child
  pub insert-sound : least one_to_a_byte h ≤ entries p b → All (SoundChild q h) (roots g b)
  insert-sound low =
      all_map (λ x. SoundBlock q (least_after g h (entries p b)) h x × SoundBelow q most_alphabet h x) (SoundChild q h)
      (λ x s.
      (block-least (omega (arith, s.0.enough, least-after g h (entries p b) low)) s.0, s.1))
      (roots g b) ins.sound

module _ (p m : List ℕ) (h b i c holder : ℕ) (ready : InsertReady p m (suc h) b i c holder) (s : Seat) (seated : Seated (marks_below p b) (entries p b) i s) where
  module _ (g : Option ℕ) (q n : List ℕ) (ins : Inserted h (link p b s.k) (i - s.before) c holder g p q m n) where
    below : InsertReady p m h (link p b s.k) (i - s.before) c holder
    below = child-ready p m h b i c holder ready s seated

    -- the branch is as before
    pub branch_same : SameBlock b p q
    branch_same =
        insert-same h (link p b s.k) (i - s.before) c holder g p q m n below ins b
        (omega (arith, ready.agrees b, child-blocks p h b s.k seated.inside b, is_mark-same b b refl))
        (omega (arith, ready.agrees b, child-blocks p h b s.k seated.inside b, is_mark-same b b refl))

    pub branch_held : is_free n b ≡ 0
    branch_held =
        omega (arith, entered-falls holder m n ins.entered b, ready.agrees b, child-blocks p h b s.k seated.inside b, is_mark-same b b refl)

    many : entries q b ≡ entries p b
    many = same_entries p q b branch_same

    place-low : s.k < most_branch
    place-low = omega (arith, seated.inside, ready.block.fits)

    pub divides-child : divides one_to_a_byte (suc h) i (shape_at p (suc h) b)
        ≡ (divides one_to_a_byte h (i - s.before) (shape_at p h (link p b s.k)) && leb most_branch (entries p b))
    divides-child =
        ap (divides one_to_a_byte (suc h) i) (shape-around p h b s.k seated.inside)
        ∙ divides-takes one_to_a_byte h i _ (shape_at p h (link p b s.k)) _ (child-takes p h b ready.below i s seated)
        ∙ ap₂ (λ (j k : ℕ). divides one_to_a_byte h (i - j) (shape_at p h (link p b s.k)) && leb most_branch k) (before-total p h b ready.below i s seated)
        (ap length (sym (shape-around p h b s.k seated.inside)) ∙ length-shape p h b)

    pub take-up-ready : TakeUpReady q n h b s.k (link p b s.k) c holder g
    take-up-ready =
        let told : Tells p h b s.k = (ready.below s.k seated.inside).2 in
        let long : length q ≡ length p = ins.only.long in
        record {
          map = fits_after p q m n long ins.entered.long ready.map;
          named = ready.named;
          branch = record { inside = omega (arith, ready.block.inside, long); fits = omega (arith, many, ready.block.fits) };
          form = same_byte p q b branch_same _ (omega arith) (omega arith) ∙ ready.block.form;
          held = branch_held;
          place = omega (arith, many, seated.inside);
          link = same-link p q b branch_same s.k place-low;
          symbol = ready.symbol;
          sound = insert-sound h (link p b s.k) (i - s.before) c holder g p q m n below ins (ready.below s.k seated.inside).0.enough;
          marks =
              insert-total h (link p b s.k) (i - s.before) c holder g p q m n below ins length length-append
              ∙ length-insert c (i - s.before) (flat h (shape_at p h (link p b s.k)))
              ∙ ap (λ (k : ℕ). k + 1) (sym told.marks ∙ sym (same-marks_below p q b branch_same s.k place-low));
          counts = λ d inside.
              insert-total h (link p b s.k) (i - s.before) c holder g p q m n below ins (count d) (count-additive d)
              ∙ count-insert d c (i - s.before) (flat h (shape_at p h (link p b s.k)))
              ∙ omega (arith, told.counts d inside, same-count_below p q b branch_same s.k d place-low inside);
          short = omega (arith, same-marks_below p q b branch_same s.k place-low, told.marks, child-short p h b ready.below i s seated, ready.short);
          room =
              let one : cond {A = ℕ} (divides one_to_a_byte (suc h) i (shape_at p (suc h) b)) 1 0 ≤ free_in n =
              omega (arith, ready.room, child-splits p m h b i c holder ready s seated, ins.took) in
              omega (
                arith,
                many,
                room-step g (divides one_to_a_byte h (i - s.before) (shape_at p h (link p b s.k))) (entries p b) (free_in n) ready.block.fits
                    (insert-split h (link p b s.k) (i - s.before) c holder g p q m n below ins) (rw divides-child at one),
              );
        }
