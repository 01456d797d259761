-- The depth of a place of an open name of a sound pool: the path's blocks follow one another's links, the last bears the place.
use mathlib.Core.Path.{◌≡◌, refl, sym, ap, ◌∙◌}
use mathlib.Core.List.{List, [], ◌∷◌, ◌++◌}
use mathlib.Core.Logic.{⊎_elim}
use Prim.Native.Nat.{ℕ, zero, suc, ◌-◌, ◌≤◌, ◌<◌}
use native.Mathlib.Nat.{eq-zero-or-pos}
use native.Mathlib.Omega.{arith}
use lib.ListN.{length, get_or, length-append}
use Rattle.geometry.specs.Limits.{names, most_shares}
use Rattle.machine.specs.Machine.{FilledPart, FilledState}
use Rattle.pool.proofs.SoundNames.{open-filled, open-readable}
use Rattle.pool.proofs.Ways.{length-entered, path-way, length-path_at, path-ends}
use Rattle.pool.specs.Blocks.{leaf_marks, link}
use Rattle.pool.specs.Bytes.{shares}
use Rattle.pool.specs.Meaning.{meaning}
use Rattle.pool.specs.Names.{record_of, tree_of, path_of}
use Rattle.pool.specs.Sound.{OpenName, Sound}
use Rattle.pool.specs.Trees.{shape_at, Way, path_at}
use Rattle.protocol.specs.State.{part_of}
use Rattle.shape.proofs.Descent.{path-leads}
use Rattle.shape.specs.Paths.{Leads, path, leaf_at, left_of, right_of}
use Rattle.shape.specs.Trees.{marks_t}
use Rattle.pool.proofs.Meaning.{closed-meaning, open-meaning, part-meaning, no_part}
use Rattle.demands.specs.Demand2.{last_of, FromRootTo}
use Rattle.demands.specs.Demand2.{last_of, FromRootTo}

module _ (p : List ℕ) where
  -- the path to a place of an open name
  pub path-to-place : (name : ℕ) → OpenName p name → (i : ℕ) → 1 ≤ i → i ≤ length (marks_t (tree_of p name))
      → FromRootTo p (path_of p name i) (record_of p name).height (record_of p name).root i (marks_t (tree_of p name))
  path-to-place name open-name i low high =
      let h = (record_of p name).height in
      let b = (record_of p name).root in
      let x = shape_at p h b in
      let ks = path length h i x in
      let leads : Leads length h i ks x = path-leads length length-append h i x in
      let number : length (path_at p h i b) - 1 ≡ h = omega (arith, length-path_at p h i b) in
      let end : last_of (path_of p name i) ≡ get_or (path_at p h i b) h 0 = ap (λ n. get_or (path_at p h i b) n 0) number in
      let leaf : leaf_marks p (last_of (path_of p name i)) ≡ leaf_at h ks x = ap (leaf_marks p) end ∙ sym (path-ends p h i b (open-readable p name open-name)) in
      record {
        numbers = ks;
        way = path-way p length h i b (open-readable p name open-name);
        blocks = refl;
        right = right_of h ks x;
        marks = leads.marks ∙ ap (λ l. left_of h ks x ++ (l ++ right_of h ks x)) (sym leaf);
        past = omega (arith, leads.past);
        within = omega (arith, leads.within high, ap length leaf);
      }

  -- The definition forces the path's length, so no shorter or longer list of blocks meets it.
  way_long : (h b : ℕ) (ks : List ℕ) → Way p h b ks → length ks ≡ h
  way_long zero b [] way = refl
  way_long zero b (k ∷ ks) way = absurd way
  way_long (suc h) b [] way = absurd way
  way_long (suc h) b (k ∷ ks) way = ap suc (way_long h (link p b k) ks way.1)

  pub path-long : (path : List ℕ) (h root i : ℕ) (all : List ℕ) → FromRootTo p path h root i all → length path ≡ suc h
  path-long path h root i all from-root =
      ap length from-root.blocks
      ∙ length-entered p root from-root.numbers
      ∙ ap suc (way_long h root from-root.numbers from-root.way)

  -- the root alone is no path in a tree with a branch, whatever its bytes say when they are read as a leaf's
  pub root-alone-is-no-path : (h root i : ℕ) (all : List ℕ) → FromRootTo p (root ∷ []) (suc h) root i all → ⊥
  root-alone-is-no-path h root i all from-root = omega (arith, path-long (root ∷ []) (suc h) root i all from-root)

  -- A sound pool's meaning.
  module _ (sound : Sound p) where
    filled-part : (name : ℕ) → name < names → FilledPart (part_of (meaning p) name)
    filled-part name low =
        rw (part-meaning p name low)
        (⊎_elim (λ c. rw (closed-meaning p name c) tt) (λ o. rw (open-meaning p name o) (open-filled p name o)) (sound.each name low))

    pub filled-meaning : FilledState (meaning p)
    filled-meaning name =
        ⊎_elim (λ (high : names - name ≡ 0). rw (no_part p name (omega arith)) tt) (λ (low : 0 < names - name). filled-part name (omega arith))
        (eq-zero-or-pos (names - name))

    pub shares-within : shares p ≤ most_shares
    shares-within = omega (arith, sound.allowed.longest)
