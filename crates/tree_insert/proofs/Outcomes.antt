-- What follows of inserts: what the outcome says of the map and of the alphabet.
use mathlib.Core.Path.{subst}
use mathlib.Core.List.{List}
use Prim.Native.Nat.{ℕ, zero, suc, ◌≤◌, ◌<◌}
use native.Mathlib.Omega.{arith}
use Rattle.std.specs.Prelude.{Option}
use Rattle.lists.proofs.Froms.{from_all}
use Rattle.lists.proofs.Items.{all_map}
use Rattle.lists.proofs.Joins.{joined-all, joined-map}
use Rattle.lists.specs.Items.{AllBelow, All}
use Rattle.lists.specs.Joins.{joined}
use Rattle.shape.specs.Nested.{flat}
use Rattle.pool.proofs.SoundTrees.{sound-marks}
use Rattle.pool.specs.Blocks.{entries, link, children}
use Rattle.pool.specs.Sound.{SoundBelow}
use Rattle.pool.specs.Trees.{shape_at, blocks_at}
use Rattle.pool_holders.specs.Maps.{Agrees}
use Rattle.tree_splits.specs.Inserts.{roots, InsertReady, Inserted}

module _ (h b i c holder : ℕ) (g : Option ℕ) (p q m n : List ℕ) (ready : InsertReady p m h b i c holder) (ins : Inserted h b i c holder g p q m n) where
  -- the map agrees with the trees as it did, so no block stands twice
  pub agrees_after : Agrees n (joined (blocks_at q h) (roots g b))
  agrees_after x = omega (arith, ready.agrees x, ins.blocks x)

-- Alphabets: sound for one is sound for another where the marks are below it.
module _ (p : List ℕ) (σ τ : ℕ) where
  pub sound-narrower : (h b : ℕ) → SoundBelow p σ h b → AllBelow τ (flat h (shape_at p h b)) → SoundBelow p τ h b
  sound-narrower zero b below all = all
  sound-narrower (suc h) b below all =
      let each : All (λ c. AllBelow τ (flat h (shape_at p h c))) (children p b) =
      joined-all (λ x. x < τ) (λ c. flat h (shape_at p h c)) (children p b) (subst (AllBelow τ) (joined-map (flat h) (shape_at p h) (children p b)) all) in
      λ k l. (
        (below k l).0,
        sound-narrower h (link p b k) (below k l).1 (from_all (λ c. AllBelow τ (flat h (shape_at p h c))) (link p b) (entries p b) k l each),
        (below k l).2,
      )

  pub sound-wider : σ ≤ τ → (h b : ℕ) → SoundBelow p σ h b → SoundBelow p τ h b
  sound-wider less h b below =
      sound-narrower h b below (all_map (λ x. x < σ) (λ x. x < τ) (λ x (small : x < σ). omega arith) (flat h (shape_at p h b)) (sound-marks p σ h b below))
