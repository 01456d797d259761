-- What entries tell of their children's marks: one that is written, and the others of its block.
use mathlib.Core.Path.{◌≡◌, ap, ◌∙◌}
use mathlib.Core.List.{List}
use Prim.Native.Nat.{ℕ, ◌<◌}
use Rattle.geometry.specs.Layout.{entry_size}
use Rattle.geometry.specs.Limits.{most_alphabet}
use Rattle.pool.specs.Blocks.{entry_at, link, marks_below, count_below}
use Rattle.pool.specs.Changes.{Outside}
use Rattle.pool.specs.Sound.{Tells}
use Rattle.pool.specs.Trees.{shape_at}
use Rattle.sequence.specs.Definition1.{count}
use Rattle.shape.specs.Nested.{Node, flat, marks_in}
use Rattle.pool_entries.proofs.Entries.{link_apart, marks-apart, count-apart}

-- an entry tells the marks of a node x, where that is what stands below its child
pub entry-tells : (q : List ℕ) (h b k : ℕ) (x : Node h) → shape_at q h (link q b k) ≡ x → marks_below q b k ≡ marks_in h x
    → ((c : ℕ) → c < most_alphabet → count_below q b k c ≡ count c (flat h x))
    → Tells q h b k
entry-tells q h b k x below marks counts = record { marks = rw below marks; counts = λ c inside. rw below (counts c inside) }

-- another entry of the block, where what stands below its child is as it was
pub apart-tells : (p q : List ℕ) (h b k j : ℕ) → Outside (entry_at b k) entry_size p q → (j ≡ k → ⊥)
    → shape_at q h (link p b j) ≡ shape_at p h (link p b j)
    → Tells p h b j
    → Tells q h b j
apart-tells p q h b k j o other below told =
    entry-tells q h b j (shape_at p h (link p b j)) (ap (shape_at q h) (link_apart b k o j other) ∙ below)
    (marks-apart b k o j other ∙ told.marks)
    (λ c inside. count-apart b k o j c other inside ∙ told.counts c inside)
