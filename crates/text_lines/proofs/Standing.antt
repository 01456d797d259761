-- A state that stands for the bytes of a line: for none, for one more, and when no line feed follows.
use mathlib.Core.Bool.{Bool, true, false, ◌&&◌}
use mathlib.Core.Path.{◌≡◌, refl, sym, subst, ◌∙◌}
use mathlib.Core.List.{List, []}
use Prim.Native.Nat.{ℕ}
use native.Mathlib.Omega.{arith}
use lib.Dec.{eqb}
use Rattle.text_lines.specs.declared.Gathered.{Gathered}
use Rattle.text_lines.specs.Lines.{carriage_return, trim, Holds, Stands, Adds, Finishes, Accepts}
use Rattle.text_lines.proofs.Trims.{trims-nil, trims-snoc, trim-snoc-return, trim-snoc-other, trim-none, trim-some}

-- nothing has come
pub stands-start : (r : Bool) (keep : List ℕ) → Stands r [] (record { kept = 0; length = 0; waits = false }) keep
stands-start r keep =
    record {
      line = rw (trim-none r [] (trims-nil r)) (record { kept = omega arith; bytes = refl; long = omega arith });
      waits = sym (trims-nil r);
    }

-- the line when no carriage return waits
pub finishes-plain : (before : Gathered) (keep : List ℕ) → before.waits ≡ false → Finishes before keep keep before
finishes-plain before keep none =
    record {
      same = refl;
      line = λ r g h. subst (λ (l : List ℕ). Holds l before keep) (trim-none r g (sym h.waits ∙ none)) h.line;
      waits = none;
    }

-- the line with the carriage return that waits
pub finishes-return : (before : Gathered) (keep keep' : List ℕ) (result : Gathered) →
    before.waits ≡ true → Adds carriage_return before keep keep' result → Finishes before keep keep' result
finishes-return before keep keep' result one a =
    record {
      same = a.same;
      line = λ r g h.
          subst (λ (l : List ℕ). Holds l result keep') (trim-some r g (sym h.waits ∙ one)) (a.line (trim r g) h.line);
      waits = a.waits;
    }

-- a carriage return that is to wait
pub accepts-return : (byte : ℕ) (r : Bool) (before : Gathered) (keep keep' : List ℕ) (line : Gathered) →
    r && eqb byte carriage_return ≡ true → Finishes before keep keep' line →
    Accepts byte r before keep keep' (record { kept = line.kept; length = line.length; waits = true })
accepts-return byte r before keep keep' line e f =
    record {
      same = f.same;
      stands = λ g h.
          let held : Holds g line keep' = f.line r g h in
          record {
            line = rw (trim-snoc-return r g byte e) (record { kept = held.kept; bytes = held.bytes; long = held.long });
            waits = sym (trims-snoc r g byte ∙ e);
          };
    }

-- any other byte
pub accepts-other : (byte : ℕ) (r : Bool) (before : Gathered) (keep keep' keep'' : List ℕ) (line result : Gathered) →
    r && eqb byte carriage_return ≡ false → Finishes before keep keep' line → Adds byte line keep' keep'' result →
    Accepts byte r before keep keep'' result
accepts-other byte r before keep keep' keep'' line result e f a =
    record {
      same = a.same ∙ f.same;
      stands = λ g h.
          record {
            line = rw (trim-snoc-other r g byte e) (a.line g (f.line r g h));
            waits = a.waits ∙ sym (trims-snoc r g byte ∙ e);
          };
    }
