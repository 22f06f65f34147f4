-- The table of ends, filled from the last place to the first: a place's end comes from the entries of later places.
use mathlib.Core.Path.{◌≡◌, ap, sym, ◌∙◌}
use mathlib.Core.List.{List}
use Prim.Native.Nat.{ℕ, ◌+◌, ◌<◌}
use native.Mathlib.Omega.{arith}
use lib.ListN.{length, get_or, set}
use Rattle.foundation.specs.Lists.{set_holds}
use Rattle.model.proofs.Laws.Documents.{Readable, end_from, inner_place}
use Rattle.reading.specs.Ends.{EndsFrom}

-- the entries that give the end of a place whose symbol is not 0
pub record Known (xs table : List ℕ) (i : ℕ) : Type 0 where
  pub left : i + 1 < length xs
  pub right : get_or table (i + 1) 0 < length xs
  pub end : get_or table (get_or table (i + 1) 0) 0 ≡ end_from xs i

pub known : (xs table : List ℕ) (i : ℕ) → Readable xs → i < length xs → EndsFrom (i + 1) xs table → (get_or xs i 0 ≡ 0 → ⊥) → Known xs table i
known xs table i readable here later other =
    let p = inner_place xs readable i here (omega arith) in
    let e : get_or table (i + 1) 0 ≡ end_from xs (i + 1) = later (i + 1) (omega arith) p.left in
    record {
      left = p.left;
      right = omega (arith, p.right);
      end =
          ap (λ (j : ℕ). get_or table j 0) e
          ∙ later (end_from xs (i + 1)) (omega arith) p.right
          ∙ sym p.end;
    }

-- one more entry
pub ends_more : (xs table : List ℕ) (i v : ℕ) → i < length table → v ≡ end_from xs i → EndsFrom (i + 1) xs table → EndsFrom i xs (set table i v)
ends_more xs table i v h e later j from within = set_holds (end_from xs) 0 table i v h e j (λ ne. later j (omega arith) within)
