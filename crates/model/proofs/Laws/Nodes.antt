-- Nodes: a node has no fault exactly if it is one of those that document 01 describes; and what all others need to know of it.
use mathlib.Core.Path.{◌≡◌}
use mathlib.Core.Bool.{false, ◌||◌}
use mathlib.Core.List.{List}
use mathlib.Core.Logic.{◌↔◌}
use Prim.Native.Nat.{ℕ, ◌<◌}
use native.Mathlib.Omega.{arith}
use native.Mathlib.Decide.{ℕ_discrete, dec_lt}
use borrow.Author.Tests.{ltb-false, leb-false, lt-ltb, le-ltb, lt-leb, le-leb, ne_eqb}
use lib.Dec.{eqb}
use lib.ListN.{length}
use Rattle.foundation.specs.TestLaws.{or_first, or_second}
use Rattle.model.specs.Tables.{Node}
use Rattle.model.specs.Answers.{fine, refuse_if, ◌then◌}
use Rattle.model.specs.Admission.{references, tag_wrong, name_wrong, child_wrong, field_wrong, field_filled, child_filled, reference_wrong, unused_filled, node_fault, ArgumentField, FaultlessNode, a_parameter, symbol_0, a_symbol, a_call}
use Rattle.model.proofs.Laws.Answers.{then_fine_left, then_fine_right, refuse_if_fine}
use Rattle.model.proofs.Laws.Established.{GoodNode, good_parameter, good_nothing, good_symbol, good_call}
use Rattle.model.proofs.Laws.Tests.{and_right, and_none, NoneOf, inside, not_outside, not_eqb}

-- a field that is a reference and one that is not, by the tests
module _ (used i k field : ℕ) where
  field_told : field_wrong used i k field ≡ false → field_filled used i field ≡ false → ArgumentField used i k field
  field_told right empty = (
    λ h. leb-false k field (and_right _ _ right (le-leb i used h)),
    λ h. not_eqb field 0 (and_right _ _ empty (lt-ltb used i h)),
  )

  field_right : ArgumentField used i k field → field_wrong used i k field ≡ false
  field_right f = go (dec_lt used i)
    where
      go : Dec (used < i) → field_wrong used i k field ≡ false
      go (yes l) = rw (lt-leb i used l)
      go (no l) = rw (le-leb i used (omega arith), lt-leb k field (f.0 (omega arith)))

  field_empty : ArgumentField used i k field → field_filled used i field ≡ false
  field_empty f = go (dec_lt used i)
    where
      go : Dec (used < i) → field_filled used i field ≡ false
      go (yes l) = rw (lt-ltb used i l, f.1 l)
      go (no l) = rw (le-ltb used i (omega arith))

module _ (S : ℕ) (counts : List ℕ) (k : ℕ) (n : Node) where
  -- none of the five faults
  abbrev NoFault : Type 0
  NoFault = NoneOf (tag_wrong n) (name_wrong S counts n) (child_wrong n) (reference_wrong counts k n) (unused_filled counts n)

  no_fault : node_fault S counts k n ≡ fine → NoFault
  unfolding node_fault
  no_fault e =
      let r₁ = then_fine_right _ _ e in
      let r₂ = then_fine_right _ _ r₁ in
      let r₃ = then_fine_right _ _ r₂ in
      record {
        one = refuse_if_fine _ _ k (then_fine_left _ _ e);
        two = refuse_if_fine _ _ k (then_fine_left _ _ r₁);
        three = refuse_if_fine _ _ k (then_fine_left _ _ r₂);
        four = refuse_if_fine _ _ k (then_fine_left _ _ r₃);
        five = refuse_if_fine _ _ k (then_fine_right _ _ r₃);
      }

  fault_none : NoFault → node_fault S counts k n ≡ fine
  unfolding node_fault refuse_if ◌then◌
  fault_none p = rw (p.one, p.two, p.three, p.four, p.five)

  -- whatever the tag is
  child_empty : n.child ≡ 0 → child_filled n ≡ false
  child_empty c = rw (c, and_none)

  -- a node that document 01 describes has none
  no_fault_of : FaultlessNode S counts k n → NoFault
  no_fault_of (a_parameter t l m c f s) =
      record { one = rw t; two = rw t (not_outside 1 2 n.name l m); three = rw t; four = rw t; five = rw (child_empty c, t, f, s) }
  no_fault_of (symbol_0 t z m c f s) =
      record { one = rw t; two = rw (t, z, lt-leb S 0 m); three = rw t; four = rw (t, z); five = rw (child_empty c, t, z, f, s) }
  no_fault_of (a_symbol t l m c f s) =
      let ne : eqb n.name 0 ≡ false = ne_eqb n.name 0 (omega arith) in
      record {
        one = rw t;
        two = rw (t, lt-leb S n.name m);
        three = rw t;
        four = rw (t, ne, lt-leb k n.first f, lt-leb k n.second s);
        five = rw (child_empty c, t, ne);
      }
  no_fault_of (a_call t m c f s) =
      record {
        one = rw t;
        two = rw (t, lt-leb (length counts) n.name m);
        three = rw t (le-ltb 2 n.child c);
        four = rw (t, field_right _ 1 k n.first f, field_right _ 2 k n.second s);
        five = rw (t, field_empty _ 1 k n.first f, field_empty _ 2 k n.second s);
      }

  -- what no fault says of the fields behind the name
  record Fields : Type 0 where
    child : child_filled n ≡ false
    first : ArgumentField (references counts n) 1 k n.first
    second : ArgumentField (references counts n) 2 k n.second

  fields : NoFault → Fields
  fields p =
      let used = references counts n in
      let wrong₁ = field_wrong used 1 k n.first in
      let wrong₂ = field_wrong used 2 k n.second in
      let filled₁ = field_filled used 1 n.first in
      let filled₂ = field_filled used 2 n.second in
      let front : (child_filled n || filled₁) ≡ false = or_first (child_filled n || filled₁) filled₂ p.five in
      record {
        child = or_first (child_filled n) filled₁ front;
        first = field_told used 1 k n.first (or_first wrong₁ wrong₂ p.four) (or_second (child_filled n) filled₁ front);
        second = field_told used 2 k n.second (or_second wrong₁ wrong₂ p.four) (or_second (child_filled n || filled₁) filled₂ p.five);
      }

  -- by the tag
  faultless_parameter : NoFault → n.tag ≡ 0 → FaultlessNode S counts k n
  faultless_parameter p t =
      let name = inside 1 2 n.name (rw t at p.two) in
      let none : references counts n ≡ 0 = rw t in
      let f = fields p in
      a_parameter t name.least≤ name.≤most (not_eqb n.child 0 (rw t at f.child)) (f.first.1 (omega arith)) (f.second.1 (omega arith))

  faultless_symbol : NoFault → n.tag ≡ 1 → FaultlessNode S counts k n
  faultless_symbol p t = go (ℕ_discrete n.name 0)
    where
      f : Fields
      f = fields p

      go : Dec (n.name ≡ 0) → FaultlessNode S counts k n
      go (yes z) =
          let none : references counts n ≡ 0 = rw (t, z) in
          let named : n.name < S = leb-false S n.name (rw t at p.two) in
          symbol_0 t z (omega arith) (not_eqb n.child 0 (rw t at f.child)) (f.first.1 (omega arith)) (f.second.1 (omega arith))
      go (no ne) =
          let two : references counts n ≡ 2 = rw (t, ne_eqb n.name 0 ne) in
          a_symbol t (omega arith) (leb-false S n.name (rw t at p.two)) (not_eqb n.child 0 (rw t at f.child)) (f.first.0 (omega arith))
          (f.second.0 (omega arith))

  faultless_call : NoFault → n.tag ≡ 2 → FaultlessNode S counts k n
  faultless_call p t =
      a_call t (leb-false (length counts) n.name (rw t at p.two)) (ltb-false 2 n.child (rw t at p.three)) (rw t at (fields p).first) (rw t at (fields p).second)

  faultless_by_tag : NoFault → Dec (n.tag ≡ 0) → Dec (n.tag ≡ 1) → FaultlessNode S counts k n
  faultless_by_tag p (yes t) d = faultless_parameter p t
  faultless_by_tag p (no t) (yes u) = faultless_symbol p u
  faultless_by_tag p (no t) (no u) = faultless_call p (omega (arith, ltb-false 2 n.tag p.one))

  -- a node has no fault exactly if document 01 describes it
  pub faultless : (node_fault S counts k n ≡ fine) ↔ FaultlessNode S counts k n
  faultless = (λ e. faultless_by_tag (no_fault e) (ℕ_discrete n.tag 0) (ℕ_discrete n.tag 1), λ f. fault_none (no_fault_of f))

  -- what others need to know of it
  good : FaultlessNode S counts k n → GoodNode S counts k n
  good (a_parameter t l m c f s) = good_parameter t l m
  good (symbol_0 t z m c f s) = good_nothing t z
  good (a_symbol t l m c f s) = good_symbol t l m f s
  good (a_call t m c f s) = good_call t m c f.0 s.0

  -- a node without a fault is good
  pub good_node : node_fault S counts k n ≡ fine → GoodNode S counts k n
  good_node e = good (faultless.0 e)
