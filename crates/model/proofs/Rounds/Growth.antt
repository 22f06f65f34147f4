-- Rounds only append: every list is a beginning of the later ones, in the middle of a round too.
use mathlib.Core.Path.{◌≡◌, refl, ap, sym, ◌∙◌}
use mathlib.Core.List.{List, [], ◌∷◌, ◌++◌, append_assoc}
use mathlib.Core.Bool.{Bool, true, false}
use Prim.Native.Nat.{ℕ, zero, suc, ◌+◌, ◌-◌, ◌<◌, ◌≤◌}
use native.Mathlib.Nat.{zero-add, suc-add}
use native.Mathlib.Omega.{arith}
use lib.ListN.{length, get_or, take, drop, length-append, take-append-drop, get_or-append}
use lib.Seq.{take-append-le}
use Rattle.foundation.specs.Lists.{append-nil}
use Rattle.model.specs.Rounds.{TreeAutomaton, Listed, empty_row, state_at, lists, added, combination, combinations, round_to, round, rounds}

-- `later` is `rows` with more at the end
pub record Begins (A : TreeAutomaton) (rows later : List (Listed A)) : Type 0 where
  pub more : List (Listed A)
  pub appended : later ≡ rows ++ more

module _ {A : TreeAutomaton} where
  pub begins_refl : (rows : List (Listed A)) → Begins A rows rows
  begins_refl rows = record { more = []; appended = sym (append-nil rows) }

  pub begins_trans : {a b c : List (Listed A)} → Begins A a b → Begins A b c → Begins A a c
  begins_trans {a} g h =
      record {
        more = g.more ++ h.more;
        appended = h.appended ∙ ap (λ (l : List (Listed A)). l ++ h.more) g.appended ∙ append_assoc a g.more h.more;
      }

  pub begins_length : {a b : List (Listed A)} → Begins A a b → length a ≤ length b
  begins_length g = rw g.appended (simp length-append (omega arith))

  pub begins_row : {a b : List (Listed A)} → Begins A a b → (i : ℕ) → i < length a → get_or b i (empty_row A) ≡ get_or a i (empty_row A)
  begins_row {a} g i h = rw g.appended (get_or-append a g.more (empty_row A) i h)

  pub begins_state : {a b : List (Listed A)} → Begins A a b → (i : ℕ) → i < length a → state_at A b i ≡ state_at A a i
  begins_state g i h = ap (λ (row : Listed A). row.state) (begins_row g i h)

  pub begins_take : {a b : List (Listed A)} → Begins A a b → (n : ℕ) → n ≤ length a → take n b ≡ take n a
  begins_take {a} g n h = rw g.appended (take-append-le n a g.more h)

  -- a list that is no longer has nothing more
  pub begins_equal : {a b : List (Listed A)} → Begins A a b → length b ≤ length a → b ≡ a
  begins_equal {a} {b} g h = go g.more g.appended
    where
      go : (more : List (Listed A)) → b ≡ a ++ more → b ≡ a
      go [] e = e ∙ append-nil a
      go (row ∷ more) e = absurd (omega (arith, simp length-append at (ap length e)))

module _ (A : TreeAutomaton) where
  pub added_old : (rows : List (Listed A)) (row : Listed A) → lists A rows row.state ≡ true → added A rows row ≡ rows
  unfolding added
  added_old rows row e = rw (e, added)

  pub added_new : (rows : List (Listed A)) (row : Listed A) → lists A rows row.state ≡ false → added A rows row ≡ rows ++ (row ∷ [])
  unfolding added
  added_new rows row e = rw (e, added)

  pub added_begins : (rows : List (Listed A)) (row : Listed A) → Begins A rows (added A rows row)
  added_begins rows row = go (lists A rows row.state) refl
    where
      go : (b : Bool) → lists A rows row.state ≡ b → Begins A rows (added A rows row)
      go true e = record { more = []; appended = added_old rows row e ∙ sym (append-nil rows) }
      go false e = record { more = row ∷ []; appended = added_new rows row e }

  to_begins_after : (rows : List (Listed A)) (c d : ℕ) → Begins A (round_to A rows c) (round_to A rows (d + c))
  unfolding round_to
  to_begins_after rows c zero = rw zero-add (begins_refl (round_to A rows c))
  to_begins_after rows c (suc d) =
      rw suc-add (begins_trans (to_begins_after rows c d) (added_begins (round_to A rows (d + c)) (combination A rows (length rows) (d + c))))

  -- within a round
  pub to_begins : (rows : List (Listed A)) (c d : ℕ) → c ≤ d → Begins A (round_to A rows c) (round_to A rows d)
  to_begins rows c d h = let e : (d - c) + c ≡ d = omega arith in rw e at (to_begins_after rows c (d - c))

  pub rows_begin : (rows : List (Listed A)) (c : ℕ) → Begins A rows (round_to A rows c)
  unfolding round_to
  rows_begin rows c = to_begins rows 0 c (omega arith)

  pub round_begins : (rows : List (Listed A)) → Begins A rows (round A rows)
  unfolding round
  round_begins rows = rows_begin rows (combinations A rows)

  rounds_begin_after : (h d : ℕ) → Begins A (rounds A h) (rounds A (d + h))
  unfolding rounds
  rounds_begin_after h zero = rw zero-add (begins_refl (rounds A h))
  rounds_begin_after h (suc d) = rw suc-add (begins_trans (rounds_begin_after h d) (round_begins (rounds A (d + h))))

  -- from round to round
  pub rounds_begin : (h k : ℕ) → h ≤ k → Begins A (rounds A h) (rounds A k)
  rounds_begin h k l = let e : (k - h) + h ≡ k = omega arith in rw e at (rounds_begin_after h (k - h))

  pub rounds_not_empty : (h : ℕ) → 0 < length (rounds A h)
  unfolding rounds
  rounds_not_empty h = let l : 1 ≤ length (rounds A h) = begins_length (rounds_begin 0 h (omega arith)) in l

  -- a list that some round begins with: what code holds, wherever it stands
  pub record Beginning (rows : List (Listed A)) : Type 0 where
    pub round : ℕ
    pub begins : Begins A rows (rounds A round)

  pub rounds_beginning : (h : ℕ) → Beginning (rounds A h)
  rounds_beginning h = record { round = h; begins = begins_refl (rounds A h) }

  -- the first rows of a beginning
  pub take_begins : (n : ℕ) (rows : List (Listed A)) → Begins A (take n rows) rows
  take_begins n rows = record { more = drop n rows; appended = sym (take-append-drop n rows) }

  pub take_beginning : (n : ℕ) (rows : List (Listed A)) → Beginning rows → Beginning (take n rows)
  take_beginning n rows start = record { round = start.round; begins = begins_trans (take_begins n rows) start.begins }

  -- "the list in the middle of a round"
  pub middle_begins : (h c : ℕ) → c ≤ combinations A (rounds A h) → Begins A (round_to A (rounds A h) c) (rounds A (suc h))
  unfolding round rounds
  middle_begins h c l = to_begins (rounds A h) c (combinations A (rounds A h)) l

  pub middle_beginning : (h c : ℕ) → c ≤ combinations A (rounds A h) → Beginning (round_to A (rounds A h) c)
  middle_beginning h c l = record { round = suc h; begins = middle_begins h c l }

  -- two beginnings agree as far as both go
  module _ (a b : List (Listed A)) (start-a : Beginning a) (start-b : Beginning b) where
    of-first : Begins A a (rounds A (start-a.round + start-b.round))
    of-first = begins_trans start-a.begins (rounds_begin start-a.round (start-a.round + start-b.round) (omega arith))

    of-second : Begins A b (rounds A (start-a.round + start-b.round))
    of-second = begins_trans start-b.begins (rounds_begin start-b.round (start-a.round + start-b.round) (omega arith))

    pub agree_state : (i : ℕ) → i < length a → i < length b → state_at A a i ≡ state_at A b i
    agree_state i ha hb = sym (begins_state of-first i ha) ∙ begins_state of-second i hb

    pub agree_take : (n : ℕ) → n ≤ length a → n ≤ length b → take n a ≡ take n b
    agree_take n ha hb = sym (begins_take of-first n ha) ∙ begins_take of-second n hb
