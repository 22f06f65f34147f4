-- The latest row with a remainder: what looks like a row leaves its remainder, so that a chain has every row that looks so; and chains
-- with one row more.
use mathlib.Core.Path.{◌≡◌, refl, ap, sym, ◌∙◌}
use mathlib.Core.Bool.{true, false}
use mathlib.Core.List.{List}
use Prim.Native.Nat.{ℕ, zero, suc, ◌+◌, ◌*◌, ◌/◌, ◌<◌, ◌≤◌}
use native.Mathlib.Omega.{arith}
use native.Mathlib.Decide.{ℕ_discrete}
use borrow.Author.Tests.{ne_eqb, eq-eqb}
use borrow.Rule.Slice.PartMut.{post_of}
use Rattle.std.proofs.Common.{take, drop, replicate, ◌++◌}
use Rattle.std.proofs.lemmas.List.{length-append, length-drop, length-take-le, length-replicate, get_or-replicate, get_or_append_left}
use lib.ListN.{length, get_or, set, length-set}
use lib.Seq.{get_or-set_same, get_or-set_other}
use Rattle.foundation.specs.Tests.{some_below, some_intro, test_true, true_test, test_false}
use Rattle.foundation.specs.TestLaws.{or_false}
use Rattle.kind_slots.proofs.Same.{Alike, same_alike}
use Rattle.shown_kinds.specs.Chains.{remainder_of, shown_at, looks_so, some_looks_so, remainder_at, latest, Behind, Chained, EntryOf, NoRows, in_front}

pub alike_remainder : (a b : List ℕ) → Alike a b → remainder_of a ≡ remainder_of b
unfolding remainder_of
alike_remainder a b h = rw (h.word0, h.word1, h.word2, h.word3, h.word4)

pub remainder_small : (seen : List ℕ) → remainder_of seen < 4096
unfolding remainder_of
remainder_small seen = omega arith

pub remainder_below : (seen : List ℕ) {remainder : ℕ} → remainder ≡ remainder_of seen → remainder < 4096
remainder_below seen e = omega (arith, e, remainder_small seen)

-- a last row that does not look so
some_last : (words mask seen : List ℕ) (k : ℕ) → looks_so words mask seen k ≡ false → some_looks_so words mask (suc k) seen ≡ some_looks_so words mask k seen
unfolding some_below
some_last words mask seen k f = or_false _ _ f

module _ (words mask : List ℕ) where
  -- how the latest row goes on
  latest_here : (remainder k : ℕ) → remainder_at words mask k ≡ remainder → latest words mask remainder (suc k) ≡ suc k
  unfolding latest
  latest_here remainder k e = rw (eq-eqb (remainder_at words mask k) remainder e)

  latest_other : (remainder k : ℕ) → (remainder_at words mask k ≡ remainder → ⊥) → latest words mask remainder (suc k) ≡ latest words mask remainder k
  unfolding latest
  latest_other remainder k ne = rw (ne_eqb (remainder_at words mask k) remainder ne)

  pub latest_le : (remainder n : ℕ) → latest words mask remainder n ≤ n
  unfolding latest
  latest_le remainder zero = omega arith
  latest_le remainder (suc k) = go (ℕ_discrete (remainder_at words mask k) remainder) (latest_le remainder k)
    where
      go : Dec (remainder_at words mask k ≡ remainder) → latest words mask remainder k ≤ k → latest words mask remainder (suc k) ≤ suc k
      go (yes e) h = omega (arith, latest_here remainder k e)
      go (no ne) h = omega (arith, latest_other remainder k ne)

  -- it leaves that remainder
  pub latest_entry : (remainder n : ℕ) → EntryOf words mask remainder (latest words mask remainder n)
  unfolding latest
  latest_entry remainder zero = λ j e. absurd (omega (arith, e))
  latest_entry remainder (suc k) = go (ℕ_discrete (remainder_at words mask k) remainder) (latest_entry remainder k)
    where
      go : Dec (remainder_at words mask k ≡ remainder) → EntryOf words mask remainder (latest words mask remainder k)
          → EntryOf words mask remainder (latest words mask remainder (suc k))
      go (yes e) h = λ j f. let same : k ≡ j = omega (arith, f, latest_here remainder k e) in ap (remainder_at words mask) (sym same) ∙ e
      go (no ne) h = λ j f. h j (sym (latest_other remainder k ne) ∙ f)

  -- rows that look so are at most the latest one that leaves the remainder
  pub latest_shown : (seen : List ℕ) (n : ℕ) → some_looks_so words mask n seen ≡ some_looks_so words mask (latest words mask (remainder_of seen) n) seen
  unfolding latest some_below
  latest_shown seen zero = refl
  latest_shown seen (suc k) = go (ℕ_discrete (remainder_at words mask k) (remainder_of seen)) (latest_shown seen k)
    where
      unlike : (remainder_at words mask k ≡ remainder_of seen → ⊥) → looks_so words mask seen k ≡ false
      unlike ne = test_false _ (λ t. ne (alike_remainder _ _ (same_alike (shown_at words mask k) seen (test_true _ t))))

      go : Dec (remainder_at words mask k ≡ remainder_of seen)
          → some_looks_so words mask k seen ≡ some_looks_so words mask (latest words mask (remainder_of seen) k) seen
          → some_looks_so words mask (suc k) seen ≡ some_looks_so words mask (latest words mask (remainder_of seen) (suc k)) seen
      go (yes e) h = ap (λ (n : ℕ). some_looks_so words mask n seen) (sym (latest_here (remainder_of seen) k e))
      go (no ne) h = some_last words mask seen k (unlike ne) ∙ h ∙ ap (λ (n : ℕ). some_looks_so words mask n seen) (sym (latest_other (remainder_of seen) k ne))

  -- chains without rows, and one row more
  pub none_chained : (chains : List ℕ) → NoRows 4096 chains → Chained words mask 0 chains
  unfolding latest
  none_chained chains none = record { fronts = λ b h. none.none b h; behind = λ k h. absurd (omega (arith, h)) }

  pub one_chained : (chains : List ℕ) (k : ℕ) → length chains ≡ 8192 → k < 4096 → Chained words mask k chains
      → Chained words mask (suc k) (in_front chains (remainder_at words mask k) k)
  one_chained chains k long h before = record { fronts = front; behind = back }
    where
      r : ℕ
      r = remainder_at words mask k

      small : r < 4096
      small = remainder_small (shown_at words mask k)

      half : List ℕ
      half = set chains (4096 + k) (get_or chains r 0)

      half_long : length half ≡ 8192
      half_long = length-set chains (4096 + k) _ ∙ long

      front : (b : ℕ) → b < 4096 → get_or (set half r (suc k)) b 0 ≡ latest words mask b (suc k)
      front b hb = go (ℕ_discrete r b)
        where
          go : Dec (r ≡ b) → get_or (set half r (suc k)) b 0 ≡ latest words mask b (suc k)
          go (yes e) = ap (λ (i : ℕ). get_or (set half r (suc k)) i 0) (sym e) ∙ get_or-set_same half r (suc k) 0 (omega (arith, half_long)) ∙ sym (latest_here b k e)
          go (no ne) =
              get_or-set_other half r b (suc k) 0 (λ e. ne (sym e))
              ∙ get_or-set_other chains (4096 + k) b _ 0 (omega arith)
              ∙ before.fronts b hb
              ∙ sym (latest_other b k ne)

      back : Behind words mask (suc k) (set half r (suc k))
      back j hj = get_or-set_other half r (4096 + j) (suc k) 0 (omega (arith, small)) ∙ go (ℕ_discrete j k)
        where
          go : Dec (j ≡ k) → get_or half (4096 + j) 0 ≡ latest words mask (remainder_at words mask j) j
          go (yes e) =
              ap (λ (i : ℕ). get_or half (4096 + i) 0) e
              ∙ get_or-set_same chains (4096 + k) _ 0 (omega (arith, long))
              ∙ before.fronts r small
              ∙ ap (λ (i : ℕ). latest words mask (remainder_at words mask i) i) (sym e)
          go (no ne) = get_or-set_other chains (4096 + k) (4096 + j) _ 0 (omega arith) ∙ before.behind j (omega arith)

-- the search has come to `next`: a row below the entry looks so exactly if one below `next` does
pub record Reached (words mask seen : List ℕ) (entry next : ℕ) : Type 0 where
  pub within : next ≤ entry
  pub same : some_looks_so words mask entry seen ≡ some_looks_so words mask next seen
  pub leaves : EntryOf words mask (remainder_of seen) next

module _ (words mask seen chains : List ℕ) (entry next k : ℕ) (reached : Reached words mask seen entry next) (after : next ≡ suc k) where
  -- the row looks so
  pub reached_row : looks_so words mask seen k ≡ true → some_looks_so words mask entry seen ≡ true
  reached_row t = reached.same ∙ ap (λ (n : ℕ). some_looks_so words mask n seen) after ∙ test_true _ (some_intro (suc k) (looks_so words mask seen) k (omega arith) (true_test _ t))

  -- it does not, so the search goes on behind it
  pub reached_behind : (behind : ℕ) → Behind words mask entry chains → behind ≡ get_or chains (4096 + k) 0 → looks_so words mask seen k ≡ false
      → (behind < next) × Reached words mask seen entry behind
  reached_behind behind chained here f = (omega (arith, is, latest_le words mask (remainder_of seen) k), record { within = omega (arith, is, latest_le words mask (remainder_of seen) k, reached.within); same = reached.same ∙ down; leaves = λ j e. latest_entry words mask (remainder_of seen) k j (sym is ∙ e) })
    where
      is : behind ≡ latest words mask (remainder_of seen) k
      is = here ∙ chained k (omega (arith, reached.within)) ∙ ap (λ (r : ℕ). latest words mask r k) (reached.leaves k after)

      down : some_looks_so words mask next seen ≡ some_looks_so words mask behind seen
      down =
          ap (λ (n : ℕ). some_looks_so words mask n seen) after
          ∙ some_last words mask seen k f
          ∙ latest_shown words mask seen k
          ∙ ap (λ (n : ℕ). some_looks_so words mask n seen) (sym is)

-- where the chain ends, no row looks so
pub reached_end : (words mask seen : List ℕ) (entry : ℕ) → Reached words mask seen entry 0 → some_looks_so words mask entry seen ≡ false
unfolding some_below
reached_end words mask seen entry reached = reached.same

-- the entry in front of the chain of what is seen, of n rows in chains
pub record Front (words mask seen : List ℕ) (n : ℕ) (chains : List ℕ) (entry : ℕ) : Type 0 where
  pub behind : Behind words mask entry chains
  pub leaves : EntryOf words mask (remainder_of seen) entry
  pub within : entry ≤ n
  pub same : some_looks_so words mask n seen ≡ some_looks_so words mask entry seen

pub front_of : (words mask seen : List ℕ) (n : ℕ) (chains : List ℕ) (remainder entry : ℕ) → Chained words mask n chains → remainder ≡ remainder_of seen
    → entry ≡ get_or chains remainder 0
    → Front words mask seen n chains entry
front_of words mask seen n chains remainder entry chained r e =
    record {
      behind = λ k h. chained.behind k (omega (arith, h, within));
      leaves = λ k f. latest_entry words mask (remainder_of seen) n k (sym is ∙ f);
      within = within;
      same = latest_shown words mask seen n ∙ ap (λ (m : ℕ). some_looks_so words mask m seen) (sym is);
    }
  where
    is : entry ≡ latest words mask (remainder_of seen) n
    is = e ∙ ap (λ (b : ℕ). get_or chains b 0) r ∙ chained.fronts (remainder_of seen) (remainder_small seen)

    within : entry ≤ n
    within = omega (arith, is, latest_le words mask (remainder_of seen) n)

-- what a search from an entry asks, if that is the entry in front
pub front_asked : (words mask seen : List ℕ) {chains : List ℕ} {front : ℕ} → Front words mask seen (length words / 5) chains front → length words ≤ 20480
    → (entry : ℕ) → entry ≡ front
    → Behind words mask entry chains × EntryOf words mask (remainder_of seen) entry × (5 * entry ≤ length words) × (entry ≤ 4096)
front_asked words mask seen front few entry e = (
  λ k h. front.behind k (omega (arith, h, e)),
  λ k f. front.leaves k (sym e ∙ f),
  omega (arith, e, front.within),
  omega (arith, e, front.within),
)

-- chains whose fronts are filled with 0 have no rows
pub no_rows : (chains part : List ℕ) → length chains ≡ 8192 → part ≡ replicate (length (take 4096 chains)) 0 → NoRows 4096 (part ++ post_of 0 4096 chains)
no_rows chains part long e =
    record {
      long = length-append part (drop 4096 chains) ∙ omega (arith, filled, length-drop 4096 chains);
      none = λ remainder h. get_or_append_left part (drop 4096 chains) 0 remainder (omega (arith, filled)) ∙ rw e (get_or-replicate (length (take 4096 chains)) remainder 0 0 (omega (arith, full)));
    }
  where
    full : length (take 4096 chains) ≡ 4096
    full = length-take-le 4096 chains (omega arith)

    filled : length part ≡ 4096
    filled = rw e (length-replicate _ _ ∙ full)

module _ (words mask seen chains : List ℕ) (entry next : ℕ) (reached : Reached words mask seen entry next) (some : 0 < next) where
  row_before : (k : ℕ) → next ≡ suc k → looks_so words mask seen k ≡ true → some_looks_so words mask entry seen ≡ true
  row_before k e t = reached.same ∙ ap (λ (n : ℕ). some_looks_so words mask n seen) e ∙ test_true _ (some_intro (suc k) (looks_so words mask seen) k (omega arith) (true_test _ t))
