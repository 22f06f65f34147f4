-- What the loops' functions need where they stand: room in the buffers, and what a visit comes to.
use mathlib.Core.Path.{◌≡◌, ap₂, ◌∙◌, subst}
use mathlib.Core.List.{List, [], ◌∷◌, ◌++◌}
use Prim.Native.Nat.{ℕ, suc, ◌+◌, ◌*◌, ◌≤◌, ◌<◌, ◌^◌}
use native.Mathlib.Omega.{arith}
use lib.ListN.{length, take, get_or}
use Rattle.std.specs.Prelude.{Result}
use Rattle.model.specs.Tables.{Contract}
use Rattle.model.specs.Kinds.{next_kind}
use Rattle.model.specs.Rounds.{kind_automaton, ListedKind, rounds}
use Rattle.model.proofs.Laws.Established.{Established}
use Rattle.model.proofs.Rounds.Growth.{begins_length, rows_begin}
use Rattle.model.proofs.Rounds.Places.{place}
use Rattle.breaking.specs.Verdicts.{VerdictsOf}
use Rattle.breaking.specs.declared.Verdicts.{Verdicts}
use Rattle.kind_slots.specs.Stored.{padded_kind}
use Rattle.kind_lists.specs.Listing.{Room, Becomes, offering}
use Rattle.kind_lists.specs.Outcomes.{Unbroken, Outcome}
use Rattle.kind_lists.specs.declared.Stop.{Stop}
use Rattle.kind_lists.proofs.Stops.{kept_lengths}
use Rattle.round_pairs.specs.Steps.{At, list_at, visit}
use Rattle.round_pairs.specs.declared.Round.{Round}
use Rattle.kind_words.specs.Blocks.{Words}
use Rattle.kind_slots.proofs.Same.{padded_small}

-- a list that is held leaves room
pub room_of : {C : Contract} {limit n : ℕ} {slots rows words : List ℕ} (list : List (ListedKind C)) → Unbroken C limit n slots rows words list → Room limit n rows words
room_of list u =
    let h = u.holds in
    let e = u.counted in
    record { few = h.few; used = omega (arith, h.fits); row_room = h.row_room; word_room = h.word_room }

module _ {C : Contract} {r : Round} {s i j n : ℕ} {slots rows words : List ℕ} (at : At C r s i j n slots rows words) where
  pub at_room : Room r.limit n rows words
  at_room = room_of (list_at C r.height s i j) at.list

  -- the rows of the round stand in the buffers
  pub at_stood : (r.stood ≤ n) × (r.stood ≤ 512)
  at_stood =
      let standing = rounds (kind_automaton C) r.height in
      let longer = begins_length (rows_begin (kind_automaton C) standing (place (length standing) s i j)) in
      let few : r.stood ≤ n = omega (arith, at.list.counted, at.standing.counted) in
      (few, omega (arith, at_room.used, at_room.few))

  pub row_room : (k : ℕ) → k < r.stood → (5 * k + 5 ≤ length words) × (k < 512)
  row_room k h =
      let room = at_room in
      let (few, small) = at_stood in
      (omega (arith, room.used, room.word_room), omega arith)

  pub visit-pair : {v : Verdicts} → Established C → VerdictsOf C.input.marks C.output.marks v
      → s < C.transformation.symbols → i < r.stood → j < r.stood
      → (left_kind right_kind kind : List ℕ) → left_kind ≡ padded_kind words i → right_kind ≡ padded_kind words j
      → kind ≡ next_kind C s (take 5 left_kind) (take 5 right_kind) ++ (0 ∷ [])
      → (p : Result ℕ Stop) (slots' rows' words' : List ℕ) → Becomes (offering v r.limit n s i j kind slots rows words) p slots' rows' words'
      → Outcome C (λ m. At C r s i (j + 1) m slots' rows' words') r.limit (suc r.height) rows' words' p
  visit-pair {v = v} known verdicts h_s hi hj left_kind right_kind kind el er ek p slots' rows' words' b =
      visit C at h_s hi hj known v verdicts kind
      (ek ∙ ap₂ (λ (x : List ℕ) (y : List ℕ). next_kind C s (take 5 x) (take 5 y) ++ (0 ∷ [])) el er)
      p slots' rows' words' b

-- buffers keep their lengths
pub at_lengths : (C : Contract) (r : Round) (s i j : ℕ) (slots rows words : List ℕ) (p : Result ℕ Stop)
    → Outcome C (λ n. At C r s i j n slots rows words) r.limit (suc r.height) rows words p
    → (length rows ≡ 3 * r.limit) × (length words ≡ 5 * r.limit)
at_lengths C r s i j slots rows words p o =
    kept_lengths C (λ n. At C r s i j n slots rows words) r.limit (suc r.height) rows words (λ n at. (at.list.holds.row_room, at.list.holds.word_room)) p o

-- words read from a buffer of 64-bit words
pub padded_words : (words : List ℕ) (j : ℕ) (kind : List ℕ) → kind ≡ padded_kind words j → ((k : ℕ) → get_or words k 0 < 2 ^ 64) → Words kind
padded_words words j kind e h k = rw e (padded_small words h j k)

-- the loops stand at the same right row under another name
pub at_right : {C : Contract} {r : Round} {s i j n : ℕ} {slots rows words : List ℕ} (k : ℕ) → j ≡ k
    → At C r s i j n slots rows words → At C r s i k n slots rows words
at_right {C} {r} {s} {i} {n = n} {slots = slots} {rows = rows} {words = words} k e at =
    subst (λ (x : ℕ). At C r s i x n slots rows words) e at
