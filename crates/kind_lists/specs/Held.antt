-- Buffers that hold a list of kinds: its rows and kinds from the front on, whatever stands after them.
use Rattle.std.proofs.Math.Path.{◌≡◌, refl, ap, sym}
use Rattle.std.proofs.Common.{◌∙◌, not-suc-le-zero, length-append, length-set, length-take, take_at, get_or-take}
use mathlib.Core.List.{List, [], ◌∷◌, ◌++◌, append_assoc}
use Rattle.std.proofs.Math.Bool.{true, false}
use Prim.Native.Nat.{ℕ, zero, suc, ◌+◌, ◌*◌, ◌≤◌, ◌<◌}
use native.Mathlib.Omega.{arith}
use borrow.Author.Tests.{ltb-true, ltb-false, eqb-true, eq-eqb}
use Rattle.std.specs.Prelude.{eqb, take, drop}
use Rattle.std.proofs.Math.ListN.{length, get_or, get_or-append}
use Rattle.std.proofs.Math.Seq.{get_or-append-add}
use Rattle.std.proofs.lemmas.List.Edits.{sets, sets-eq}
use Rattle.foundation.specs.Lists.{append-nil, five}
use Rattle.foundation.specs.Tests.{test_false}
use Rattle.foundation.specs.Search.{first, first_hit, first_clear}
use Rattle.model.specs.Tables.{Contract}
use Rattle.model.specs.Rounds.{kind_automaton, ListedKind, kind_at, lists}
use Rattle.model.specs.Checking.{row_numbers, kind_numbers}
use Rattle.model.proofs.Rounds.Covering.{HasState, lists_has, kinds_decided}
use Rattle.model.proofs.Rounds.Buffers.{FiveWords}
use Rattle.model.specs.Kinds.{breaks}
use Rattle.model.proofs.Laws.Established.{Established}
use Rattle.breaking.specs.Verdicts.{breaking, VerdictsOf, breaking_is}
use Rattle.breaking.specs.declared.Verdicts.{Verdicts}
use Rattle.kind_slots.specs.Stored.{kind_in, same_words, same_kind, kind_place, kind_listed, with_kind}
use Rattle.kind_slots.proofs.Same.{all_five}
use Rattle.kind_lists.specs.Listing.{with_row}

-- a sixth number does not change the first five
pub front : (kind : List ℕ) → length kind ≡ 5 → (w : ℕ) → w < 5 → get_or (kind ++ (0 ∷ [])) w 0 ≡ get_or kind w 0
front kind e w h = get_or-append kind (0 ∷ []) 0 w (omega arith)

-- the words of row j are five given ones
same-words : (words : List ℕ) (j : ℕ) (kind : List ℕ) → length kind ≡ 5 → ((w : ℕ) → w < 5 → get_or words (5 * j + w) 0 ≡ get_or kind w 0) → kind_in words j ≡ kind
same-words words j kind e h =
    let h0 : get_or words (5 * j) 0 ≡ get_or kind 0 0 = ap (λ (i : ℕ). get_or words i 0) (omega arith) ∙ h 0 (omega arith) in
    rw (h0, h 1 (omega arith), h 2 (omega arith), h 3 (omega arith), h 4 (omega arith)) (sym (five kind e))

-- the test of five words, both ways
pub same_kind_in : (words : List ℕ) (j : ℕ) (kind : List ℕ) → length kind ≡ 5 → same_kind words j (kind ++ (0 ∷ [])) ≡ true → kind_in words j ≡ kind
unfolding same_words
same_kind_in words j kind e t =
    let f0 = front kind e 0 (omega arith) in
    let f1 = front kind e 1 (omega arith) in
    let f2 = front kind e 2 (omega arith) in
    let f3 = front kind e 3 (omega arith) in
    let f4 = front kind e 4 (omega arith) in
    let (h0, h1, h2, h3, h4) = all_five _ _ _ _ _ t in
    let g0 : get_or words (5 * j) 0 ≡ get_or kind 0 0 = eqb-true _ _ h0 ∙ f0 in
    let g1 : get_or words (5 * j + 1) 0 ≡ get_or kind 1 0 = eqb-true _ _ h1 ∙ f1 in
    let g2 : get_or words (5 * j + 2) 0 ≡ get_or kind 2 0 = eqb-true _ _ h2 ∙ f2 in
    let g3 : get_or words (5 * j + 3) 0 ≡ get_or kind 3 0 = eqb-true _ _ h3 ∙ f3 in
    let g4 : get_or words (5 * j + 4) 0 ≡ get_or kind 4 0 = eqb-true _ _ h4 ∙ f4 in
    rw (g0, g1, g2, g3, g4) (sym (five kind e))

pub in_same_kind : (words : List ℕ) (j : ℕ) (kind : List ℕ) → length kind ≡ 5 → kind_in words j ≡ kind → same_kind words j (kind ++ (0 ∷ [])) ≡ true
unfolding same_words
in_same_kind words j kind e h =
    let at : (w x : ℕ) → w < 5 → get_or (kind_in words j) w 0 ≡ x → eqb x (get_or (kind ++ (0 ∷ [])) w 0) ≡ true =
    λ w x l q. eq-eqb x (get_or (kind ++ (0 ∷ [])) w 0) (sym q ∙ ap (λ (k : List ℕ). get_or k w 0) h ∙ sym (front kind e w l)) in
    rw (at 0 _ (omega arith) refl, at 1 _ (omega arith) refl, at 2 _ (omega arith) refl, at 3 _ (omega arith) refl, at 4 _ (omega arith) refl)

module _ (C : Contract) where
  -- a kind with a sixth word is told by its five
  pub breaks_padded : Established C → (v : Verdicts) → VerdictsOf C.input.marks C.output.marks v → (kind : List ℕ) → length kind ≡ 5
      → breaking v.accepted v.refused (kind ++ (0 ∷ [])) ≡ breaks C kind
  breaks_padded known v of kind e =
      breaking_is C known v of (kind ++ (0 ∷ [])) ∙ ap (λ (k : List ℕ). breaks C k) (take_at kind (0 ∷ []) 5 e)

  row_numbers_more : (list : List (ListedKind C)) (row : ListedKind C) → row_numbers C (list ++ (row ∷ [])) ≡ row_numbers C list ++ (row.symbol ∷ row.left ∷ row.right ∷ [])
  unfolding row_numbers
  row_numbers_more [] row = refl
  row_numbers_more (x ∷ list) row = ap (λ (l : List ℕ). x.symbol ∷ x.left ∷ x.right ∷ l) (row_numbers_more list row)

  kind_numbers_more : (list : List (ListedKind C)) (row : ListedKind C) → kind_numbers C (list ++ (row ∷ [])) ≡ kind_numbers C list ++ row.state
  unfolding kind_numbers
  kind_numbers_more [] row = append-nil row.state
  kind_numbers_more (x ∷ list) row =
      ap (λ (l : List ℕ). x.state ++ l) (kind_numbers_more list row) ∙ sym (append_assoc x.state (kind_numbers C list) row.state)

  -- word w of kind j
  kind_number : (list : List (ListedKind C)) → FiveWords C list → (j : ℕ) → j < length list → (w : ℕ) → w < 5
      → get_or (kind_numbers C list) (5 * j + w) 0 ≡ get_or (kind_at C list j) w 0
  unfolding kind_numbers
  kind_number [] f j h w l = absurd (not-suc-le-zero h)
  kind_number (x ∷ list) f zero h w l =
      let e : length x.state ≡ 5 = f.five 0 (omega arith) in
      let q : 5 * 0 + w ≡ w = omega arith in
      ap (λ (i : ℕ). get_or (x.state ++ kind_numbers C list) i 0) q ∙ get_or-append x.state (kind_numbers C list) 0 w (omega arith)
  kind_number (x ∷ list) f (suc j) h w l =
      let e : length x.state ≡ 5 = f.five 0 (omega arith) in
      let q : 5 * suc j + w ≡ length x.state + (5 * j + w) = omega arith in
      ap (λ (i : ℕ). get_or (x.state ++ kind_numbers C list) i 0) q
      ∙ get_or-append-add x.state (kind_numbers C list) (5 * j + w) 0
      ∙ kind_number list (record { five = λ i k. f.five (suc i) (omega arith) }) j (omega arith) w l

  -- buffers for `limit` rows hold a list
  pub record Holds (limit : ℕ) (rows words : List ℕ) (list : List (ListedKind C)) : Type 0 where
    pub few : limit ≤ 512
    pub fits : length list ≤ limit
    pub row_room : length rows ≡ 3 * limit
    pub word_room : length words ≡ 5 * limit
    pub rows_are : take (3 * length list) rows ≡ row_numbers C list
    pub words_are : take (5 * length list) words ≡ kind_numbers C list

  module _ (limit : ℕ) (rows words : List ℕ) (list : List (ListedKind C)) (h : Holds limit rows words list) (f : FiveWords C list) where
    -- the kind of a row that is held
    pub kind_held : (j : ℕ) → j < length list → kind_in words j ≡ kind_at C list j
    kind_held j l =
        same-words words j (kind_at C list j) (f.five j l)
        (λ w k.
        sym (get_or-take (5 * length list) words (5 * j + w) 0 (omega arith))
        ∙ ap (λ (m : List ℕ). get_or m (5 * j + w) 0) h.words_are
        ∙ kind_number list f j l w k)

    -- "a kind not yet listed"
    module _ (kind : List ℕ) (e : length kind ≡ 5) where
      pub listed_has : kind_listed words (length list) (kind ++ (0 ∷ [])) ≡ true → HasState (kind_automaton C) list kind
      unfolding kind_place
      listed_has t =
          let j : ℕ = first (λ i. same_kind words i (kind ++ (0 ∷ []))) (length list) in
          let l : j < length list = ltb-true j (length list) t in
          let hit : same_kind words j (kind ++ (0 ∷ [])) ≡ true = first_hit (λ i. same_kind words i (kind ++ (0 ∷ []))) (length list) l in
          record { index = j; inside = l; found = sym (kind_held j l) ∙ same_kind_in words j kind e hit }

      pub not_listed : kind_listed words (length list) (kind ++ (0 ∷ [])) ≡ false → lists (kind_automaton C) list kind ≡ false
      unfolding kind_place
      not_listed t =
          test_false _
          (λ s.
          let has = lists_has (kind_automaton C) (kinds_decided C) list kind s in
          let hit : same_kind words has.index (kind ++ (0 ∷ [])) ≡ true =
          in_same_kind words has.index kind e (kind_held has.index has.inside ∙ has.found) in
          let clear : same_kind words has.index (kind ++ (0 ∷ [])) ≡ false =
          first_clear (λ i. same_kind words i (kind ++ (0 ∷ []))) (length list)
          (ltb-false (first (λ i. same_kind words i (kind ++ (0 ∷ []))) (length list)) (length list) t) has.index has.inside in
          let z : ◌≡◌ {A = ℕ} 0 1 = cc in
          omega arith)

      -- stores at the end of the list
      with-row : (n s i j : ℕ) → with_row rows n s i j ≡ sets rows (3 * n) (s ∷ i ∷ j ∷ [])
      with-row n s i j =
          let e1 : 3 * n + 1 ≡ suc (3 * n) = omega arith in
          let e2 : 3 * n + 2 ≡ suc (suc (3 * n)) = omega arith in
          rw (e1, e2)

      with-kind : (n : ℕ) → with_kind words n (kind ++ (0 ∷ [])) ≡ sets words (5 * n) kind
      with-kind n =
          let e1 : 5 * n + 1 ≡ suc (5 * n) = omega arith in
          let e2 : 5 * n + 2 ≡ suc (suc (5 * n)) = omega arith in
          let e3 : 5 * n + 3 ≡ suc (suc (suc (5 * n))) = omega arith in
          let e4 : 5 * n + 4 ≡ suc (suc (suc (suc (5 * n)))) = omega arith in
          rw (
            e1,
            e2,
            e3,
            e4,
            front kind e 0 (omega arith),
            front kind e 1 (omega arith),
            front kind e 2 (omega arith),
            front kind e 3 (omega arith),
            front kind e 4 (omega arith),
          )
          (ap (λ (k : List ℕ). sets words (5 * n) k) (sym (five kind e)))

      -- what stands up to the end of a run of stores
      stored_front : (l vs : List ℕ) (k m : ℕ) → k + length vs ≡ m → m ≤ length l → take m (sets l k vs) ≡ take k l ++ vs
      stored_front l vs k m q b =
          ap (take m) (sets-eq vs l k (omega arith))
          ∙ take_at (take k l ++ vs) (drop (k + length vs) l) m (simp (length-append, length-take) (omega arith))

      pub stored_held : (s i j : ℕ) → length list < limit
          → Holds limit (with_row rows (length list) s i j) (with_kind words (length list) (kind ++ (0 ∷ [])))
          (list ++ (record { symbol = s; left = i; right = j; state = kind } ∷ []))
      stored_held s i j room =
          let longer : length (list ++ (record { symbol = s; left = i; right = j; state = kind } ∷ [])) ≡ length list + 1 = length-append list _ in
          record {
            few = h.few;
            fits = omega (arith, h.fits);
            row_room = simp length-set h.row_room;
            word_room = simp length-set h.word_room;
            rows_are =
                ap (take (3 * length (list ++ (record { symbol = s; left = i; right = j; state = kind } ∷ [])))) (with-row (length list) s i j)
                ∙ stored_front rows (s ∷ i ∷ j ∷ []) (3 * length list) (3 * length (list ++ (record { symbol = s; left = i; right = j; state = kind } ∷ []))) (omega arith) (omega (arith, h.row_room))
                ∙ ap (λ (l : List ℕ). l ++ (s ∷ i ∷ j ∷ [])) h.rows_are
                ∙ sym (row_numbers_more list (record { symbol = s; left = i; right = j; state = kind }));
            words_are =
                ap (take (5 * length (list ++ (record { symbol = s; left = i; right = j; state = kind } ∷ [])))) (with-kind (length list))
                ∙ stored_front words kind (5 * length list) (5 * length (list ++ (record { symbol = s; left = i; right = j; state = kind } ∷ []))) (omega arith) (omega (arith, h.word_room))
                ∙ ap (λ (l : List ℕ). l ++ kind) h.words_are
                ∙ sym (kind_numbers_more list (record { symbol = s; left = i; right = j; state = kind }));
          }
