-- Where the loops of a round stand, and what each step does: a visited pair is one combination of the round, rows passed
-- over are a stretch of combinations that add nothing.
use Rattle.std.specs.Prelude.{◌≡◌, refl, List, [], ◌∷◌, ◌++◌, Bool, true, false, ℕ, suc, ◌+◌, ◌≤◌, ◌<◌, ltb, length, get_or, Result, zero, ◌-◌}
use Rattle.std.proofs.Common.{ap, subst, sym, ◌∙◌, add-one, arith, ltb-true, zero-add, suc-add}
use Rattle.foundation.specs.Tests.{choose}
use Rattle.foundation.specs.Words.{bit}
use Rattle.model.specs.Tables.{Contract}
use Rattle.model.specs.Kinds.{next_kind}
use Rattle.model.specs.Rounds.{kind_automaton, ListedKind, kind_at, combinations, round_to, rounds, TreeAutomaton, Listed}
use Rattle.model.proofs.Laws.Established.{Established}
use Rattle.model.proofs.Rounds.Growth.{Begins, begins_length, begins_state, middle_begins, middle_beginning, rows_begin}
use Rattle.model.proofs.Rounds.Places.{place, place_next_left, place_next_symbol, place_below}
use Rattle.model.proofs.Rounds.Covering.{HasState, has_later, kinds_decided, Decides}
use Rattle.model.proofs.Rounds.Skipping.{step, skip_pair, skip_right, skip_left, same_left_listed, same_right_listed, PairListed}
use Rattle.model.proofs.Rounds.Buffers.{FiveWords, beginning_five, length_next_kind}
use Rattle.breaking.specs.Verdicts.{VerdictsOf}
use Rattle.breaking.specs.declared.Verdicts.{Verdicts}
use Rattle.kind_lists.specs.Listing.{Becomes, offering}
use Rattle.kind_slots.specs.Stored.{kind_in}
use Rattle.kind_lists.specs.Held.{kind_held}
use Rattle.kind_lists.specs.Outcomes.{Unbroken, Outcome, outcome_map}
use Rattle.kind_lists.specs.Offers.{offered}
use Rattle.kind_lists.specs.declared.Stop.{Stop}
use Rattle.round_pairs.specs.declared.Round.{Round}
use Rattle.row_marks.specs.Marks.{NextMarked}

module _ (A : TreeAutomaton) (decides : Decides A) where
  lefts_after : (rows : List (Listed A)) (s i d : ℕ) → 1 ≤ s → d + i ≤ length rows
      → ((k m : ℕ) → i ≤ k → k < d + i → m < length rows → PairListed A rows s k m)
      → round_to A rows (place (length rows) s (d + i) 0) ≡ round_to A rows (place (length rows) s i 0)
  lefts_after rows s i zero h hi listed = rw zero-add
  lefts_after rows s i (suc d) h hi listed =
      rw suc-add
      (skip_left A decides rows s (d + i) h (omega arith) (λ m l. listed (d + i) m (omega arith) (omega arith) l)
      ∙ lefts_after rows s i d h (omega arith) (λ k m p q l. listed k m p (omega arith) l))

  -- the left rows from i to before k, all passed over
  skip_lefts : (rows : List (Listed A)) (s i k : ℕ) → 1 ≤ s → i ≤ k → k ≤ length rows
      → ((l m : ℕ) → i ≤ l → l < k → m < length rows → PairListed A rows s l m)
      → round_to A rows (place (length rows) s k 0) ≡ round_to A rows (place (length rows) s i 0)
  skip_lefts rows s i k h ik hk listed =
      let q : (k - i) + i ≡ k = omega arith in
      rw q at (lefts_after rows s i (k - i) h (omega arith) (λ l m p r b. listed l m p (omega arith) b))

module _ (C : Contract) where
  -- a row makes the same kinds as an earlier one, on the left or on the right, in every list that has it
  abbrev pub LeftSame : (s i : ℕ) → Type 0
  LeftSame s i =
      (e : ℕ) × (e < i)
      × ((height : ℕ) → i < length (rounds (kind_automaton C) height) → (q : List ℕ) → next_kind C s (kind_at C (rounds (kind_automaton C) height) i) q ≡ next_kind C s (kind_at C (rounds (kind_automaton C) height) e) q)

  abbrev pub RightSame : (s j : ℕ) → Type 0
  RightSame s j =
      (e : ℕ) × (e < j)
      × ((height : ℕ) → j < length (rounds (kind_automaton C) height) → (q : List ℕ) → next_kind C s q (kind_at C (rounds (kind_automaton C) height) j) ≡ next_kind C s q (kind_at C (rounds (kind_automaton C) height) e))

  -- the rows below `marked` have their marks: one that misses a symbol's makes the same kinds as an earlier row
  pub record LeftsMarked (marked : ℕ) (lefts : List ℕ) : Type 0 where
    pub same : (s i : ℕ) → 1 ≤ s → s < C.transformation.symbols → i < marked → bit (get_or lefts i 0) s ≡ false → LeftSame s i
    pub long : length lefts ≡ 512

  pub record RightsMarked (marked : ℕ) (rights : List ℕ) : Type 0 where
    pub same : (s j : ℕ) → 1 ≤ s → s < C.transformation.symbols → j < marked → bit (get_or rights j 0) s ≡ false → RightSame s j
    pub long : length rights ≡ 512

  pub no_lefts_marked : (lefts : List ℕ) → length lefts ≡ 512 → LeftsMarked 0 lefts
  no_lefts_marked lefts long = record { same = λ s i h1 h_s hi u. absurd (omega arith); long = long }

  pub no_rights_marked : (rights : List ℕ) → length rights ≡ 512 → RightsMarked 0 rights
  no_rights_marked rights long = record { same = λ s j h1 h_s hj u. absurd (omega arith); long = long }

  -- `stood` rows stand after rounds 0 to `height`; the pairs of those below `before` are listed
  pub record Standing (height before stood : ℕ) : Type 0 where
    pub counted : stood ≡ length (rounds (kind_automaton C) height)
    pub earlier : before ≤ stood
    pub old : (s i j : ℕ) → 1 ≤ s → s < C.transformation.symbols → i < before → j < before
        → HasState (kind_automaton C) (rounds (kind_automaton C) height)
        (next_kind C s (kind_at C (rounds (kind_automaton C) height) i) (kind_at C (rounds (kind_automaton C) height) j))

  -- the list in the middle of a round, before symbol s over rows i and j
  abbrev pub list_at : (height s i j : ℕ) → List (ListedKind C)
  list_at height s i j =
      round_to (kind_automaton C) (rounds (kind_automaton C) height) (place (length (rounds (kind_automaton C) height)) s i j)

  -- the loops of a round stand before symbol s over rows i and j: the buffers hold the list so far, of n rows, and the slots are its slots
  pub record At (r : Round) (s i j n : ℕ) (slots rows words : List ℕ) : Type 0 where
    pub standing : Standing r.height r.before r.stood
    pub symbol : 1 ≤ s
    pub list : Unbroken C r.limit n slots rows words (list_at r.height s i j)

  module _ {r : Round} {s i j n : ℕ} {slots rows words : List ℕ} (at : At r s i j n slots rows words) where
    abbrev stood : List (ListedKind C)
    stood = rounds (kind_automaton C) r.height

    -- the loops stand elsewhere where the list is the same
    moved : (s' i' j' : ℕ) → 1 ≤ s' → list_at r.height s' i' j' ≡ list_at r.height s i j → At r s' i' j' n slots rows words
    moved s' i' j' h e =
        record {
          standing = at.standing;
          symbol = h;
          list = subst (λ (list : List (ListedKind C)). Unbroken C r.limit n slots rows words list) (sym e) at.list;
        }

    -- a right row without its mark is passed over
    pub pass_right : {rights : List ℕ} → RightsMarked r.stood rights → s < C.transformation.symbols → i < r.stood → j < r.stood
        → bit (get_or rights j 0) s ≡ false → At r s i (j + 1) n slots rows words
    pass_right marks h_s hi hj unmarked =
        let counted = at.standing.counted in
        let (e, le, q) = marks.same s j at.symbol h_s hj unmarked in
        moved s i (j + 1) at.symbol
        (rw (add-one j)
        (skip_pair (kind_automaton C) (kinds_decided C) stood s i j at.symbol (omega arith) (omega arith)
        (same_right_listed (kind_automaton C) (kinds_decided C) stood s j e at.symbol le (omega arith) (q r.height (omega arith)) i (omega arith))))

    -- a left row without its mark is passed over with all right rows
    pub pass_left : {lefts : List ℕ} → LeftsMarked r.stood lefts → j ≡ 0 → s < C.transformation.symbols → i < r.stood
        → bit (get_or lefts i 0) s ≡ false → At r s (i + 1) 0 n slots rows words
    pass_left marks z h_s hi unmarked =
        let counted = at.standing.counted in
        let (e, le, q) = marks.same s i at.symbol h_s hi unmarked in
        moved s (i + 1) 0 at.symbol
        (rw (z, add-one i)
        (skip_left (kind_automaton C) (kinds_decided C) stood s i at.symbol (omega arith)
        (same_left_listed (kind_automaton C) (kinds_decided C) stood s i e at.symbol le (omega arith) (q r.height (omega arith)))))

    -- right rows without their mark are passed over
    pub pass_rights : {rights : List ℕ} → RightsMarked r.stood rights → s < C.transformation.symbols → i < r.stood
        → {k : ℕ} → NextMarked rights s j r.stood k → At r s i k n slots rows words
    pass_rights marks h_s hi {k} m =
        let counted = at.standing.counted in
        moved s i k at.symbol
        (skip_right (kind_automaton C) (kinds_decided C) stood s i j k at.symbol (omega arith) m.after (omega (arith, m.within))
        (λ x from below.
        let (e, le, q) = marks.same s x at.symbol h_s (omega (arith, m.within)) (m.passed x from below) in
        same_right_listed (kind_automaton C) (kinds_decided C) stood s x e at.symbol le (omega (arith, m.within)) (q r.height (omega (arith, m.within))) i (omega arith)))

    -- left rows without their mark are passed over whole
    pub pass_lefts : {lefts : List ℕ} → LeftsMarked r.stood lefts → j ≡ 0 → s < C.transformation.symbols
        → {k : ℕ} → NextMarked lefts s i r.stood k → At r s k 0 n slots rows words
    pass_lefts marks z h_s {k} m =
        let counted = at.standing.counted in
        moved s k 0 at.symbol
        (rw z
        (skip_lefts (kind_automaton C) (kinds_decided C) stood s i k at.symbol m.after (omega (arith, m.within))
        (λ x y from below hy.
        let (e, le, q) = marks.same s x at.symbol h_s (omega (arith, m.within)) (m.passed x from below) in
        same_left_listed (kind_automaton C) (kinds_decided C) stood s x e at.symbol le (omega (arith, m.within)) (q r.height (omega (arith, m.within))) y hy)))

    -- pairs of rows that stood in the round before are passed over
    pub pass_old : j ≡ 0 → s < C.transformation.symbols → i < r.before → At r s i r.before n slots rows words
    pass_old z h_s hi =
        let counted = at.standing.counted in
        let earlier = at.standing.earlier in
        moved s i r.before at.symbol
        (rw z
        (skip_right (kind_automaton C) (kinds_decided C) stood s i 0 r.before at.symbol (omega arith) (omega arith) (omega arith)
        (λ k h0 hk. has_later (rows_begin (kind_automaton C) stood (place (length stood) s i k)) (at.standing.old s i k at.symbol h_s hi hk))))

    -- .. so that the right rows begin behind them
    pub begin_right : j ≡ 0 → s < C.transformation.symbols → (k : ℕ) → k ≡ choose (ltb i r.before) r.before 0
        → At r s i k n slots rows words × (k ≤ r.stood)
    begin_right z h_s k e = go (ltb i r.before) refl
      where
        earlier : r.before ≤ r.stood
        earlier = at.standing.earlier

        go : (b : Bool) → ltb i r.before ≡ b → At r s i k n slots rows words × (k ≤ r.stood)
        go true q =
            let f : r.before ≡ k = sym (e ∙ rw q) in
            (subst (λ (x : ℕ). At r s i x n slots rows words) f (pass_old z h_s (ltb-true i r.before q)), omega arith)
        go false q =
            let f : 0 ≡ k = sym (e ∙ rw q) in
            (subst (λ (x : ℕ). At r s i x n slots rows words) (z ∙ f) at, omega arith)

    -- after the last right row, and after the last left row
    pub next_left : j ≡ r.stood → At r s (i + 1) 0 n slots rows words
    next_left e =
        let q : j ≡ length stood = e ∙ at.standing.counted in
        moved s (i + 1) 0 at.symbol
        (ap (λ (c : ℕ). round_to (kind_automaton C) stood c) (rw (add-one i, q) (place_next_left (length stood) s i)))

    pub next_symbol : i ≡ r.stood → j ≡ 0 → At r (s + 1) 0 0 n slots rows words
    next_symbol e z =
        let q : i ≡ length stood = e ∙ at.standing.counted in
        let h = at.symbol in
        moved (s + 1) 0 0 (omega arith)
        (ap (λ (c : ℕ). round_to (kind_automaton C) stood c) (rw (add-one s, q, z) (place_next_symbol (length stood) s h)))

    -- a pair is visited: the kinds of its rows are read, the kind of the symbol over them is offered
    module _ (h_s : s < C.transformation.symbols) (hi : i < r.stood) (hj : j < r.stood) where
      abbrev list : List (ListedKind C)
      list = list_at r.height s i j

      abbrev pair_kind : List ℕ
      pair_kind = next_kind C s (kind_at C stood i) (kind_at C stood j)

      -- the list so far, and after the pair, begins the list of the next round
      in_round : place (length stood) s i j < combinations (kind_automaton C) stood
      in_round =
          let counted = at.standing.counted in
          place_below (length stood) s i j (omega arith) (omega arith) C.transformation.symbols at.symbol h_s

      words_five : FiveWords C list
      words_five = beginning_five C list (middle_beginning (kind_automaton C) r.height (place (length stood) s i j) (omega (arith, in_round)))

      then_begins : Begins (kind_automaton C) (list_at r.height s i (j + 1)) (rounds (kind_automaton C) (suc r.height))
      then_begins =
          let e : place (length stood) s i (j + 1) ≡ suc (place (length stood) s i j) = omega arith in
          rw e (middle_begins (kind_automaton C) r.height (suc (place (length stood) s i j)) (omega (arith, in_round)))

      row_held : (k : ℕ) → k < r.stood → kind_in words k ≡ kind_at C stood k
      row_held k h =
          let counted = at.standing.counted in
          let start = rows_begin (kind_automaton C) stood (place (length stood) s i j) in
          kind_held C r.limit rows words list at.list.holds words_five k (omega (arith, begins_length start)) ∙ begins_state start k (omega arith)

      after : list_at r.height s i (j + 1) ≡ Rattle.model.specs.Rounds.added (kind_automaton C) list (record { symbol = s; left = i; right = j; state = pair_kind })
      after =
          let counted = at.standing.counted in
          rw (add-one j) (step (kind_automaton C) stood s i j at.symbol (omega arith) (omega arith))

      pub visit : Established C → (v : Verdicts) → VerdictsOf C.input.marks C.output.marks v
          → (kind : List ℕ) → kind ≡ next_kind C s (kind_in words i) (kind_in words j) ++ (0 ∷ [])
          → (p : Result ℕ Stop) (slots' rows' words' : List ℕ) → Becomes (offering v r.limit n s i j kind slots rows words) p slots' rows' words'
          → Outcome C (λ m. At r s i (j + 1) m slots' rows' words') r.limit (suc r.height) rows' words' p
      visit known v verdicts kind ek p slots' rows' words' b =
          let e : kind ≡ pair_kind ++ (0 ∷ []) = ek ∙ rw (row_held i hi, row_held j hj) in
          outcome_map C (λ m u.
          record {
            standing = at.standing;
            symbol = at.symbol;
            list = rw after u;
          }) r.limit (suc r.height) rows' words' p
          (offered C known v verdicts list at.list words_five s i j pair_kind (length_next_kind C s (kind_at C stood i) (kind_at C stood j)) (suc r.height) (rw after at then_begins) p slots' rows' words'
          (rw e at b))
