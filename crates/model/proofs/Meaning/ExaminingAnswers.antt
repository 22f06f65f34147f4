-- What the examiner's verdict means: it refuses for the reasons that W-211 lists; it accepts exactly the lists that hold the empty
-- forest's kind, are closed and hold no breaking kind; no tree breaks a contract with such a list; and the kinds of a pass are one.
use mathlib.Core.Path.{◌≡◌, refl, ap, ap₂, subst, sym, ◌∙◌}
use mathlib.Core.Bool.{not}
use mathlib.Core.Logic.{◌↔◌}
use mathlib.Core.List.{List}
use Prim.Native.Nat.{ℕ, zero, suc, ◌*◌, ◌<◌, ◌≤◌}
use native.Mathlib.Omega.{arith}
use lib.ListN.{length, get_or, take}
use lib.Seq.{ext_get_or}
use Rattle.foundation.specs.Tests.{some_cong, false_test}
use Rattle.foundation.specs.Search.{first_cong}
use Rattle.foundation.specs.Lists.{same_list}
use Rattle.model.specs.Trees.{Tree, empty, node}
use Rattle.model.specs.Tables.{Contract}
use Rattle.model.specs.Answers.{fine, refused, refuse_first, tree, pass}
use Rattle.model.specs.Admission.{admission}
use Rattle.model.specs.Kinds.{empty_kind, next_kind, kind_of, breaks}
use Rattle.model.specs.Rounds.{kind_automaton, ListedKind, kind_at, rounds}
use Rattle.model.specs.Checking.{Checked, kind_numbers, standing, check}
use Rattle.model.specs.Claims.{Admitted}
use Rattle.model.specs.Refusals.{AdmissionNumber, to_5, of_node, of_rules_and_facts, RefusesFor, admission_reasons}
use Rattle.model.specs.Meaning.{TreeOf, kind_rounds, NoneBreaks, NoTreeBreaks, Lent, check_of}
use Rattle.model.specs.Examining.{sent_count, five_words, masked, SameBits, sent_kind, holds, symbol_at, not_held, sent_combinations, first_not_held, length_verdict, empty_verdict, closed_verdict, breaking_verdict, examining, Held, Acceptable, examining_reasons, ExaminingMeans, OwnAccepted}
use Rattle.model.proofs.Laws.Answers.{then_fine, then_passed, then_numbers, refuse_if_numbers, refuse_first_numbers}
use Rattle.model.proofs.Laws.Admitted.{established, admission_numbers}
use Rattle.model.proofs.Laws.Masked.{same_bits_masked, next_masked, breaks_masked}
use Rattle.model.proofs.Rounds.Places.{left_below, right_below}
use Rattle.model.proofs.Rounds.Growth.{begins_state, rounds_begin, rounds_beginning, rounds_not_empty}
use Rattle.model.proofs.Rounds.Covering.{kinds_decided, HasState, round_lists}
use Rattle.model.proofs.Rounds.Listing.{Ended}
use Rattle.model.proofs.Rounds.Stopping.{Ending, shows, passes, stops, check_ends}
use Rattle.model.proofs.Rounds.Buffers.{filled_front, FiveWords, length_kind_numbers, beginning_five, kind_number_at}
use Rattle.model.proofs.Meaning.Answers.{standing_answer, pass_not_tree, pass_not_stopped}
use Rattle.model.proofs.Meaning.Checks.{check-of, check_meaning, breaks_admitted}
use Rattle.model.proofs.Meaning.Verdicts.{then_for, admission_refusals}
use Rattle.model.proofs.Meaning.Examining.{some_listed, empty_good, empty_for, closed_good, closed_for, breaking_good, breaking_for, length_good, length_for}

module _ (C : Contract) (words : List ℕ) where
  -- "1 to 8, 70 .., 71 .., 72 .., 73 .., in that order"
  refuses_for : RefusesFor (examining_reasons C words) (examining C words)
  unfolding examining
  refuses_for =
      then_for (admission C) _ (admission_reasons C) _ (admission_refusals C) λ good.
      let known = established C good in
      then_for _ _ _ _ (length_for C words) λ long.
      then_for _ _ _ _ (empty_for C known words) λ held.
      then_for _ _ _ _ (closed_for C known words) λ closed.
      breaking_for C known words

  -- no refusal has the number 0
  pub examining_number : (number place : ℕ) → examining C words ≡ refused number place → 1 ≤ number
  unfolding examining length_verdict empty_verdict closed_verdict breaking_verdict
  examining_number =
      then_numbers Some _ _ (λ number place e. of-admission number (admission_numbers C number place e))
      (then_numbers Some _ _ (refuse_if_numbers Some _ 70 _ (omega arith))
      (then_numbers Some _ _ (refuse_if_numbers Some _ 71 _ (omega arith))
      (then_numbers Some _ _ (refuse_if_numbers Some _ 72 _ (omega arith)) (refuse_first_numbers Some 73 _ _ (omega arith)))))
    where
      Some : ℕ → Type 0
      Some number = 1 ≤ number

      of-admission : (number : ℕ) → AdmissionNumber number → 1 ≤ number
      of-admission number (to_5 l m) = l
      of-admission number (of_node l m) = omega arith
      of-admission number (of_rules_and_facts l m) = omega arith

  -- "accepts exactly if the list holds the empty forest's kind, holds the kind of every symbol over every two listed kinds, and
  -- holds no breaking kind"
  pub examining_exactly : (examining C words ≡ fine) ↔ (Admitted C × Acceptable C words)
  unfolding examining
  examining_exactly = (
    λ v.
        let (good, r₁) = then_fine _ _ v in
        let (long, r₂) = then_fine _ _ r₁ in
        let (held, r₃) = then_fine _ _ r₂ in
        let (closed, keeps) = then_fine _ _ r₃ in
        let known = established C good in (
          good,
          record {
            whole = ((length_good C words).0 long).0;
            few = ((length_good C words).0 long).1;
            empty = (empty_good C known words).0 held;
            closed = (closed_good C known words).0 closed;
            keeps = (breaking_good C known words).0 keeps;
          },
        ),
    λ (good, a).
        let known = established C good in
        then_passed _ _ good
        ∙ then_passed _ _ ((length_good C words).1 (a.whole, a.few))
        ∙ then_passed _ _ ((empty_good C known words).1 a.empty)
        ∙ then_passed _ _ ((closed_good C known words).1 a.closed)
        ∙ (breaking_good C known words).1 a.keeps,
  )

  -- "Acceptance means no document breaks the contract"
  module _ (good : Admitted C) (a : Acceptable C words) where
    -- the kind of every tree is listed
    tree_held : (t : Tree) → TreeOf C t → Held C words (kind_of C t)
    unfolding kind_of
    tree_held empty over = a.empty
    tree_held (node s l r) (one, below, overl, overr) =
        let known = established C good in
        let hl = tree_held l overl in
        let hr = tree_held r overr in
        let same : (i j : ℕ) → masked C (five_words words i) ≡ masked C (kind_of C l) → masked C (five_words words j) ≡ masked C (kind_of C r)
        → next_kind C s (five_words words i) (five_words words j) ≡ next_kind C s (kind_of C l) (kind_of C r) =
        λ i j e f. sym (next_masked C known s _ _) ∙ ap₂ (next_kind C s) e f ∙ next_masked C known s _ _ in
        rw (same hl.number hr.number hl.same hr.same) at (a.closed s hl.number hr.number one below hl.inside hr.inside)

    acceptable_keeps : NoTreeBreaks C
    acceptable_keeps t over b =
        let known = established C good in
        let h = tree_held t over in
        let same : breaks C (kind_of C t) ≡ breaks C (five_words words h.number) =
        sym (breaks_masked C known (kind_of C t)) ∙ ap (λ (kind : List ℕ). breaks C kind) (sym h.same) ∙ breaks_masked C known _ in
        false_test _ (same ∙ a.keeps h.number h.inside) ((breaks_admitted C good t over).1 b)

  pub accepted_keeps : examining C words ≡ fine → NoTreeBreaks C
  accepted_keeps e = let (good, a) = examining_exactly.0 e in acceptable_keeps good a

  -- so no check shows a document
  none-shown : examining C words ≡ fine → (lent : Lent) (j : ℕ) → (check_of C lent).answer ≡ tree j → ⊥
  none-shown e lent j shown =
      let least = (check_meaning C (examining_exactly.0 e).0 lent).tree_least j shown in accepted_keeps e _ least.over least.breaking

-- "Bits that stand for no state, fact or mark are ignored.": lists whose kinds have the same marks, states and facts get the same answer
module _ (C : Contract) (words other : List ℕ) (long : length other ≡ length words)
    (bits : (k : ℕ) → k < sent_count words → SameBits C (five_words words k) (five_words other k)) where
  same : (k : ℕ) → k < sent_count words → sent_kind C other k ≡ sent_kind C words k
  same k h = sym (same_bits_masked C _ _ (bits k h))

  same_holds : (kind : List ℕ) → holds C other kind ≡ holds C words kind
  unfolding holds
  same_holds kind = rw long (some_cong _ _ _ (λ k h. ap (λ (a : List ℕ). same_list a kind) (same k h)))

  same_not_held : (c : ℕ) → c < sent_combinations C words → not_held C other c ≡ not_held C words c
  same_not_held c h =
      let some : 0 < sent_count words = some_listed C.transformation.symbols (sent_count words) c h in
      rw long
      (ap not
      (same_holds _
      ∙ ap₂ (λ (l r : List ℕ). holds C words (next_kind C (symbol_at C words c) l r)) (same _ (left_below (sent_count words) some c))
      (same _ (right_below (sent_count words) some c))))

  pub examining_ignores : examining C other ≡ examining C words
  unfolding examining length_verdict empty_verdict closed_verdict first_not_held breaking_verdict refuse_first
  examining_ignores =
      rw (
        long,
        same_holds (empty_kind C),
        first_cong (not_held C other) (not_held C words) (sent_combinations C words) same_not_held,
        first_cong (λ k. breaks C (sent_kind C other k)) (λ k. breaks C (sent_kind C words k)) (sent_count words) (λ k h. ap (λ (a : List ℕ). breaks C a) (same k h)),
      ) refl

pub examining_means : (C : Contract) (words : List ℕ) → ExaminingMeans C words (examining C words)
examining_means C words =
    record {
      refuses = refuses_for C words;
      accepted_exactly = examining_exactly C words;
      keeps = accepted_keeps C words;
      excludes = none-shown C words;
      ignores = λ other long bits. examining_ignores C words other long bits;
    }

round_zero_kind : (C : Contract) → kind_at C (kind_rounds C 0) 0 ≡ empty_kind C
unfolding rounds
round_zero_kind C = refl

-- "our own passes' counted kinds are accepted"
module _ (C : Contract) (good : Admitted C) (lent : Lent) (count : ℕ) (passed : (check_of C lent).answer ≡ pass count) where
  abbrev rows : List (ListedKind C)
  rows = kind_rounds C lent.limit

  -- the words of the counted kinds
  abbrev counted_kinds : List ℕ
  counted_kinds = take (5 * count) (check_of C lent).words

  five : FiveWords C rows
  five = beginning_five C rows (rounds_beginning (kind_automaton C) lent.limit)

  -- how the check ended
  record Passed : Type 0 where
    ended : Ended (kind_automaton C) lent.limit
    counted : length rows ≡ count
    keeps : NoneBreaks C lent.limit rows
    within : length rows ≤ lent.limit

  ending : Passed
  ending = go (check_ends C lent.limit)
    where
      answer : (check C lent.limit).answer ≡ pass count
      answer = rw (check-of C good lent) at passed

      go : Ending C lent.limit (check C lent.limit) → Passed
      go (shows j j_l l b none e) = absurd (pass_not_tree answer (standing_answer C lent.limit _ _ e))
      go (passes end l none e) =
          record { ended = end; counted = cc (standing_answer C lent.limit _ _ e, answer); keeps = none; within = l }
      go (stops l none e) = absurd (pass_not_stopped answer (standing_answer C lent.limit _ _ e))

  counted_words : counted_kinds ≡ kind_numbers C rows
  unfolding standing
  counted_words =
      ap (λ (c : Checked). take (5 * count) c.words) ((check_meaning C good lent).pass_rows count passed)
      ∙ filled_front (5 * lent.limit) (5 * count) (kind_numbers C rows) (length_kind_numbers C rows five ∙ ap (λ (n : ℕ). 5 * n) ending.counted)

  long : length counted_kinds ≡ 5 * count
  long = ap length counted_words ∙ length_kind_numbers C rows five ∙ ap (λ (n : ℕ). 5 * n) ending.counted

  number : sent_count counted_kinds ≡ count
  number = omega (arith, long)

  -- the words of row i are its kind
  own_words : (i : ℕ) → i < count → five_words counted_kinds i ≡ kind_at C rows i
  own_words i h =
      rw counted_words (ext_get_or 0 (five_words (kind_numbers C rows) i) (kind_at C rows i) (sym (five.five i inside)) at_word)
    where
      inside : i < length rows
      inside = omega (arith, ending.counted)

      at_word : (k : ℕ) → k < 5 → get_or (five_words (kind_numbers C rows) i) k 0 ≡ get_or (kind_at C rows i) k 0
      at_word zero h = ap (λ (j : ℕ). get_or (kind_numbers C rows) j 0) (omega arith) ∙ kind_number_at C rows five i 0 inside h
      at_word (suc zero) h = kind_number_at C rows five i 1 inside h
      at_word (suc (suc zero)) h = kind_number_at C rows five i 2 inside h
      at_word (suc (suc (suc zero))) h = kind_number_at C rows five i 3 inside h
      at_word (suc (suc (suc (suc zero)))) h = kind_number_at C rows five i 4 inside h
      at_word (suc (suc (suc (suc (suc k))))) h = absurd (omega arith)

  has_held : (kind : List ℕ) → HasState (kind_automaton C) rows kind → Held C counted_kinds kind
  has_held kind w =
      record {
        number = w.index;
        inside = omega (arith, w.inside, ending.counted, number);
        same = ap (λ (k : List ℕ). masked C k) (own_words w.index (omega (arith, w.inside, ending.counted)) ∙ w.found);
      }

  own_acceptable : Acceptable C counted_kinds
  own_acceptable =
      record {
        whole = omega (arith, long, number);
        few = omega (arith, number, ending.counted, ending.within, lent.fits.at_most);
        empty = has_held (empty_kind C) (record { index = 0; inside = rounds_not_empty (kind_automaton C) lent.limit; found = first-row });
        closed = λ s i j one below hi hj.
            rw (own_words i (omega (arith, number)), own_words j (omega (arith, number)))
            (has_held _
            (subst (λ (some : List (ListedKind C)). HasState (kind_automaton C) some (next_kind C s (kind_at C rows i) (kind_at C rows j))) ending.ended
            (round_lists (kind_automaton C) (kinds_decided C) rows s i j one below (omega (arith, number, ending.counted)) (omega (arith, number, ending.counted)))));
        keeps = λ i h.
            rw (own_words i (omega (arith, number))) (ending.keeps.keeps i (omega (arith, number, ending.counted, ending.within)) (omega (arith, number, ending.counted)));
      }
    where
      first-row : kind_at C rows 0 ≡ empty_kind C
      first-row = begins_state (rounds_begin (kind_automaton C) 0 lent.limit (omega arith)) 0 (rounds_not_empty (kind_automaton C) 0) ∙ round_zero_kind C

pub own_accepted : (C : Contract) → OwnAccepted C
own_accepted C good lent count passed = (examining_exactly C _).1 (good, own_acceptable C good lent count passed)
