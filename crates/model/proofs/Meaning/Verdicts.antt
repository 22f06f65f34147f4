-- The verdicts of the operations refuse for the reasons that document 01 lists, the first that applies, at its place. What holds of
-- verdicts one after another, and of a search, is shown once.
use mathlib.Core.Path.{◌≡◌, refl, ap, ap₂, sym, subst, ◌∙◌}
use mathlib.Core.Bool.{Bool, true, false, not, true≢false}
use mathlib.Core.List.{List, [], ◌∷◌, ◌++◌}
use mathlib.Core.Logic.{◌↔◌, ◌⊎◌, inl, inr}
use Prim.Native.Nat.{ℕ, ◌<◌, ◌≤◌}
use native.Mathlib.Omega.{arith}
use borrow.Author.Tests.{ltb-true, ltb-false, lt-ltb, le-ltb, leb-true, le-leb, eq-eqb, ne_eqb}
use lib.Dec.{ltb, eqb}
use lib.ListN.{length, take, drop, length-take, take-append-drop}
use lib.Seq.{take-length, take-append_seam}
use Rattle.foundation.specs.Search.{first, first_at, first_before, first_hit}
use Rattle.model.specs.Trees.{Tree, preorder}
use Rattle.model.specs.Tables.{Contract, Node}
use Rattle.model.specs.Rows.{row_count, tree_at}
use Rattle.model.specs.Answers.{Verdict, fine, refused, refuse_if, refuse_first, refuse_lowest, ◌then◌}
use Rattle.model.specs.Admission.{tag_wrong, name_wrong, child_wrong, reference_wrong, unused_filled, node_fault, lowest_node_fault, most_facts, sizes, lengths, input_rows, entries, counts, nodes, rules, facts, admission}
use Rattle.model.specs.Documents.{most_numbers, Leading, ends, faulty, document_tree, reading, numbers_taken, leading_tree, fault_of, leading_verdict, whole_verdict}
use Rattle.model.specs.Judging.{judging_verdict}
use Rattle.model.specs.Checking.{checking_verdict}
use Rattle.model.specs.Running.{rows_wrong, running_verdict}
use Rattle.model.specs.WritingOut.{writing_verdict}
use Rattle.model.specs.Refusals.{Reason, NothingWrong, FirstReason, NoReason, RefusesFor, LowestPlace, with_number, lowest, only, LowestEntry, node_reasons, NotOfRun, Fault, Endless, LeadingDocument, leading_reasons, ReadsLeading, ReadsWhole, admission_reasons, judging_reasons, checking_reasons, running_reasons, writing_reasons}
use Rattle.model.proofs.Laws.Answers.{refused_not_fine, then_fine, then_passed, Only, refuse_if_fine, refuse_if_passed, refuse_if_told, refuse_if_only, refuse_if_refused, refuse_first_at, refuse_lowest_at, refuse_lowest_told, Numbers, then_numbers, refused_numbers, refuse_if_numbers, refuse_first_numbers}
use Rattle.model.proofs.Laws.Admitted.{established, admission_numbers, not_late}
use Rattle.model.proofs.Laws.Documents.{ends_taken, leading_fine, ends_fine, reading_followed, leading_tree_followed}
use Rattle.model.proofs.Meaning.Faults.{endless_means, fault_only, fault_exactly}

-- Reasons one behind another

module _ (ss : List Reason) (number place : ℕ) where
  first_front : (rs : List Reason) → FirstReason rs number place → FirstReason (rs ++ ss) number place
  first_front [] f = absurd f
  first_front (r ∷ rs) (inl wrong) = inl wrong
  first_front (r ∷ rs) (inr (right, f)) = inr (right, first_front rs f)

  first_behind : (rs : List Reason) → NoReason rs → FirstReason ss number place → FirstReason (rs ++ ss) number place
  first_behind [] none f = f
  first_behind (r ∷ rs) none f = inr (none.0, first_behind rs none.1 f)

  first_apart : (rs : List Reason) → FirstReason (rs ++ ss) number place
      → FirstReason rs number place ⊎ (NoReason rs × FirstReason ss number place)
  first_apart [] f = inr (tt, f)
  first_apart (r ∷ rs) (inl wrong) = inl (inl wrong)
  first_apart (r ∷ rs) (inr (right, f)) = go (first_apart rs f)
    where
      go : FirstReason rs number place ⊎ (NoReason rs × FirstReason ss number place)
          → FirstReason (r ∷ rs) number place ⊎ (NoReason (r ∷ rs) × FirstReason ss number place)
      go (inl g) = inl (inr (right, g))
      go (inr (none, g)) = inr ((right, none), g)

none_both : (rs ss : List Reason) → NoReason (rs ++ ss) ↔ (NoReason rs × NoReason ss)
none_both [] ss = (λ none. (tt, none), λ both. both.1)
none_both (r ∷ rs) ss =
    let rest = none_both rs ss in (
      λ none. let both = rest.0 none.1 in ((none.0, both.0), both.1),
      λ both. (both.0.0, rest.1 (both.0.1, both.1)),
    )

-- one verdict after another: what the second refuses for matters where the first is fine
pub then_for : (v w : Verdict) (rs ss : List Reason) → RefusesFor rs v → (v ≡ fine → RefusesFor ss w) → RefusesFor (rs ++ ss) (v then w)
unfolding ◌then◌
then_for fine w rs ss of-v of-w =
    let none : NoReason rs = of-v.passes.0 refl in
    record {
      refuses = λ number place. (
        λ e. first_behind ss number place rs none (((of-w refl).refuses number place).0 e),
        λ f. ((of-w refl).refuses number place).1 (behind number place (first_apart ss number place rs f)),
      );
      passes = (λ e. (none_both rs ss).1 (none, (of-w refl).passes.0 e), λ f. (of-w refl).passes.1 ((none_both rs ss).0 f).1);
    }
  where
    behind : (number place : ℕ) → FirstReason rs number place ⊎ (NoReason rs × FirstReason ss number place) → FirstReason ss number place
    behind number place (inl f) = absurd (refused_not_fine number place (sym ((of-v.refuses number place).1 f)))
    behind number place (inr (none, f)) = f
then_for (refused m q) w rs ss of-v of-w =
    record {
      refuses = λ number place. (
        λ e. first_front ss number place rs ((of-v.refuses number place).0 e),
        λ f. front number place (first_apart ss number place rs f),
      );
      passes = (λ e. absurd (refused_not_fine m q e), λ f. absurd (stopped ((none_both rs ss).0 f).0));
    }
  where
    stopped : NoReason rs → ⊥
    stopped none = refused_not_fine m q (of-v.passes.1 none)

    front : (number place : ℕ) → FirstReason rs number place ⊎ (NoReason rs × FirstReason ss number place) → refused m q ≡ refused number place
    front number place (inl f) = (of-v.refuses number place).1 f
    front number place (inr (none, f)) = absurd (stopped none)

-- a single reason
single_for : (v : Verdict) (r : Reason) → ((number place : ℕ) → (v ≡ refused number place) ↔ r number place) → RefusesFor (r ∷ []) v
single_for v r exactly =
    record {
      refuses = λ number place. (λ e. inl ((exactly number place).0 e), λ f. from number place f);
      passes = (
        λ e. (λ number place wrong. refused_not_fine number place (sym ((exactly number place).1 wrong) ∙ e), tt),
        λ none. clear none.0 v refl,
      );
    }
  where
    from : (number place : ℕ) → FirstReason (r ∷ []) number place → v ≡ refused number place
    from number place (inl wrong) = (exactly number place).1 wrong
    from number place (inr (right, nothing)) = absurd nothing

    clear : NothingWrong r → (w : Verdict) → v ≡ w → v ≡ fine
    clear none fine e = e
    clear none (refused number place) e = absurd (none number place ((exactly number place).0 e))

-- with one number
pub one_for : (v : Verdict) (number : ℕ) (Wrong : ℕ → Type 0) → Only number v → ((place : ℕ) → (v ≡ refused number place) ↔ Wrong place)
    → RefusesFor (with_number number Wrong ∷ []) v
one_for v number Wrong which exactly =
    single_for v (with_number number Wrong)
    (λ m place. (λ e. to m place e which, λ (same, wrong). (exactly place).1 wrong ∙ ap (λ (n : ℕ). refused n place) (sym same)))
  where
    to : (m place : ℕ) → v ≡ refused m place → Only number v → (m ≡ number) × Wrong place
    to m place e (inl f) = absurd (refused_not_fine m place (sym e ∙ f))
    to m place e (inr (q, f)) =
        let same : m ≡ number = (let x : refused m place ≡ refused number q = sym e ∙ f in cc) in
        (same, (exactly place).0 (e ∙ ap (λ (n : ℕ). refused n place) same))

-- a test, with its one place
pub only_for : (test : Bool) (Holds : Type 0) (number place : ℕ) → (test ≡ true) ↔ Holds → RefusesFor (only number Holds place ∷ []) (refuse_if test number place)
only_for test Holds number place means =
    one_for _ number _ (refuse_if_only test number place)
    (λ p. (
      λ e. let (holds, same) = refuse_if_told test number place number p e in (means.0 holds, sym same),
      λ (holds, same). refuse_if_refused test number place (means.1 holds) ∙ ap (refused number) (sym same),
    ))

-- a search: "lowest place"
pub lowest_for : (number : ℕ) (bad : ℕ → Bool) (n : ℕ) → RefusesFor (lowest number bad n ∷ []) (refuse_first number bad n)
unfolding refuse_first
lowest_for number bad n =
    one_for _ number _ (refuse_if_only (ltb (first bad n) n) number (first bad n))
    (λ place. (
      λ e.
          let (test, same) = refuse_if_told (ltb (first bad n) n) number (first bad n) number place e in
          let found : first bad n < n = ltb-true (first bad n) n test in
          subst (LowestPlace bad n) same (record { inside = found; is_bad = first_hit bad n found; none_before = λ j l. first_before bad n j l }),
      λ p. refuse_first_at number bad n place (sym (first_at bad n place p.inside p.none_before p.is_bad)) p.inside,
    ))

-- entries with reasons of their own: the first reason of the lowest
each_for : (verdict : ℕ → Verdict) (reasons : ℕ → List Reason) (n : ℕ) → ((k : ℕ) → RefusesFor (reasons k) (verdict k))
    → RefusesFor (LowestEntry reasons n ∷ []) (refuse_lowest verdict n)
each_for verdict reasons n for =
    single_for _ _
    (λ number place. (
      λ e.
          let l = refuse_lowest_told verdict n number place e in
          record {
            entry = l.entry;
            inside = l.inside;
            its_first = ((for l.entry).refuses number place).0 l.is_refused;
            none_before = λ j h. (for j).passes.0 (l.none_before j h);
          },
      λ l.
          refuse_lowest_at verdict n l.entry number place l.inside (λ j h. (for j).passes.1 (l.none_before j h))
          (((for l.entry).refuses number place).1 l.its_first),
    ))

-- The operations

pub less : (m n : ℕ) → (ltb m n ≡ true) ↔ (m < n)
less m n = (ltb-true m n, lt-ltb m n)

pub unequal : (m n : ℕ) → (not (eqb m n) ≡ true) ↔ (m ≡ n → ⊥)
unequal m n = (λ t e. true≢false (sym t ∙ ap not (eq-eqb m n e)), λ differ. ap not (ne_eqb m n differ))

fails : (test : Bool) → (test ≡ true → ⊥) → test ≡ false
fails true never = absurd (never refl)
fails false never = refl

same_test : (test : Bool) → (test ≡ true) ↔ (test ≡ true)
same_test test = (λ e. e, λ e. e)

-- "11 is given exactly if the first 1,023 numbers hold neither a fault nor the end of the tree and more follow"; 12, ..
pub leading_refusals : (S : ℕ) (numbers : List ℕ) → 1 ≤ S → RefusesFor (leading_reasons S numbers) (leading_verdict S numbers)
unfolding leading_verdict
leading_refusals S numbers some =
    then_for _ _ _ _ (only_for _ (Endless S numbers) 11 (length numbers) (endless_means S numbers some))
    (λ stops.
    one_for _ 12 _ (fault_only S numbers some)
    (fault_exactly S numbers some
    (λ e. true≢false (sym ((endless_means S numbers some).1 e) ∙ refuse_if_fine _ 11 (length numbers) stops))))

-- "30 tag, 31 name, 32 child, 33 a reference not below the node, 34 unused field filled"
pub node_refusals : (S : ℕ) (counts : List ℕ) (k : ℕ) (n : Node) → RefusesFor (node_reasons S counts k n) (node_fault S counts k n)
unfolding node_fault
node_refusals S counts k n =
    then_for _ _ _ _ (only_for _ _ 30 k (same_test (tag_wrong n))) λ e₁.
    then_for _ _ _ _ (only_for _ _ 31 k (same_test (name_wrong S counts n))) λ e₂.
    then_for _ _ _ _ (only_for _ _ 32 k (same_test (child_wrong n))) λ e₃.
    then_for _ _ _ _ (only_for _ _ 33 k (same_test (reference_wrong counts k n))) λ e₄.
    only_for _ _ 34 k (same_test (unused_filled counts n))

module _ (C : Contract) where
  -- "Refusals, first that applies, lowest place: 1, ..": admission's eight
  pub admission_refusals : RefusesFor (admission_reasons C) (admission C)
  unfolding admission sizes lengths input_rows entries counts nodes lowest_node_fault rules facts
  admission_refusals =
      then_for (sizes C) _ _ _ (lowest_for 1 _ 4) λ e₁.
      then_for (lengths C) _ _ _ (lowest_for 2 _ 6) λ e₂.
      then_for (input_rows C) _ _ _ (lowest_for 3 _ _) λ e₃.
      then_for (entries C) _ _ _ (lowest_for 4 _ _) λ e₄.
      then_for (counts C) _ _ _ (lowest_for 5 _ _) λ e₅.
      then_for (nodes C) _ _ _ (each_for _ _ _ (λ k. node_refusals _ _ k _)) λ e₆.
      then_for (rules C) _ _ _ (lowest_for 7 _ _) λ e₇.
      only_for _ _ 8 _ (less most_facts _)

  -- the document of an admitted contract
  document_of : (numbers : List ℕ) → admission C ≡ fine
      → RefusesFor (leading_reasons C.transformation.symbols numbers) (leading_verdict C.transformation.symbols numbers)
  document_of numbers good = leading_refusals C.transformation.symbols numbers (established C good).symbols.least≤

  pub judging_refusals : (numbers buffer : List ℕ) → RefusesFor (judging_reasons C numbers buffer) (judging_verdict C numbers buffer)
  unfolding judging_verdict
  judging_refusals numbers buffer =
      then_for (admission C) _ (admission_reasons C) _ admission_refusals λ good.
      then_for _ _ _ _ (only_for _ (length buffer ≡ 5 → ⊥) 9 0 (unequal (length buffer) 5)) λ five.
      document_of numbers good

  pub checking_refusals : (L : ℕ) (row_buffer word_buffer : List ℕ)
      → RefusesFor (checking_reasons C L row_buffer word_buffer) (checking_verdict C L row_buffer word_buffer)
  unfolding checking_verdict
  checking_refusals L row_buffer word_buffer = then_for (admission C) _ (admission_reasons C) _ admission_refusals λ good. lowest_for 9 _ 3

  pub running_refusals : (numbers buffer : List ℕ) → RefusesFor (running_reasons C numbers buffer) (running_verdict C numbers buffer)
  unfolding running_verdict
  running_refusals numbers buffer =
      then_for (admission C) _ (admission_reasons C) _ admission_refusals λ good.
      then_for _ _ _ _ (only_for _ _ 9 0 (same_test (rows_wrong (length buffer)))) λ rows.
      document_of numbers good

pub writing_refusals : (rows : List ℕ) (row : ℕ) (buffer : List ℕ) → RefusesFor (writing_reasons rows row buffer) (writing_verdict rows row buffer)
unfolding writing_verdict
writing_refusals rows row buffer =
    then_for _ _ _ _ (only_for _ _ 16 0 (same_test (rows_wrong (length rows)))) λ e₁.
    then_for _ _ _ _ (lowest_for 17 _ (row_count rows)) λ e₂.
    then_for _ _ _ _ (only_for _ _ 18 row (leb-true (row_count rows) row, le-leb (row_count rows) row)) λ e₃.
    only_for _ _ 19 (length buffer) (less (length buffer) (length (preorder (tree_at rows row))))

-- The numbers of these refusals: none is one that comes of the work itself

-- and none is 10, the number of a stop alone
abbrev OtherThanTen : ℕ → Type 0
OtherThanTen number = number ≡ 10 → ⊥

pub admission-not-ten : (C : Contract) → Numbers OtherThanTen (admission C)
admission-not-ten C number place e ten = not_late number (admission_numbers C number place e) (omega arith) (omega arith)

pub checking-not-ten : (C : Contract) (L : ℕ) (row_buffer word_buffer : List ℕ) → Numbers OtherThanTen (checking_verdict C L row_buffer word_buffer)
unfolding checking_verdict
checking-not-ten C L row_buffer word_buffer = then_numbers _ _ _ (admission-not-ten C) (refuse_first_numbers _ 9 _ 3 (λ ten. omega arith))

-- of a document: 11 and 12
pub document_numbers : (P : ℕ → Type 0) (S : ℕ) (numbers : List ℕ) → P 11 → P 12 → Numbers P (leading_verdict S numbers)
unfolding leading_verdict fault_of
document_numbers P S numbers eleven twelve = then_numbers P _ _ (refuse_if_numbers P _ 11 _ eleven) (fault (reading S numbers))
  where
    fault : (l : Leading) → Numbers P (fault_of l)
    fault (ends place) = λ number at e. absurd (refused_not_fine number at (sym e))
    fault (faulty place) = refused_numbers P 12 place twelve

pub judging-not-ten : (C : Contract) (numbers buffer : List ℕ) → Numbers OtherThanTen (judging_verdict C numbers buffer)
unfolding judging_verdict
judging-not-ten C numbers buffer =
    then_numbers _ _ _ (admission-not-ten C)
    (then_numbers _ _ _ (refuse_if_numbers _ _ 9 0 (λ ten. omega arith))
    (document_numbers _ _ numbers (λ ten. omega arith) (λ ten. omega arith)))

pub running-not-ten : (C : Contract) (numbers buffer : List ℕ) → Numbers OtherThanTen (running_verdict C numbers buffer)
unfolding running_verdict
running-not-ten C numbers buffer =
    then_numbers _ _ _ (admission-not-ten C)
    (then_numbers _ _ _ (refuse_if_numbers _ _ 9 0 (λ ten. omega arith))
    (document_numbers _ _ numbers (λ ten. omega arith) (λ ten. omega arith)))

pub writing-not-ten : (rows : List ℕ) (row : ℕ) (buffer : List ℕ) → Numbers OtherThanTen (writing_verdict rows row buffer)
unfolding writing_verdict
writing-not-ten rows row buffer =
    then_numbers _ _ _ (refuse_if_numbers _ _ 16 0 (λ ten. omega arith))
    (then_numbers _ _ _ (refuse_first_numbers _ 17 _ (row_count rows) (λ ten. omega arith))
    (then_numbers _ _ _ (refuse_if_numbers _ _ 18 row (λ ten. omega arith)) (refuse_if_numbers _ _ 19 (length buffer) (λ ten. omega arith))))

pub running_numbers : (C : Contract) (numbers buffer : List ℕ) → Numbers NotOfRun (running_verdict C numbers buffer)
unfolding running_verdict
running_numbers C numbers buffer =
    then_numbers _ _ _ (λ number place e l m. not_late number (admission_numbers C number place e) (omega arith) m)
    (then_numbers _ _ _ (refuse_if_numbers _ _ 9 0 (λ l m. omega arith))
    (document_numbers _ _ numbers (λ l m. omega arith) (λ l m. omega arith)))

-- What is read of numbers

module _ (S : ℕ) (numbers : List ℕ) where
  -- the document that they begin with
  pub fine_document : leading_verdict S numbers ≡ fine → LeadingDocument S numbers (leading_tree S numbers) (numbers_taken S numbers)
  unfolding leading_tree
  fine_document e =
      let l = leading_fine S numbers e in
      let n : ℕ = numbers_taken S numbers in
      record {
        begins = record {
          over = l.document.over;
          rest = drop n numbers;
          in_preorder = sym (take-append-drop n numbers) ∙ ap (λ (xs : List ℕ). xs ++ drop n numbers) (sym l.document.numbers);
          took = omega (arith, ap length l.document.numbers, length-take n numbers, l.within);
        };
        few = omega (arith, l.document.few, length-take n numbers, l.within);
      }

  module _ (some : 1 ≤ S) where
    document_reads : (t : Tree) (n : ℕ) → LeadingDocument S numbers t n → reading S numbers ≡ ends n
    document_reads t n d =
        ap (reading S) d.begins.in_preorder
        ∙ reading_followed S t d.begins.rest some d.begins.over (omega (arith, d.begins.took, d.few))
        ∙ ap ends (sym d.begins.took)

    pub reads_leading : ReadsLeading S numbers
    reads_leading =
        record {
          refuses = leading_refusals S numbers some;
          passes = (
            λ e. (leading_tree S numbers, numbers_taken S numbers, fine_document e),
            λ (t, n, d). ends_fine S n numbers (document_reads t n d),
          );
          tree = λ t n d.
              ap (leading_tree S) d.begins.in_preorder
              ∙ leading_tree_followed S t d.begins.rest some d.begins.over (omega (arith, d.begins.took, d.few));
          taken = λ t n d. ends_taken S n numbers (document_reads t n d);
        }

    -- numbers after the tree, as a test
    followed : leading_verdict S numbers ≡ fine
        → (place : ℕ) → (refuse_if (ltb (numbers_taken S numbers) (length numbers)) 12 (numbers_taken S numbers) ≡ refused 12 place)
        ↔ (((t : Tree) × LeadingDocument S numbers t place) × (place < length numbers))
    followed e place = (
      λ told.
          let (test, same) = refuse_if_told _ 12 _ 12 place told in
          let more : numbers_taken S numbers < length numbers = ltb-true (numbers_taken S numbers) (length numbers) test in (
            (leading_tree S numbers, subst (LeadingDocument S numbers (leading_tree S numbers)) same (fine_document e)),
            omega arith,
          ),
      λ ((t, d), more).
          let same : numbers_taken S numbers ≡ place = reads_leading.taken t place d in
          refuse_if_refused _ 12 _ (lt-ltb (numbers_taken S numbers) (length numbers) (omega arith)) ∙ ap (refused 12) same,
    )

    -- a document and nothing else
    not_endless : refuse_if (ltb most_numbers (length numbers)) 11 (length numbers) ≡ fine → Endless S numbers → ⊥
    not_endless few e = omega (arith, e.1, ltb-false most_numbers (length numbers) (refuse_if_fine _ 11 _ few))

    -- of few numbers, what is refused of the leading tree is its fault
    few_verdict : refuse_if (ltb most_numbers (length numbers)) 11 (length numbers) ≡ fine → leading_verdict S numbers ≡ fault_of (reading S numbers)
    unfolding leading_verdict
    few_verdict few = then_passed _ _ (refuse_if_passed _ 11 _ (fails _ (λ e. not_endless few ((endless_means S numbers some).0 e))))

    whole_read : numbers_taken S numbers ≡ length numbers → document_tree numbers ≡ leading_tree S numbers
    unfolding leading_tree
    whole_read e = ap document_tree (sym (ap (λ (n : ℕ). take n numbers) e ∙ take-length numbers))

    pub reads_whole : ReadsWhole S numbers
    unfolding whole_verdict
    reads_whole =
        record {
          refuses =
              then_for _ _ _ _ (only_for _ (most_numbers < length numbers) 11 (length numbers) (less most_numbers (length numbers))) λ few.
              then_for _ _ (with_number 12 (Fault S numbers) ∷ []) _ (one_for _ 12 _ (fault_only S numbers some) (fault_exactly S numbers some (not_endless few))) λ e.
              one_for _ 12 _ (refuse_if_only _ 12 _) (followed (few_verdict few ∙ e));
          passes = (
            λ e.
                let (few, rest) = then_fine _ _ e in
                let (clear, all) = then_fine _ _ rest in
                let read = few_verdict few ∙ clear in
                let none = ltb-false (numbers_taken S numbers) (length numbers) (refuse_if_fine _ 12 _ all) in
                let same : numbers_taken S numbers ≡ length numbers = omega (arith, none, (leading_fine S numbers read).within) in
                (leading_tree S numbers, subst (LeadingDocument S numbers (leading_tree S numbers)) same (fine_document read)),
            λ (t, d).
                let few = refuse_if_passed _ 11 _ (le-ltb most_numbers (length numbers) d.few) in
                then_passed _ _ few
                ∙ then_passed _ _ (sym (few_verdict few) ∙ reads_leading.passes.1 (t, length numbers, d))
                ∙ refuse_if_passed _ 12 _ (le-ltb (numbers_taken S numbers) (length numbers) (omega (arith, reads_leading.taken t (length numbers) d))),
          );
          tree = λ t d. whole_read (reads_leading.taken t (length numbers) d) ∙ reads_leading.tree t (length numbers) d;
          in_preorder = λ t d.
              let all = ap₂ (λ (n : ℕ) (xs : List ℕ). take n xs) d.begins.took d.begins.in_preorder in
              sym (take-length numbers) ∙ all ∙ take-append_seam (preorder t) d.begins.rest;
        }
