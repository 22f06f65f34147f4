-- What comparing two examples means: it refuses for the reasons that W-207 lists, and hands back the shorter of the two leading trees.
use mathlib.Core.Path.{◌≡◌, refl, ap, sym, subst, ◌∙◌}
use mathlib.Core.Bool.{Bool, true, false, true≢false}
use mathlib.Core.List.{List, [], ◌∷◌}
use mathlib.Core.Logic.{◌↔◌, inl, inr}
use Prim.Native.Nat.{ℕ, ◌≤◌}
use native.Mathlib.Omega.{arith}
use lib.Dec.{eqb}
use lib.ListN.{take}
use Rattle.foundation.specs.Tests.{choose}
use Rattle.model.specs.Trees.{preorder}
use Rattle.model.specs.Answers.{Verdict, fine, refused}
use Rattle.model.specs.Admission.{outside}
use Rattle.model.specs.Documents.{numbers_taken, leading_tree, leading_verdict}
use Rattle.model.specs.Refusals.{Reason, NoReason, FirstReason, RefusesFor, with_number, leading_reasons, HasDocument}
use Rattle.model.specs.Shorter.{second_number, of_second, shorter_verdict, shorter, SymbolsInRange, shorter_reasons, ShorterTree, Compares}
use Rattle.model.proofs.Laws.Answers.{refused_not_fine, refuse_if_fine, Numbers, then_numbers, refused_numbers, refuse_if_numbers}
use Rattle.model.proofs.Laws.Tests.{inside, not_outside}
use Rattle.model.proofs.Laws.Documents.{some_number, leading_fine}
use Rattle.model.proofs.Laws.Shorter.{second_endless, second_faulty, second-fine, fewer_has, second_verdict, nothing_refused, shorter_refused, shorter_fine}
use Rattle.model.proofs.Meaning.Verdicts.{then_for, only_for, leading_refusals, document_numbers, fine_document, reads_leading}

-- "the same for the second as 54 and 55": what is refused as 11 and 12 is refused as 54 and 55, for the same reasons
module _ (A B : ℕ → Type 0) where
  abbrev as_first : List Reason
  as_first = with_number 11 A ∷ with_number 12 B ∷ []

  abbrev as_second : List Reason
  as_second = with_number 54 A ∷ with_number 55 B ∷ []

  none_told : NoReason as_first ↔ NoReason as_second
  none_told = (
    λ (a, (b, _)). (λ number place w. a 11 place (refl, w.1), (λ number place w. b 12 place (refl, w.1), tt)),
    λ (a, (b, _)). (λ number place w. a 54 place (refl, w.1), (λ number place w. b 55 place (refl, w.1), tt)),
  )

  first_renumbered : (number place : ℕ) → FirstReason as_first number place → FirstReason as_second (second_number number) place
  first_renumbered number place (inl (same, wrong)) = inl (ap second_number same, wrong)
  first_renumbered number place (inr (right, inl (same, wrong))) = inr (λ n p w. right 11 p (refl, w.1), inl (ap second_number same, wrong))
  first_renumbered number place (inr (right, inr (_, never))) = absurd never

  module _ (v : Verdict) (for : RefusesFor as_first v) where
    first_told : (number place : ℕ) → FirstReason as_second number place → of_second v ≡ refused number place
    first_told number place (inl (same, wrong)) =
        ap of_second ((for.refuses 11 place).1 (inl (refl, wrong))) ∙ second_endless place ∙ ap (λ (n : ℕ). refused n place) (sym same)
    first_told number place (inr (right, inl (same, wrong))) =
        ap of_second ((for.refuses 12 place).1 (inr (λ n p w. right 54 p (refl, w.1), inl (refl, wrong))))
        ∙ second_faulty place
        ∙ ap (λ (n : ℕ). refused n place) (sym same)
    first_told number place (inr (right, inr (_, never))) = absurd never

    told_first : (w : Verdict) → v ≡ w → (number place : ℕ) → of_second w ≡ refused number place → FirstReason as_second number place
    unfolding of_second
    told_first fine e number place f = absurd (refused_not_fine number place (sym f))
    told_first (refused m q) e number place f =
        let same : second_number m ≡ number = cc in
        let there : q ≡ place = cc in
        subst (λ (n : ℕ). FirstReason as_second n place) same
        (subst (FirstReason as_second (second_number m)) there (first_renumbered m q ((for.refuses m q).0 e)))

    second_for : RefusesFor as_second (of_second v)
    second_for =
        record {
          refuses = λ number place. (told_first v refl number place, first_told number place);
          passes = (λ e. none_told.0 (for.passes.0 ((second-fine v).0 e)), λ none. (second-fine v).1 (for.passes.1 (none_told.1 none)));
        }

in_range : (S : ℕ) → outside 1 16 S ≡ false → SymbolsInRange S
in_range S e = let b = inside 1 16 S e in (b.least≤, b.≤most)

second_numbers : (P : ℕ → Type 0) (v : Verdict) → P 54 → P 55 → Numbers P (of_second v)
unfolding of_second
second_numbers P fine first second = λ number place e. absurd (refused_not_fine number place (sym e))
second_numbers P (refused m q) first second = refused_numbers P _ q (either (eqb m 11))
  where
    either : (test : Bool) → P (choose test 54 55)
    either true = first
    either false = second

-- "a symbol count out of range"
range : (S : ℕ) → (outside 1 16 S ≡ true) ↔ (SymbolsInRange S → ⊥)
range S = (
  λ e within. true≢false (sym e ∙ not_outside 1 16 S within.0 within.1),
  λ never. go never (outside 1 16 S) refl,
)
  where
    go : (SymbolsInRange S → ⊥) → (test : Bool) → outside 1 16 S ≡ test → outside 1 16 S ≡ true
    go never true e = e
    go never false e = absurd (never (in_range S e))

-- the numbers taken are the tree's
tree_numbers : (S : ℕ) (numbers : List ℕ) → leading_verdict S numbers ≡ fine → take (numbers_taken S numbers) numbers ≡ preorder (leading_tree S numbers)
unfolding leading_tree
tree_numbers S numbers e = sym (leading_fine S numbers e).document.numbers

module _ (S : ℕ) (xs ys : List ℕ) where
  refuses_for : RefusesFor (shorter_reasons S xs ys) (shorter_verdict S xs ys)
  unfolding shorter_verdict
  refuses_for =
      then_for _ _ _ _ (only_for _ (SymbolsInRange S → ⊥) 1 0 (range S)) λ e.
      let some : 1 ≤ S = (in_range S (refuse_if_fine _ 1 0 e)).0 in
      then_for _ _ (leading_reasons S xs) _ (leading_refusals S xs some) λ one.
      second_for _ _ (leading_verdict S ys) (leading_refusals S ys some)

  both_good : shorter_verdict S xs ys ≡ fine → SymbolsInRange S × HasDocument S xs × HasDocument S ys
  both_good e =
      let c = nothing_refused S xs ys e in
      let some : 1 ≤ S = (in_range S c.symbols).0 in
      (in_range S c.symbols, (reads_leading S xs some).passes.0 c.first_fine, (reads_leading S ys some).passes.0 c.second_fine)

  good_both : SymbolsInRange S × HasDocument S xs × HasDocument S ys → shorter_verdict S xs ys ≡ fine
  good_both (within, one, two) =
      second_verdict S xs ys (not_outside 1 16 S within.0 within.1) ((reads_leading S xs within.0).passes.1 one)
      ∙ (second-fine _).1 ((reads_leading S ys within.0).passes.1 two)

  shorter_tree : shorter_verdict S xs ys ≡ fine → ShorterTree S xs ys (shorter S xs ys)
  shorter_tree e =
      let c = nothing_refused S xs ys e in
      let some : 1 ≤ S = (in_range S c.symbols).0 in
      subst (ShorterTree S xs ys) (sym (shorter_fine S xs ys e))
      (fewer_has (ShorterTree S xs ys) (numbers_taken S xs) (numbers_taken S ys)
      (λ few.
      record {
        tree = leading_tree S xs;
        leads = fine_document S xs c.first_fine;
        in_preorder = tree_numbers S xs c.first_fine;
        not_longer = λ u m d. omega (arith, few, (reads_leading S ys some).taken u m d);
        on_tie = λ u m d tie. refl;
      })
      (λ few.
      record {
        tree = leading_tree S ys;
        leads = fine_document S ys c.second_fine;
        in_preorder = tree_numbers S ys c.second_fine;
        not_longer = λ u m d. omega (arith, few, (reads_leading S xs some).taken u m d);
        on_tie = λ u m d tie. absurd (omega (arith, few, tie, (reads_leading S xs some).taken u m d));
      }))

  -- no refusal has the number 0
  pub refused_number : (number place : ℕ) → shorter_verdict S xs ys ≡ refused number place → 1 ≤ number
  unfolding shorter_verdict
  refused_number =
      then_numbers Some _ _ (refuse_if_numbers Some _ 1 0 (omega arith))
      (then_numbers Some _ _ (document_numbers Some S xs (omega arith) (omega arith)) (second_numbers Some (leading_verdict S ys) (omega arith) (omega arith)))
    where
      Some : ℕ → Type 0
      Some number = 1 ≤ number

  pub compares : Compares S xs ys
  compares =
      record {
        refuses = refuses_for;
        passes = (both_good, good_both);
        hands = shorter_tree;
        hands_some = λ e.
            let t = shorter_tree e in
            omega (arith, t.leads.begins.took, some_number t.tree);
        hands_nothing = shorter_refused S xs ys;
      }
