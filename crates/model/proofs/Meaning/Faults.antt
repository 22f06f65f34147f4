-- Refusals 11 and 12: where the leading tree ends, where a fault is, and where neither is among "the first 1,023 numbers".
use mathlib.Core.Path.{◌≡◌, refl, ap, sym, subst, ◌∙◌}
use mathlib.Core.Bool.{Bool, true, false, true≢false}
use mathlib.Core.List.{List, [], ◌∷◌, ◌++◌, append_assoc}
use mathlib.Core.Logic.{◌↔◌, inl, inr}
use Prim.Native.Nat.{ℕ, zero, suc, ◌+◌, ◌-◌, ◌≤◌, ◌<◌}
use native.Mathlib.Nat.{not-suc-le-zero}
use native.Mathlib.Omega.{arith}
use native.Mathlib.Decide.{dec_lt}
use borrow.Author.Tests.{leb-true, leb-false, ltb-true, lt-ltb, eqb-true}
use lib.Dec.{leb, eqb, ltb}
use lib.ListN.{length, get_or, take, drop, length-take, take-append-drop}
use lib.Seq.{get_or-take, take-append-add}
use Rattle.model.specs.Trees.{Tree, preorder}
use Rattle.model.specs.Documents.{most_numbers, Leading, ends, faulty, leading_from, leading, tree_of, reading, endless, fault_of}
use Rattle.model.specs.Answers.{Verdict, fine, refused}
use Rattle.model.specs.Refusals.{BeginsWith, EndsWithin, GoesOn, Fault, not_below, cut_short, Endless}
use Rattle.model.proofs.Laws.Answers.{refused_not_fine, Only}
use Rattle.model.proofs.Laws.Rules.{both_true}
use Rattle.model.proofs.Laws.Documents.{faulty_not_ends, due_after, leading_done, leading_short, leading_fault, leading_step, leading-tree, leading_ends, leading_reads}

-- Where reading comes to a fault

module _ (S : ℕ) where
  -- reading from the place `at` on: the numbers before the fault are symbols, and at the fault is none
  record FaultAfter (at n : ℕ) (xs : List ℕ) : Type 0 where
    read : ℕ
    place : n ≡ at + read
    within : read ≤ length xs
    before : (j : ℕ) → j < read → get_or xs j 0 < S
    fault : read < length xs → S ≤ get_or xs read 0

  fault_here : (at n : ℕ) (xs : List ℕ) → faulty at ≡ faulty n → (0 < length xs → S ≤ get_or xs 0 0) → FaultAfter at n xs
  fault_here at n xs e h =
      let same : at ≡ n = cc in
      record { read = 0; place = omega arith; within = omega arith; before = λ j l. absurd (not-suc-le-zero l); fault = h }

  fault_later : (at n x : ℕ) (xs : List ℕ) → x < S → FaultAfter (suc at) n xs → FaultAfter at n (x ∷ xs)
  fault_later at n x xs h f =
      record {
        read = suc f.read;
        place = omega (arith, f.place);
        within = omega (arith, f.within);
        before = symbols;
        fault = λ l. f.fault (omega arith);
      }
    where
      symbols : (j : ℕ) → j < suc f.read → get_or (x ∷ xs) j 0 < S
      symbols zero l = h
      symbols (suc j) l = f.before j (omega arith)

  fault_after : (xs : List ℕ) (due at n : ℕ) → leading_from S due at xs ≡ faulty n → FaultAfter at n xs
  fault_after [] zero at n e = absurd (faulty_not_ends n at (sym e ∙ leading_done S at []))
  fault_after [] (suc due) at n e =
      fault_here at n [] (sym (leading_short S at (suc due) (omega arith)) ∙ e) (λ l. absurd (not-suc-le-zero l))
  fault_after (x ∷ xs) zero at n e = absurd (faulty_not_ends n at (sym e ∙ leading_done S at (x ∷ xs)))
  fault_after (x ∷ xs) (suc due) at n e = go (λ f. fault_after xs (due_after (suc due) x) (suc at) n f) (leb S x) refl
    where
      go : (leading_from S (due_after (suc due) x) (suc at) xs ≡ faulty n → FaultAfter (suc at) n xs) → (b : Bool) → leb S x ≡ b → FaultAfter at n (x ∷ xs)
      go rest true t =
          let high : S ≤ x = leb-true S x t in
          fault_here at n (x ∷ xs) (sym (leading_fault S at (suc due) (omega arith) x xs high) ∙ e) (λ l. high)
      go rest false t =
          let h : x < S = leb-false S x t in
          fault_later at n x xs h (rest (sym (leading_step S at (suc due) (omega arith) x xs h) ∙ e))

-- How numbers begin, as a statement

module _ (S : ℕ) (some : 1 ≤ S) where
  -- a tree with whose numbers they begin is the leading one
  begins_leads : (xs : List ℕ) (t : Tree) (n : ℕ) → BeginsWith S xs t n → leading S xs ≡ ends n
  begins_leads xs t n b =
      ap (leading S) b.in_preorder ∙ leading-tree S t b.rest some b.over ∙ ap ends (sym b.took)

  leads_begins : (xs : List ℕ) (n : ℕ) → leading S xs ≡ ends n → BeginsWith S xs (tree_of n xs) n
  leads_begins xs n e =
      let l = leading_ends S n xs e in
      record {
        over = l.over;
        rest = drop n xs;
        in_preorder = sym (take-append-drop n xs) ∙ ap (λ (ys : List ℕ). ys ++ drop n xs) (sym l.numbers);
        took = omega (arith, ap length l.numbers, length-take n xs, l.within);
      }

  fault_unended : (xs : List ℕ) (n : ℕ) → leading S xs ≡ faulty n → (k : ℕ) → EndsWithin S xs k → ⊥
  fault_unended xs n e k ended = faulty_not_ends n ended.taken (sym e ∙ begins_leads xs ended.tree ended.taken ended.begins)

  faulty_fault : (xs : List ℕ) (n : ℕ) → leading S xs ≡ faulty n → Fault S xs n
  unfolding leading
  faulty_fault xs n e = go (dec_lt n (length xs))
    where
      after : FaultAfter S 0 n xs
      after = fault_after S xs 1 0 n e

      before : GoesOn S xs n
      before = record { symbols = λ j l. after.before j (omega (arith, after.place)); not_ended = fault_unended xs n e n }

      go : Dec (n < length xs) → Fault S xs n
      go (yes l) =
          let same : after.read ≡ n = omega (arith, after.place) in
          not_below before l (subst (λ (k : ℕ). S ≤ get_or xs k 0) same (after.fault (omega arith)))
      go (no l) = cut_short before (omega (arith, after.place, after.within))

  -- before a fault they go on, and at it stands no symbol
  fault_goes_on : (xs : List ℕ) (n : ℕ) → Fault S xs n → GoesOn S xs n
  fault_goes_on xs n (not_below g l h) = g
  fault_goes_on xs n (cut_short g e) = g

  fault_no_symbol : (xs : List ℕ) (n : ℕ) → Fault S xs n → (n ≤ length xs) × (n < length xs → S ≤ get_or xs n 0)
  fault_no_symbol xs n (not_below g l h) = (omega arith, λ m. h)
  fault_no_symbol xs n (cut_short g e) = (omega arith, λ m. absurd (omega arith))

  -- so there is one such place, and none where a tree leads
  fault_least : (xs : List ℕ) (m n : ℕ) → Fault S xs m → Fault S xs n → m < n → ⊥
  fault_least xs m n at later l =
      omega (
        arith,
        (fault_goes_on xs n later).symbols m l,
        (fault_no_symbol xs m at).1 (omega (arith, (fault_no_symbol xs n later).0)),
      )

  fault_no_tree : (xs : List ℕ) (m n : ℕ) → leading S xs ≡ ends m → Fault S xs n → ⊥
  fault_no_tree xs m n e fault = go (dec_lt n m)
    where
      go : Dec (n < m) → ⊥
      go (no l) =
          (fault_goes_on xs n fault).not_ended (record { tree = tree_of m xs; taken = m; begins = leads_begins xs m e; within = omega arith })
      go (yes l) =
          let (within, reads) = leading_reads S m xs e in
          let symbol : get_or xs n 0 < S = rw (get_or-take m xs n 0 l) at (reads.below n (omega (arith, length-take m xs))) in
          omega (arith, (fault_no_symbol xs n fault).1 (omega arith))

  fault_faulty : (xs : List ℕ) (n : ℕ) → Fault S xs n → leading S xs ≡ faulty n
  fault_faulty xs n fault = go (leading S xs) refl
    where
      go : (l : Leading) → leading S xs ≡ l → leading S xs ≡ faulty n
      go (ends m) e = absurd (fault_no_tree xs m n e fault)
      go (faulty m) e = one (dec_lt m n) (dec_lt n m)
        where
          one : Dec (m < n) → Dec (n < m) → leading S xs ≡ faulty n
          one (yes h) k = absurd (fault_least xs m n (faulty_fault xs m e) fault h)
          one (no h) (yes k) = absurd (fault_least xs n m fault (faulty_fault xs m e) k)
          one (no h) (no k) = e ∙ ap faulty (omega arith)

-- The first m numbers, and all of them

module _ (S : ℕ) (xs : List ℕ) (m : ℕ) where
  begins_further : (t : Tree) (n : ℕ) → BeginsWith S (take m xs) t n → BeginsWith S xs t n
  begins_further t n b =
      record {
        over = b.over;
        rest = b.rest ++ drop m xs;
        in_preorder = sym (take-append-drop m xs) ∙ ap (λ (ys : List ℕ). ys ++ drop m xs) b.in_preorder ∙ append_assoc (preorder t) b.rest (drop m xs);
        took = b.took;
      }

  begins_already : (t : Tree) (n : ℕ) → n ≤ m → BeginsWith S xs t n → BeginsWith S (take m xs) t n
  begins_already t n h b =
      let room : ℕ = m - length (preorder t) in
      let all : length (preorder t) + room ≡ m = omega (arith, b.took) in
      record {
        over = b.over;
        rest = take room b.rest;
        in_preorder = ap (take m) b.in_preorder ∙ ap (λ (k : ℕ). take k (preorder t ++ b.rest)) (sym all) ∙ take-append-add (preorder t) b.rest room;
        took = b.took;
      }

  goes_on_further : (n : ℕ) → n ≤ m → GoesOn S (take m xs) n → GoesOn S xs n
  goes_on_further n h g =
      record {
        symbols = λ j l. rw (get_or-take m xs j 0 (omega arith)) at (g.symbols j l);
        not_ended = λ e.
            let begins = begins_already e.tree e.taken (omega (arith, e.within)) e.begins in
            g.not_ended (record { tree = e.tree; taken = e.taken; begins = begins; within = e.within });
      }

  goes_on_already : (n : ℕ) → n ≤ m → GoesOn S xs n → GoesOn S (take m xs) n
  goes_on_already n h g =
      record {
        symbols = λ j l. rw (get_or-take m xs j 0 (omega arith)) (g.symbols j l);
        not_ended = λ e. g.not_ended (record { tree = e.tree; taken = e.taken; begins = begins_further e.tree e.taken e.begins; within = e.within });
      }

goes_on_less : (S : ℕ) (xs : List ℕ) (m n : ℕ) → m ≤ n → GoesOn S xs n → GoesOn S xs m
goes_on_less S xs m n h g =
    record {
      symbols = λ j l. g.symbols j (omega arith);
      not_ended = λ e. g.not_ended (record { tree = e.tree; taken = e.taken; begins = e.begins; within = omega (arith, e.within) });
    }

-- What is refused

abbrev place_of : Verdict → ℕ
place_of fine = 0
place_of (refused number place) = place

module _ (S : ℕ) (xs : List ℕ) (some : 1 ≤ S) where
  endless_told : Endless S xs → endless (length xs) (reading S xs) ≡ true
  unfolding reading endless
  endless_told (g, more) =
      let all : most_numbers ≡ length (take most_numbers xs) = omega (arith, length-take most_numbers xs) in
      let read = fault_faulty S some (take most_numbers xs) most_numbers (cut_short (goes_on_already S xs most_numbers most_numbers (omega arith) g) all) in
      rw (read, lt-ltb most_numbers (length xs) more)

  told_endless : (l : Leading) → reading S xs ≡ l → endless (length xs) l ≡ true → Endless S xs
  unfolding reading endless
  told_endless (ends n) r e = absurd (true≢false (sym e))
  told_endless (faulty n) r e =
      let (whole, follows) = both_true (eqb n most_numbers) (ltb most_numbers (length xs)) e in
      let all : n ≡ most_numbers = eqb-true n most_numbers whole in (
        goes_on_further S xs most_numbers most_numbers (omega arith)
            (subst (GoesOn S (take most_numbers xs)) all (fault_goes_on S some (take most_numbers xs) n (faulty_fault S some (take most_numbers xs) n r))),
        ltb-true most_numbers (length xs) follows,
      )

  pub endless_means : (endless (length xs) (reading S xs) ≡ true) ↔ Endless S xs
  endless_means = (told_endless (reading S xs) refl, endless_told)

  -- a fault of the first 1,023 numbers is one of all, and conversely, unless they go on behind these
  fault_means : (Endless S xs → ⊥) → (n : ℕ) → Fault S (take most_numbers xs) n ↔ Fault S xs n
  fault_means stops n = (to, from (dec_lt n most_numbers))
    where
      few : n ≤ most_numbers → GoesOn S (take most_numbers xs) n → GoesOn S xs n
      few h = goes_on_further S xs most_numbers n h

      to : Fault S (take most_numbers xs) n → Fault S xs n
      to (not_below g l h) =
          let inside : n < most_numbers = omega (arith, length-take most_numbers xs) in
          not_below (few (omega arith) g) (omega (arith, length-take most_numbers xs)) (rw (get_or-take most_numbers xs n 0 inside) at h)
      to (cut_short g e) = go (dec_lt n (length xs))
        where
          go : Dec (n < length xs) → Fault S xs n
          go (no l) = cut_short (few (omega (arith, length-take most_numbers xs)) g) (omega (arith, length-take most_numbers xs))
          go (yes l) =
              let all : n ≡ most_numbers = omega (arith, length-take most_numbers xs) in
              absurd (stops (subst (GoesOn S xs) all (few (omega arith) g), omega arith))

      from : Dec (n < most_numbers) → Fault S xs n → Fault S (take most_numbers xs) n
      from (yes h) (not_below g l b) =
          not_below (goes_on_already S xs most_numbers n (omega arith) g) (omega (arith, length-take most_numbers xs)) (rw (get_or-take most_numbers xs n 0 h) b)
      from (yes h) (cut_short g e) = cut_short (goes_on_already S xs most_numbers n (omega arith) g) (omega (arith, length-take most_numbers xs))
      from (no h) (not_below g l b) = absurd (stops (goes_on_less S xs most_numbers n (omega arith) g, omega arith))
      from (no h) (cut_short g e) = go (dec_lt most_numbers (length xs))
        where
          go : Dec (most_numbers < length xs) → Fault S (take most_numbers xs) n
          go (yes l) = absurd (stops (goes_on_less S xs most_numbers n (omega arith) g, l))
          go (no l) = cut_short (goes_on_already S xs most_numbers n (omega arith) g) (omega (arith, length-take most_numbers xs))

  pub fault_only : Only 12 (fault_of (reading S xs))
  unfolding fault_of
  fault_only = go (reading S xs)
    where
      go : (l : Leading) → Only 12 (fault_of l)
      go (ends n) = inl refl
      go (faulty n) = inr (_, refl)

  pub fault_exactly : (Endless S xs → ⊥) → (place : ℕ) → (fault_of (reading S xs) ≡ refused 12 place) ↔ Fault S xs place
  unfolding reading fault_of
  fault_exactly stops place = (
    λ e. (fault_means stops place).0 (told (leading S (take most_numbers xs)) refl e),
    λ f. ap fault_of (fault_faulty S some (take most_numbers xs) place ((fault_means stops place).1 f)),
  )
    where
      told : (l : Leading) → leading S (take most_numbers xs) ≡ l → fault_of l ≡ refused 12 place → Fault S (take most_numbers xs) place
      told (ends n) r e = absurd (refused_not_fine 12 place (sym e))
      told (faulty n) r e = subst (Fault S (take most_numbers xs)) (ap place_of e) (faulty_fault S some (take most_numbers xs) n r)
