-- The merged contract: a tree breaks it exactly if it breaks the contract with the first type or the one with the second; so, given room, it
-- passes exactly if each alone does. It is admitted where the first is and the pairs make no more than 256 facts.
use mathlib.Core.Path.{◌≡◌, refl}
use mathlib.Core.Bool.{Bool, false}
use mathlib.Core.Logic.{◌↔◌, ◌⊎◌, inl, inr}
use Prim.Native.Nat.{ℕ, zero, suc, ◌*◌, ◌+◌, ◌<◌, ◌≤◌}
use native.Mathlib.Omega.{arith}
use native.Mathlib.Decide.{ℕ_discrete}
use borrow.Author.Tests.{le-ltb, lt-ltb, eq-eqb}
use lib.Dec.{ltb}
use lib.ListN.{length}
use Rattle.foundation.specs.Search.{first, first_none}
use Rattle.model.specs.Trees.{Tree}
use Rattle.model.specs.Tables.{Contract, OutputType, mark_at}
use Rattle.model.specs.Facts.{state_of, fact_total}
use Rattle.model.specs.Answers.{fine, refuse_first, ◌then◌}
use Rattle.model.specs.Admission.{size_wrong, length_wrong, entry_wrong, most_facts, sizes, lengths, input_rows, entries, counts, nodes, rules, facts, admission}
use Rattle.model.specs.Claims.{TypeAllows, Takes, Breaks, Admitted}
use Rattle.model.specs.Meaning.{TreeOf, NoTreeBreaks, CheckMeans, Lent, check_of, OneOfThree, is_pass, is_tree, is_stop}
use Rattle.model.specs.Merging.{IsMerged, with_output, Room, Passes, EachPasses, MergedContract}
use Rattle.model.proofs.Laws.Answers.{refuse_if_passed, refuse_first_fine, refuse_first_none}
use Rattle.model.proofs.Laws.Tests.{not_outside}
use Rattle.model.proofs.Laws.Admitted.{Parts, parts, entries_clear}
use Rattle.model.proofs.Meaning.KindCounts.{count_bounds}
use Rattle.model.proofs.Meaning.Checks.{check_meaning}

-- where the kinds number at most the limit, a check passes exactly if no tree breaks the contract
room_passes : (C : Contract) (lent : Lent) → Room C lent → Passes C lent ↔ NoTreeBreaks C
room_passes C lent room = (λ (n, e). ((means.pass_exactly n).0 e).keeps, λ keeps. go keeps means.one_of_three)
  where
    means : CheckMeans C lent
    means = check_meaning C room.is_admitted lent

    go : NoTreeBreaks C → OneOfThree lent.limit (check_of C lent).answer → Passes C lent
    go keeps (is_pass n e) = (n, e)
    go keeps (is_tree j e) = let shown = means.tree_least j e in absurd (keeps _ shown.over shown.breaking)
    go keeps (is_stop h e) =
        let more = ((means.stop_exactly h).0 e).stops.more_kinds in
        absurd (omega (arith, count_bounds C more.kinds more.are_kinds room.kinds room.counted, more.more, room.within))

module _ (C : Contract) where
  -- what is taken does not depend on the output type
  taken_also : (A B : OutputType) (t : Tree) → Takes (with_output C A) t → Takes (with_output C B) t
  taken_also A B t k = record { one_root = k.one_root; state = k.state; is_state = k.is_state; accepted = k.accepted; reached = k.reached }

  -- a tree that breaks a contract breaks one with another output type that does not allow the output either
  breaks_also : (A B : OutputType) (t : Tree) (b : Breaks (with_output C A) t) → (TypeAllows B b.output → ⊥) → Breaks (with_output C B) t
  breaks_also A B t b never =
      record { taken = taken_also A B t b.taken; output = b.output; is_output = b.is_output; not_allowed = never }

module _ (C : Contract) (Y Z M : OutputType) (both : IsMerged C.transformation.symbols Y Z M) where
  -- an output that M does not allow is one that Y or Z does not
  breaks_one : (t : Tree) → Breaks (with_output C M) t → Breaks (with_output C Y) t ⊎ Breaks (with_output C Z) t
  breaks_one t b = go (ℕ_discrete (mark_at Y.marks (state_of Y b.output)) 1)
    where
      go : Dec (TypeAllows Y b.output) → Breaks (with_output C Y) t ⊎ Breaks (with_output C Z) t
      go (yes y) = inr (breaks_also C M Z t b (λ z. b.not_allowed ((both.allows b.output).1 (y, z))))
      go (no never) = inl (breaks_also C M Y t b never)

  one_breaks : (t : Tree) → Breaks (with_output C Y) t ⊎ Breaks (with_output C Z) t → Breaks (with_output C M) t
  one_breaks t (inl b) = breaks_also C Y M t b (λ m. b.not_allowed ((both.allows b.output).0 m).0)
  one_breaks t (inr b) = breaks_also C Z M t b (λ m. b.not_allowed ((both.allows b.output).0 m).1)

  merged_keeps : NoTreeBreaks (with_output C M) ↔ (NoTreeBreaks (with_output C Y) × NoTreeBreaks (with_output C Z))
  merged_keeps = (
    λ keeps. (λ t over b. keeps t over (one_breaks t (inl b)), λ t over b. keeps t over (one_breaks t (inr b))),
    λ (y, z) t over b. neither t over y z (breaks_one t b),
  )
    where
      neither : (t : Tree) → TreeOf C t → NoTreeBreaks (with_output C Y) → NoTreeBreaks (with_output C Z)
          → Breaks (with_output C Y) t ⊎ Breaks (with_output C Z) t
          → ⊥
      neither t over y z (inl b) = y t over b
      neither t over y z (inr b) = z t over b

  module _ (first second third : Lent) (one : Room (with_output C Y) first) (two : Room (with_output C Z) second) (three : Room (with_output C M) third) where
    each_passes : EachPasses C Y Z first second → Passes (with_output C M) third
    each_passes (y, z) =
        (room_passes (with_output C M) third three).1
        (merged_keeps.1 ((room_passes (with_output C Y) first one).0 y, (room_passes (with_output C Z) second two).0 z))

    passes_each : Passes (with_output C M) third → EachPasses C Y Z first second
    passes_each m =
        let (y, z) = merged_keeps.0 ((room_passes (with_output C M) third three).0 m) in
        ((room_passes (with_output C Y) first one).1 y, (room_passes (with_output C Z) second two).1 z)

  -- admission of the merged contract, part by part: what does not depend on the output type is as with Y
  module _ (good : Admitted (with_output C Y)) (few : fact_total (Y.states * Z.states) C.transformation.counts ≤ most_facts) where
    abbrev S : ℕ
    S = C.transformation.symbols

    p : Parts (with_output C Y)
    p = parts (with_output C Y) good

    passed : (number : ℕ) (bad : ℕ → Bool) (n : ℕ) → ((k : ℕ) → k < n → bad k ≡ false) → refuse_first number bad n ≡ fine
    passed number bad n clear = refuse_first_none number bad n (first bad n) refl (omega (arith, first_none bad n clear))

    sizes-fine : sizes (with_output C M) ≡ fine
    unfolding sizes
    sizes-fine = passed 1 _ 4 clear
      where
        old : (k : ℕ) → k < 4 → size_wrong S C.input.states Y.states (length C.transformation.counts) k ≡ false
        old k h = refuse_first_fine 1 _ 4 p.sizes_fine k h

        clear : (k : ℕ) → k < 4 → size_wrong S C.input.states M.states (length C.transformation.counts) k ≡ false
        clear zero h = old 0 h
        clear (suc zero) h = old 1 h
        clear (suc (suc zero)) h = not_outside 1 4 M.states both.faultless.states.0 both.faultless.states.1
        clear (suc (suc (suc zero))) h = old 3 h
        clear (suc (suc (suc (suc k)))) h = absurd (omega arith)

    lengths-fine : lengths (with_output C M) ≡ fine
    unfolding lengths
    lengths-fine = passed 2 _ 6 clear
      where
        wrong : OutputType → ℕ → Bool
        wrong X =
            length_wrong S C.input.states X.states (length C.input.rows) (length C.input.marks) (length X.table) (length X.marks)
            (length C.transformation.nodes)
            (length C.transformation.rules)

        old : (k : ℕ) → k < 6 → wrong Y k ≡ false
        old k h = refuse_first_fine 2 _ 6 p.lengths_fine k h

        clear : (k : ℕ) → k < 6 → wrong M k ≡ false
        clear zero h = old 0 h
        clear (suc zero) h = old 1 h
        clear (suc (suc zero)) h = rw (eq-eqb _ _ both.faultless.table_long) refl
        clear (suc (suc (suc zero))) h = rw (eq-eqb _ _ both.faultless.marks_long) refl
        clear (suc (suc (suc (suc zero)))) h = old 4 h
        clear (suc (suc (suc (suc (suc zero))))) h = old 5 h
        clear (suc (suc (suc (suc (suc (suc k)))))) h = absurd (omega arith)

    entries-fine : entries (with_output C M) ≡ fine
    unfolding entries
    entries-fine = passed 4 _ _ (entries_clear M.states C.input.marks M.table M.marks input both.faultless.entries both.faultless.marks)
      where
        old : (k : ℕ) → k < length C.input.marks + length Y.table + length Y.marks → entry_wrong Y.states C.input.marks Y.table Y.marks k ≡ false
        old k h = refuse_first_fine 4 _ _ p.entries_fine k h

        input : (k : ℕ) → k < length C.input.marks → ltb 1 (mark_at C.input.marks k) ≡ false
        input k h = rw (lt-ltb k (length C.input.marks) h) at (old k (omega arith))

    facts-fine : facts (with_output C M) ≡ fine
    unfolding facts
    facts-fine = refuse_if_passed _ 8 _ (le-ltb most_facts (fact_total M.states C.transformation.counts) (rw both.states few))

    rest_fine : (input_rows (with_output C M) ≡ fine) × (counts (with_output C M) ≡ fine) × (nodes (with_output C M) ≡ fine) × (rules (with_output C M) ≡ fine)
    unfolding input_rows counts nodes rules
    rest_fine = (p.input_rows_fine, p.counts_fine, p.nodes_fine, p.rules_fine)

    stays-admitted : Admitted (with_output C M)
    unfolding admission ◌then◌
    stays-admitted =
        let (rows, three, four, five) = rest_fine in
        rw (sizes-fine, lengths-fine, rows, entries-fine, three, four, five, facts-fine) refl

  pub merged_contract : MergedContract C Y Z M
  merged_contract =
      record {
        breaks_exactly = λ t. (breaks_one t, one_breaks t);
        keeps_exactly = merged_keeps;
        passes_exactly = λ first second third one two three. (passes_each first second third one two three, each_passes first second third one two three);
        stays_admitted = stays-admitted;
      }
