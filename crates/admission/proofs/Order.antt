-- Admission is its stages, one after another; and what the stages that are passed establish for the next one.
use mathlib.Core.Path.{◌≡◌, ◌∙◌}
use Prim.Native.Nat.{ℕ, ◌+◌, ◌*◌, ◌-◌, ◌<◌, ◌≤◌}
use native.Mathlib.Nat.{mul-le-mul}
use native.Mathlib.Omega.{arith}
use borrow.Author.Tests.{lt-ltb, le-ltb}
use lib.ListN.{length}
use Rattle.model.specs.Tables.{Contract}
use Rattle.model.specs.Facts.{fact_total}
use Rattle.model.specs.Answers.{fine, refused, ◌then◌}
use Rattle.model.specs.Admission.{admitted_unless, sizes, lengths, input_rows, entries, counts, nodes, facts, admission, admit}
use Rattle.model.proofs.Laws.Answers.{refuse_if_refused, refuse_if_passed, then_fine_left, then_fine_right, then_assoc}
use Rattle.model.proofs.Laws.Admitted.{GoodSizes, sizes_good, input_marks_long, output_table_long, output_marks_long, nodes_whole, nodes_good, counts_good}
use Rattle.model.proofs.Laws.Established.{GoodNodes}
use Rattle.numbering.specs.Counts.{SmallCounts}
use Rattle.admission.specs.Stages.{shape, types, expressions}

module _ (C : Contract) where
  -- admission is its stages, one after another
  pub stages : admit C ≡ admitted_unless (shape C then types C then expressions C)
  unfolding admit admission
  stages =
      rw (
        then_assoc (sizes C) (lengths C) (types C then expressions C),
        then_assoc (input_rows C) (entries C then counts C) (expressions C),
        then_assoc (entries C) (counts C) (expressions C),
      )

  -- the total, where it is over 256 and where it is not
  pub facts_over : (total : ℕ) → total ≡ fact_total C.output.states C.transformation.counts → 256 < total → facts C ≡ refused 8 total
  unfolding facts
  facts_over total e h = refuse_if_refused _ 8 _ (lt-ltb 256 _ (omega arith)) ∙ rw e

  pub facts_within : (total : ℕ) → total ≡ fact_total C.output.states C.transformation.counts → total ≤ 256 → facts C ≡ fine
  unfolding facts
  facts_within total e h = refuse_if_passed _ 8 _ (le-ltb 256 _ (omega arith))

  module _ (shaped : shape C ≡ fine) where
    good : GoodSizes C.transformation.symbols C.input.states C.output.states (length C.transformation.counts)
    good = sizes_good C (then_fine_left _ _ shaped)

    long : lengths C ≡ fine
    long = then_fine_right _ _ shaped

    pub few_entries : length C.input.marks + length C.output.table + length C.output.marks ≤ 512
    few_entries =
        let o : C.output.states ≤ 4 = good.output_states.≤most in
        let i : C.input.states ≤ 32 = good.input_states.≤most in
        let few : C.transformation.symbols - 1 ≤ 15 = (let b : C.transformation.symbols ≤ 16 = good.symbols.≤most in omega arith) in
        let square : (C.transformation.symbols - 1) * C.output.states * C.output.states ≤ 15 * 4 * 4 = mul-le-mul (mul-le-mul few o) o in
        let a : length C.input.marks ≡ C.input.states = input_marks_long C long in
        let b : length C.output.table ≡ 1 + (C.transformation.symbols - 1) * C.output.states * C.output.states = output_table_long C long in
        let c : length C.output.marks ≡ C.output.states = output_marks_long C long in
        omega arith

    pub few_procedures : length C.transformation.counts ≤ 16
    few_procedures = good.procedures.≤most

    pub small_counts : types C ≡ fine → SmallCounts C.output.states C.transformation.counts
    small_counts t =
        record {
          states≥ = good.output_states.least≤;
          states≤ = good.output_states.≤most;
          procedures≤ = few_procedures;
          count≤ = counts_good C (then_fine_right _ _ (then_fine_right _ _ t));
        }

    -- nodes none of which is bad
    pub good_nodes : nodes C ≡ fine → GoodNodes C.transformation.counts C.transformation.nodes
    good_nodes e = record { symbols = C.transformation.symbols; few = (nodes_whole C long).few; node = nodes_good C e }
