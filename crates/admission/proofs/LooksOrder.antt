-- Admission is its stages, each over what it looks at alone; and what the stages that are passed establish for the next one.
use mathlib.Core.Path.{◌≡◌, ◌∙◌}
use mathlib.Core.List.{List, []}
use Prim.Native.Nat.{ℕ, ◌+◌, ◌*◌, ◌-◌, ◌<◌, ◌≤◌}
use native.Mathlib.Nat.{mul-le-mul}
use native.Mathlib.Omega.{arith}
use borrow.Author.Tests.{lt-ltb, le-ltb}
use lib.Dec.{ltb}
use lib.ListN.{length}
use Rattle.model.specs.Tables.{Contract, contract, node_count}
use Rattle.model.specs.Facts.{fact_total}
use Rattle.model.specs.Answers.{Verdict, fine, refused, ◌then◌, refuse_if}
use Rattle.model.specs.Admission.{lowest_node_fault, most_facts, admitted_unless, sizes, lengths, input_rows, entries, counts, nodes, rules, facts, admission, admit}
use Rattle.model.proofs.Laws.Answers.{refuse_if_refused, refuse_if_passed, then_fine_left, then_fine_right, then_assoc}
use Rattle.model.proofs.Laws.Admitted.{sizes_good, input_marks_long, output_table_long, output_marks_long, nodes_whole, nodes_good, counts_good}
use Rattle.model.proofs.Laws.Established.{GoodNodes}
use Rattle.numbering.specs.Counts.{SmallCounts}
use Rattle.admission.specs.Looks.{shape, types, expressions}

-- nodes none of which is bad
pub good_nodes : (S : ℕ) (cs ns : List ℕ) → node_count ns ≤ 256
    → lowest_node_fault S cs ns ≡ fine
    → GoodNodes cs ns
unfolding nodes
good_nodes S cs ns few e = record { symbols = S; few = few; node = nodes_good (contract S 0 0 cs [] [] [] [] ns []) e }

-- the total, where it is over 256 and where it is not
pub facts_over : (O : ℕ) (cs : List ℕ) (total : ℕ) → total ≡ fact_total O cs → 256 < total
    → refuse_if (ltb most_facts (fact_total O cs)) 8 (fact_total O cs) ≡ refused 8 total
facts_over O cs total e h = refuse_if_refused _ 8 (fact_total O cs) (lt-ltb 256 (fact_total O cs) (omega arith)) ∙ rw e

pub facts_within : (O : ℕ) (cs : List ℕ) (total : ℕ) → total ≡ fact_total O cs → total ≤ 256
    → refuse_if (ltb most_facts (fact_total O cs)) 8 (fact_total O cs) ≡ fine
facts_within O cs total e h = refuse_if_passed _ 8 (fact_total O cs) (le-ltb 256 (fact_total O cs) (omega arith))

module _ (S I O : ℕ) (cs rows input_marks table output_marks ns rs : List ℕ) where
  abbrev C : Contract
  C = contract S I O cs rows input_marks table output_marks ns rs

  abbrev shape_verdict : Verdict
  shape_verdict = shape S I O (length cs) (length rows) (length input_marks) (length table) (length output_marks) (length ns) (length rs)

  abbrev types_verdict : Verdict
  types_verdict = types S I O cs rows input_marks table output_marks

  -- admission is its stages, one after another
  pub stages : admit C ≡ admitted_unless (shape_verdict then types_verdict then expressions S O cs ns rs)
  unfolding admit admission shape types expressions sizes lengths input_rows entries counts nodes rules facts
  stages =
      rw (
        then_assoc (sizes C) (lengths C) (types_verdict then expressions S O cs ns rs),
        then_assoc (input_rows C) (entries C then counts C) (expressions S O cs ns rs),
        then_assoc (entries C) (counts C) (expressions S O cs ns rs),
      )

  shape_sizes : shape_verdict ≡ fine → sizes C ≡ fine
  unfolding shape sizes
  shape_sizes e = then_fine_left _ _ e

  shape_lengths : shape_verdict ≡ fine → lengths C ≡ fine
  unfolding shape lengths
  shape_lengths e = then_fine_right _ _ e

  types_counts : types_verdict ≡ fine → counts C ≡ fine
  unfolding types counts
  types_counts e = then_fine_right _ _ (then_fine_right _ _ e)

  pub few_entries : shape_verdict ≡ fine → length input_marks + length table + length output_marks ≤ 512
  few_entries e =
      let s = sizes_good C (shape_sizes e) in
      let o : O ≤ 4 = s.output_states.≤most in
      let i : I ≤ 32 = s.input_states.≤most in
      let few : S - 1 ≤ 15 = (let b : S ≤ 16 = s.symbols.≤most in omega arith) in
      let square : (S - 1) * O * O ≤ 15 * 4 * 4 = mul-le-mul (mul-le-mul few o) o in
      let a : length input_marks ≡ I = input_marks_long C (shape_lengths e) in
      let b : length table ≡ 1 + (S - 1) * O * O = output_table_long C (shape_lengths e) in
      let c : length output_marks ≡ O = output_marks_long C (shape_lengths e) in
      omega arith

  pub few_procedures : shape_verdict ≡ fine → length cs ≤ 16
  few_procedures e = (sizes_good C (shape_sizes e)).procedures.≤most

  pub small-counts : shape_verdict ≡ fine → types_verdict ≡ fine → SmallCounts O cs
  small-counts e t =
      record {
        states≥ = (sizes_good C (shape_sizes e)).output_states.least≤;
        states≤ = (sizes_good C (shape_sizes e)).output_states.≤most;
        procedures≤ = few_procedures e;
        count≤ = counts_good C (types_counts t);
      }

  pub few-nodes : shape_verdict ≡ fine → node_count ns ≤ 256
  few-nodes e = (nodes_whole C (shape_lengths e)).few
