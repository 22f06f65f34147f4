-- X1 to X8 and X12 of document 01, as W-202 and W-214 answer them, X10 as W-205 does, document 01's sizes and false readings, the faults of
-- nodes, leading trees, and documents of no root and of two, as one table; the checker computes every answer of it.
use Rattle.std.specs.Prelude.{◌≡◌, refl, List, [], ◌∷◌, ◌++◌, map, ℕ, ◌+◌, ◌*◌, replicate}
use Rattle.foundation.specs.Tests.{◌and◌, ◌or◌, same, below, some_below, every_below}
use Rattle.foundation.specs.Search.{first, greatest}
use Rattle.foundation.specs.Words.{bit, word}
use Rattle.foundation.specs.Lists.{zero_filled, same_list}
use Rattle.model.specs.Trees.{every_tree, preorder}
use Rattle.model.specs.Documents.{joined, forest, leading_from, leading, tree_of, document_tree, reading, numbers_taken, leading_tree, endless, fault_of, leading_verdict}
use Rattle.model.specs.Rows.{tree_below, tree_at}
use Rattle.model.specs.Tables.{Contract}
use Rattle.model.specs.Expressions.{expression_of, expression_below, expression, greatest_parameter, holds_call, holds_call_to}
use Rattle.model.specs.Answers.{◌then◌, refuse_if, refuse_first, refuse_lowest, given, Answer, admitted, judged, pass, tree, ran, written, refusal, stopped}
use Rattle.model.specs.Admission.{node_fault, lowest_node_fault, sizes, lengths, input_rows, entries, counts, nodes, rules, facts, admission, admit}
use Rattle.model.specs.Facts.{yields, facts_at, stay_round, stay_rounds, closed_facts, fact, digits, code, offset, fact_number, numbered_from, numbered}
use Rattle.model.specs.Kinds.{reached_empty, reached_next, with_marks, marks_in, kind_words, state_in, bit_of_fact, facts_in, leaf_kind, symbol_kind, stay_kind, empty_kind, next_kind, kind_of, of_input_type, has_wrong_output, is_taken, breaks}
use Rattle.model.specs.Rounds.{lists, added, round_to, round, listing_from, listing}
use Rattle.model.specs.Judging.{judgement, judging_verdict, judging}
use Rattle.model.specs.Checking.{row_numbers, kind_numbers, stop_height, standing, first_breaking, answered, check, checking_verdict, checking}
use Rattle.model.specs.Running.{◌after◌, most_calls, add_row, count_call, seek_rule, evaluate, run_at, run_on, run, closing, running_verdict, running}
use Rattle.model.specs.WritingOut.{writing_verdict, writing_out}
use Rattle.worked_table.specs.Questions
use Rattle.worked_table.specs.Questions.{Question, Reply, lent, ask}
use Rattle.worked_table.specs.WorkedContracts.{both_accepted, C1, C2, C3, Sized, Noded, Silent, OneChoice, OneChild, IdleSymbol, AtMostOneRoot}

pub record Case : Type 0 where
  pub contract : Contract
  pub question : Question
  pub reply : Reply

-- a line of the table: contract, question, answer, closing buffers
abbrev pub line : Contract → Question → Answer → List (List ℕ) → Case
line C question answer buffers = record { contract = C; question = question; reply = record { answer = answer; buffers = buffers } }

-- the closing buffers of a check under limit L
abbrev pub closed : ℕ → (rows words : List ℕ) → List (List ℕ)
closed L rows words = zero_filled (3 * L) rows ∷ zero_filled (5 * L) words ∷ []

-- the closing buffer of a run with n rows
abbrev pub closed_run : ℕ → List ℕ → List (List ℕ)
closed_run n rows = zero_filled (3 * n) rows ∷ []

-- word 0 of a kind that has those input states, with bit 32 or with bit 33
abbrev pub one_root : ℕ → ℕ
one_root states = 4294967296 + states

abbrev pub no_root : ℕ → ℕ
no_root states = 8589934592 + states

-- the rows of C1's kinds: the empty forest, one root, two roots
abbrev pub three_rows : List ℕ
three_rows = 0 ∷ 0 ∷ 0 ∷ 1 ∷ 0 ∷ 0 ∷ 1 ∷ 0 ∷ 1 ∷ []

-- .. and their words, with a fact word each
abbrev pub three_kinds : (none one two : ℕ) → List ℕ
three_kinds none one two = no_root 1 ∷ none ∷ 0 ∷ 0 ∷ 0 ∷ one_root 1 ∷ one ∷ 0 ∷ 0 ∷ 0 ∷ 1 ∷ two ∷ 0 ∷ 0 ∷ 0 ∷ []

abbrev pub table : List Case
table =
    -- X1, "refused at" its limit; and "pass with 3 at limit 3"
    line (C1 both_accepted) (Questions.check 2) (stopped 2 1) (closed 2 [] [])
    ∷ line (C1 both_accepted) (Questions.check 3) (pass 3) (closed 3 three_rows (three_kinds 1 2 2))
    -- X2
    ∷ line (C1 both_accepted) (Questions.check 1) (stopped 1 0) (closed 1 [] [])
    -- X3, the same
    ∷ line (C1 (0 ∷ 1 ∷ [])) (Questions.check 1) (stopped 1 0) (closed 1 [] [])
    ∷ line (C1 (0 ∷ 1 ∷ [])) (Questions.check 3) (pass 3) (closed 3 three_rows (three_kinds 1 2 2))
    -- X4, and its row 1 written out, from the first 32 rows
    ∷ line (C1 (1 ∷ 0 ∷ [])) (Questions.check 512) (tree 1)
    (closed 512 (0 ∷ 0 ∷ 0 ∷ 1 ∷ 0 ∷ 0 ∷ []) (no_root 1 ∷ 1 ∷ 0 ∷ 0 ∷ 0 ∷ one_root 1 ∷ 2 ∷ 0 ∷ 0 ∷ 0 ∷ []))
    ∷ line (C1 (1 ∷ 0 ∷ [])) (Questions.write_out (zero_filled (3 * 32) (0 ∷ 0 ∷ 0 ∷ 1 ∷ 0 ∷ 0 ∷ [])) 1 4) (written 3) ((1 ∷ 0 ∷ 0 ∷ 7 ∷ []) ∷ [])
    -- X5
    ∷ line (C1 (1 ∷ 0 ∷ [])) (Questions.check 1) (stopped 1 0) (closed 1 [] [])
    -- X6
    ∷ line C2 (Questions.run 100 (1 ∷ 0 ∷ 1 ∷ 0 ∷ 0 ∷ [])) (ran 2 3 5) (closed_run 100 (0 ∷ 0 ∷ 0 ∷ 0 ∷ 0 ∷ 0 ∷ 1 ∷ 1 ∷ 0 ∷ []))
    -- X7
    ∷ line C2 (Questions.run 100 (0 ∷ [])) (ran 0 1 1) (closed_run 100 (0 ∷ 0 ∷ 0 ∷ []))
    -- X8
    ∷ line C2 (Questions.run 2 (1 ∷ 0 ∷ 1 ∷ 0 ∷ 0 ∷ [])) (refusal 14 2) (closed_run 2 [])
    -- X10
    ∷ line (C1 both_accepted) (Questions.judge (1 ∷ 0 ∷ 0 ∷ 0 ∷ [])) (judged 1 3) ((one_root 1 ∷ 2 ∷ 0 ∷ 0 ∷ 0 ∷ []) ∷ [])
    -- X12
    ∷ line (C3 (0 ∷ 0 ∷ [])) (Questions.check 512) (pass 3) (closed 512 three_rows (three_kinds 12 0 0))
    -- no root, and two, under X4's marks: not taken, though the second has an output outside the output type, as the root alone has
    ∷ line (C1 (1 ∷ 0 ∷ [])) (Questions.judge (0 ∷ [])) (judged 0 1) ((no_root 1 ∷ 1 ∷ 0 ∷ 0 ∷ 0 ∷ []) ∷ [])
    ∷ line (C1 (1 ∷ 0 ∷ [])) (Questions.judge (1 ∷ 0 ∷ 1 ∷ 0 ∷ 0 ∷ [])) (judged 0 5) ((1 ∷ 2 ∷ 0 ∷ 0 ∷ 0 ∷ []) ∷ [])
    ∷ line (C1 (1 ∷ 0 ∷ [])) (Questions.judge (1 ∷ 0 ∷ 0 ∷ [])) (judged 2 3) ((one_root 1 ∷ 2 ∷ 0 ∷ 0 ∷ 0 ∷ []) ∷ [])
    -- a contract that only trees of several roots would break
    ∷ line AtMostOneRoot (Questions.check 3) (pass 3) (closed 3 three_rows (three_kinds 1 2 4))
    -- 256 facts and 260
    ∷ line (Sized (0 ∷ 2 ∷ 2 ∷ 2 ∷ 1 ∷ 1 ∷ 1 ∷ 0 ∷ 0 ∷ 0 ∷ [])) Questions.admit admitted []
    ∷ line (Sized (0 ∷ 2 ∷ 2 ∷ 2 ∷ 1 ∷ 1 ∷ 1 ∷ 0 ∷ 0 ∷ 0 ∷ 0 ∷ [])) Questions.admit (refusal 8 260) []
    -- the faults of nodes, 30 to 34
    -- a tag, a parameter, a symbol, a procedure, a child that there is not
    ∷ line (Noded (3 ∷ 0 ∷ 0 ∷ 0 ∷ 0 ∷ [])) Questions.admit (refusal 30 0) []
    ∷ line (Noded (0 ∷ 3 ∷ 0 ∷ 0 ∷ 0 ∷ [])) Questions.admit (refusal 31 0) []
    ∷ line (Noded (1 ∷ 2 ∷ 0 ∷ 0 ∷ 0 ∷ [])) Questions.admit (refusal 31 0) []
    ∷ line (Noded (2 ∷ 3 ∷ 1 ∷ 0 ∷ 0 ∷ [])) Questions.admit (refusal 31 0) []
    ∷ line (Noded (2 ∷ 0 ∷ 3 ∷ 0 ∷ 0 ∷ [])) Questions.admit (refusal 32 0) []
    -- a node that refers to itself: an output symbol, and a call by its second argument
    ∷ line (Noded (1 ∷ 0 ∷ 0 ∷ 0 ∷ 0 ∷ 1 ∷ 1 ∷ 0 ∷ 0 ∷ 1 ∷ [])) Questions.admit (refusal 33 1) []
    ∷ line (Noded (1 ∷ 0 ∷ 0 ∷ 0 ∷ 0 ∷ 2 ∷ 2 ∷ 1 ∷ 0 ∷ 1 ∷ [])) Questions.admit (refusal 33 1) []
    -- an unused field filled: the child of an output symbol and of a parameter, the first of a parameter, the second of a call of
    -- one parameter
    ∷ line (Noded (1 ∷ 0 ∷ 2 ∷ 0 ∷ 0 ∷ [])) Questions.admit (refusal 34 0) []
    ∷ line (Noded (0 ∷ 1 ∷ 1 ∷ 0 ∷ 0 ∷ [])) Questions.admit (refusal 34 0) []
    ∷ line (Noded (1 ∷ 0 ∷ 0 ∷ 0 ∷ 0 ∷ 0 ∷ 1 ∷ 0 ∷ 0 ∷ 0 ∷ 0 ∷ 1 ∷ 0 ∷ 1 ∷ 0 ∷ [])) Questions.admit (refusal 34 2) []
    ∷ line (Noded (1 ∷ 0 ∷ 0 ∷ 0 ∷ 0 ∷ 1 ∷ 0 ∷ 0 ∷ 0 ∷ 0 ∷ 2 ∷ 1 ∷ 1 ∷ 0 ∷ 1 ∷ [])) Questions.admit (refusal 34 2) []
    -- the lowest number of a node: 33 before 34, of an output symbol and of a call; and the lowest node, whatever the number
    ∷ line (Noded (1 ∷ 0 ∷ 0 ∷ 0 ∷ 0 ∷ 1 ∷ 1 ∷ 1 ∷ 1 ∷ 0 ∷ [])) Questions.admit (refusal 33 1) []
    ∷ line (Noded (1 ∷ 0 ∷ 0 ∷ 0 ∷ 0 ∷ 2 ∷ 1 ∷ 1 ∷ 1 ∷ 1 ∷ [])) Questions.admit (refusal 33 1) []
    ∷ line (Noded (1 ∷ 0 ∷ 0 ∷ 1 ∷ 0 ∷ 3 ∷ 0 ∷ 0 ∷ 0 ∷ 0 ∷ [])) Questions.admit (refusal 34 0) []
    -- numbers behind the tree: no symbol, in a run too; and more than 1,023 numbers
    ∷ line (C1 both_accepted) (Questions.judge (0 ∷ 65535 ∷ [])) (judged 0 1) ((no_root 1 ∷ 1 ∷ 0 ∷ 0 ∷ 0 ∷ []) ∷ [])
    ∷ line C2 (Questions.run 100 (0 ∷ 65535 ∷ [])) (ran 0 1 1) (closed_run 100 (0 ∷ 0 ∷ 0 ∷ []))
    ∷ line (C1 both_accepted) (Questions.judge (0 ∷ replicate 1023 1)) (judged 0 1) ((no_root 1 ∷ 1 ∷ 0 ∷ 0 ∷ 0 ∷ []) ∷ [])
    -- no end: 1,023 numbers, and one more; a fault at the last place that is looked at, and at the next
    ∷ line (C1 both_accepted) (Questions.judge (replicate 1023 1)) (refusal 12 1023) (lent 5 ∷ [])
    ∷ line (C1 both_accepted) (Questions.judge (replicate 1024 1)) (refusal 11 1024) (lent 5 ∷ [])
    ∷ line (C1 both_accepted) (Questions.judge (replicate 1022 1 ++ (2 ∷ 1 ∷ []))) (refusal 12 1022) (lent 5 ∷ [])
    ∷ line (C1 both_accepted) (Questions.judge (replicate 1023 1 ++ (2 ∷ []))) (refusal 11 1024) (lent 5 ∷ [])
    -- the false readings: an unused argument skipped is X12; then a tree without an output, a choice anew at each use of a
    -- parameter, two calls on one child, and a round that adds nothing for one symbol
    ∷ line Silent (Questions.check 3) (pass 3) (closed 3 three_rows (three_kinds 0 0 0))
    ∷ line OneChoice (Questions.judge (1 ∷ 0 ∷ 0 ∷ [])) (judged 1 3) ((one_root 2 ∷ 6 ∷ 0 ∷ 0 ∷ 0 ∷ []) ∷ [])
    ∷ line OneChild (Questions.check 5) (pass 5)
    (closed 5 (three_rows ++ (1 ∷ 1 ∷ 0 ∷ 1 ∷ 1 ∷ 1 ∷ [])) (three_kinds 16 34 34 ++ (one_root 1 ∷ 36 ∷ 0 ∷ 0 ∷ 0 ∷ 1 ∷ 36 ∷ 0 ∷ 0 ∷ 0 ∷ [])))
    ∷ line IdleSymbol (Questions.check 4) (tree 3)
    (closed 4 (three_rows ++ (1 ∷ 1 ∷ 0 ∷ [])) (three_kinds 1 2 2 ++ (one_root 1 ∷ 4 ∷ 0 ∷ 0 ∷ 0 ∷ [])))
    -- stops of the contract of two calls, of whose five kinds rounds 0, 1 and 2 list one, one and three: in the middle of round 2 the height
    -- is 1
    ∷ line OneChild (Questions.check 1) (stopped 1 0) (closed 1 [] [])
    ∷ line OneChild (Questions.check 2) (stopped 2 1) (closed 2 [] [])
    ∷ line OneChild (Questions.check 3) (stopped 3 1) (closed 3 [] [])
    ∷ line OneChild (Questions.check 4) (stopped 4 1) (closed 4 [] [])
    ∷ []

-- one name that opens every definition, for computing
unfoldable pub computing : Unit {0}
unfolding ◌and◌ ◌or◌ same below some_below every_below first greatest bit word zero_filled same_list
    every_tree preorder joined forest leading_from leading tree_of document_tree reading numbers_taken leading_tree endless fault_of leading_verdict tree_below tree_at
    expression_of expression_below expression greatest_parameter holds_call holds_call_to ◌then◌ refuse_if refuse_first refuse_lowest node_fault lowest_node_fault given
    sizes lengths input_rows entries counts nodes rules facts admission admit
    yields facts_at stay_round stay_rounds closed_facts fact digits code offset fact_number numbered_from numbered
    reached_empty reached_next with_marks marks_in kind_words state_in bit_of_fact facts_in leaf_kind symbol_kind stay_kind empty_kind next_kind kind_of of_input_type has_wrong_output is_taken breaks
    lists added round_to round listing_from listing judgement judging_verdict judging
    row_numbers kind_numbers stop_height standing first_breaking answered check checking_verdict checking
    ◌after◌ most_calls add_row count_call seek_rule evaluate run_at run_on run closing running_verdict running writing_verdict writing_out ask
computing = tt

-- the definitions give every answer of the table, and leave the buffers as it says
pub worked : map (λ (c : Case). ask c.contract c.question) table ≡ map (λ (c : Case). c.reply) table
unfolding computing
worked = refl
