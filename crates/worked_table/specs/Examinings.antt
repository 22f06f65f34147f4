-- Lists of kinds from elsewhere, as a table: a contract, the words sent, and what the examiner says. The checker computes every line of it.
use Rattle.std.specs.Prelude.{◌≡◌, refl, List, [], ◌∷◌, ◌++◌, map, ℕ, replicate}
use Rattle.model.specs.Tables.{Contract, contract}
use Rattle.model.specs.Answers.{Verdict, fine, refused}
use Rattle.model.specs.Examining.{masked, holds, first_not_held, length_verdict, empty_verdict, closed_verdict, breaking_verdict, examining}
use Rattle.worked_table.specs.WorkedContracts.{both_accepted, C1, Sized}
use Rattle.worked_table.specs.Table.{computing, one_root, no_root, three_kinds}

-- a contract and a list, with the verdict due
pub record Sent : Type 0 where
  pub contract : Contract
  pub words : List ℕ
  pub due : Verdict

abbrev pub accepted : Contract → List ℕ → Sent
accepted C words = record { contract = C; words = words; due = fine }

abbrev pub refusing : Contract → List ℕ → (number place : ℕ) → Sent
refusing C words number place = record { contract = C; words = words; due = refused number place }

-- a kind with no bit in words 2 to 4
abbrev pub kind : (states facts : ℕ) → List ℕ
kind states facts = states ∷ facts ∷ 0 ∷ 0 ∷ 0 ∷ []

-- a word 0 with both marks, which no tree has
abbrev pub both_marks : ℕ → ℕ
both_marks states = one_root (no_root states)

-- three symbols; no input row has the last
abbrev pub ThirdUnused : Contract
ThirdUnused = contract 3 1 1 (0 ∷ []) (0 ∷ 0 ∷ 0 ∷ 0 ∷ 0 ∷ 1 ∷ 0 ∷ 0 ∷ []) (1 ∷ []) (0 ∷ 0 ∷ 0 ∷ []) (1 ∷ []) [] []

abbrev pub sent_lists : List Sent
sent_lists =
    -- X1's kinds, as a pass with 3 leaves them; in another order; one of them twice
    accepted (C1 both_accepted) (three_kinds 1 2 2)
    ∷ accepted (C1 both_accepted) (kind 1 2 ++ kind (one_root 1) 2 ++ kind (no_root 1) 1)
    ∷ accepted (C1 both_accepted) (three_kinds 1 2 2 ++ kind 1 2)
    -- "Bits that stand for no state, fact or mark are ignored.": there is one input state, and there are two facts
    ∷ accepted (C1 both_accepted)
    (no_root 3 ∷ 5 ∷ 9 ∷ 0 ∷ 1 ∷ one_root 2147483649 ∷ 18446744073709551614 ∷ 0 ∷ 8 ∷ 0 ∷ 9223372054034644993 ∷ 2 ∷ 1 ∷ 1 ∷ 18446744073709551615 ∷ [])
    -- kinds that are no tree's: without the state, and with both marks
    ∷ accepted (C1 both_accepted) (three_kinds 1 2 2 ++ kind 0 0 ++ kind (one_root 0) 0)
    ∷ accepted (C1 both_accepted) (three_kinds 1 2 2 ++ kind (both_marks 1) 1)
    -- a contract that is not admitted, before all else
    ∷ refusing (Sized (0 ∷ 2 ∷ 2 ∷ 2 ∷ 1 ∷ 1 ∷ 1 ∷ 0 ∷ 0 ∷ 0 ∷ 0 ∷ [])) (1 ∷ []) 8 260
    -- the length: no multiple of five, and 20,485
    ∷ refusing (C1 both_accepted) (1 ∷ []) 70 1
    ∷ refusing (C1 both_accepted) (three_kinds 1 2 2 ++ (0 ∷ 0 ∷ [])) 70 17
    ∷ refusing (C1 both_accepted) (replicate 20485 0) 70 20485
    -- no empty kind: of no kinds, without its mark, and before a breaking kind
    ∷ refusing (C1 both_accepted) [] 71 0
    ∷ refusing (C1 both_accepted) (kind 1 1 ++ kind (one_root 1) 2 ++ kind 1 2) 71 0
    ∷ refusing (C1 (1 ∷ 0 ∷ [])) (kind (one_root 1) 2) 71 0
    -- not closed: symbol 1 over kinds 0 and 0, over 0 and 1, also before a breaking kind, over 0 and 2 where kind 0 stands twice, and
    -- over 1 and 0
    ∷ refusing (C1 both_accepted) (kind (no_root 1) 1) 72 16777216
    ∷ refusing (C1 both_accepted) (kind (no_root 1) 1 ++ kind (one_root 1) 2) 72 16777217
    ∷ refusing (C1 (1 ∷ 0 ∷ [])) (kind (no_root 1) 1 ++ kind (one_root 1) 2) 72 16777217
    ∷ refusing (C1 both_accepted) (kind (no_root 1) 1 ++ kind (no_root 1) 1 ++ kind (one_root 1) 2) 72 16777218
    ∷ refusing (C1 both_accepted) (kind (no_root 1) 1 ++ kind 0 0 ++ kind (one_root 1) 2 ++ kind 1 2) 72 16781312
    -- and symbol 2, the last, over kinds 0 and 0
    ∷ refusing ThirdUnused (three_kinds 0 0 0) 72 33554432
    -- a breaking kind: X4's, and one with both marks, which is no tree's
    ∷ refusing (C1 (1 ∷ 0 ∷ [])) (three_kinds 1 2 2) 73 1
    ∷ accepted (C1 (0 ∷ 1 ∷ [])) (three_kinds 1 2 2)
    ∷ refusing (C1 (0 ∷ 1 ∷ [])) (three_kinds 1 2 2 ++ kind (both_marks 1) 1) 73 3
    ∷ []

-- what the definition says of them
abbrev pub asked : Sent → Verdict
asked s = examining s.contract s.words

-- the definition gives every line
pub examining_examples : map asked sent_lists ≡ map (λ (s : Sent). s.due) sent_lists
unfolding computing masked holds first_not_held length_verdict empty_verdict closed_verdict breaking_verdict examining
examining_examples = refl
