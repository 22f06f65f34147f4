-- The worked contracts of document 01, a small contract for each of its false readings, and one that only trees of several roots would
-- break.
use Rattle.std.specs.Prelude.{List, [], ◌∷◌, ℕ}
use Rattle.model.specs.Tables.{Contract, contract}

-- "types of C1", with counts, output marks, nodes and rules
abbrev pub typed : (counts output_marks nodes rules : List ℕ) → Contract
typed counts output_marks nodes rules =
    contract 2 1 2 counts (0 ∷ 0 ∷ 0 ∷ 0 ∷ 0 ∷ 1 ∷ 0 ∷ 0 ∷ []) (1 ∷ []) (0 ∷ 1 ∷ 1 ∷ 1 ∷ 1 ∷ []) output_marks nodes rules

-- "Output marks are 1, 1 unless given."
abbrev pub both_accepted : List ℕ
both_accepted = 1 ∷ 1 ∷ []

-- "C1: S = 2, I = 1, O = 2, one procedure. Input rows (0,0,0,0), (0,1,0,0), mark 1. Output table 0,1,1,1,1. The procedure
-- copies: 0 to 0, 1 to 1 of itself on both children.", with the output marks given
abbrev pub C1 : List ℕ → Contract
C1 marks =
    typed (0 ∷ []) marks
    -- 0: symbol 0; 1: call 0 left; 2: call 0 right; 3: 1(node 1, node 2)
    (1 ∷ 0 ∷ 0 ∷ 0 ∷ 0 ∷ 2 ∷ 0 ∷ 1 ∷ 0 ∷ 0 ∷ 2 ∷ 0 ∷ 2 ∷ 0 ∷ 0 ∷ 1 ∷ 1 ∷ 0 ∷ 1 ∷ 2 ∷ [])
    (0 ∷ 0 ∷ 0 ∷ 0 ∷ 1 ∷ 3 ∷ [])

-- "C2: types of C1, counts 0, 1; procedure 0 gives 0 on 0, and on 1 calls 1 on the right child with argument 0; procedure 1
-- gives its parameter on 0, and on 1 calls itself on the right child with 1(0, parameter)."
abbrev pub C2 : Contract
C2 =
    typed (0 ∷ 1 ∷ []) both_accepted
    -- 0: symbol 0; 1: call 1 right (node 0); 2: parameter 1; 3: 1(node 0, node 2); 4: call 1 right (node 3)
    (1 ∷ 0 ∷ 0 ∷ 0 ∷ 0 ∷ 2 ∷ 1 ∷ 2 ∷ 0 ∷ 0 ∷ 0 ∷ 1 ∷ 0 ∷ 0 ∷ 0 ∷ 1 ∷ 1 ∷ 0 ∷ 0 ∷ 2 ∷ 2 ∷ 1 ∷ 2 ∷ 3 ∷ 0 ∷ [])
    (0 ∷ 0 ∷ 0 ∷ 0 ∷ 1 ∷ 1 ∷ 1 ∷ 0 ∷ 2 ∷ 1 ∷ 1 ∷ 4 ∷ [])

-- "C3: types of C1, counts 0, 1, 0; procedure 0 on 1 calls 1 on the left child with argument procedure 2 on the left child;
-- procedure 1 gives 0 on 0; no other rule."
abbrev pub C3 : List ℕ → Contract
C3 marks =
    typed (0 ∷ 1 ∷ 0 ∷ []) marks
    -- 0: call 2 left; 1: call 1 left (node 0); 2: symbol 0
    (2 ∷ 2 ∷ 1 ∷ 0 ∷ 0 ∷ 2 ∷ 1 ∷ 1 ∷ 0 ∷ 0 ∷ 1 ∷ 0 ∷ 0 ∷ 0 ∷ 0 ∷ [])
    (0 ∷ 1 ∷ 1 ∷ 1 ∷ 0 ∷ 2 ∷ [])

-- "with O = 4, one procedure of no parameters, three of two, three of one and three more of none make 256 facts, admitted;
-- one more of none makes 260, refusal 8"
abbrev pub Sized : List ℕ → Contract
Sized counts = contract 1 1 4 counts [] (0 ∷ []) (0 ∷ []) (0 ∷ 0 ∷ 0 ∷ 0 ∷ []) [] []

-- Types of C1, a procedure of no parameters, one of one and one of two, and these nodes.
abbrev pub Noded : List ℕ → Contract
Noded nodes = typed (0 ∷ 1 ∷ 2 ∷ []) (0 ∷ 0 ∷ []) nodes []

-- Types of C1 and a procedure with no rule. "Turning down a contract because some tree has no output" would refuse it.
abbrev pub Silent : Contract
Silent = typed (0 ∷ []) (0 ∷ 0 ∷ []) [] []

-- an output type that tells 0, 1(0, 0) and 1 of 1(0, 0) twice from all other trees, and allows the second and the third
abbrev pub pair_table : List ℕ
pair_table = 0 ∷ 1 ∷ 3 ∷ 3 ∷ 3 ∷ 3 ∷ 2 ∷ 3 ∷ 3 ∷ 3 ∷ 3 ∷ 3 ∷ 3 ∷ 3 ∷ 3 ∷ 3 ∷ 3 ∷ []

-- On 1(0, 0) procedure 1 gives 1(y, y) with y either 0 or 1(0, 0). "Choosing afresh at each use of a parameter" would give
-- 1(0, 1(0, 0)) too, which is not allowed.
abbrev pub OneChoice : Contract
OneChoice =
    contract 2 2 4 (0 ∷ 1 ∷ 0 ∷ []) (0 ∷ 0 ∷ 0 ∷ 0 ∷ 1 ∷ 1 ∷ 0 ∷ 0 ∷ []) (0 ∷ 1 ∷ []) pair_table (0 ∷ 1 ∷ 1 ∷ 0 ∷ [])
    -- 0: symbol 0; 1: 1(node 0, node 0); 2: parameter 1; 3: 1(node 2, node 2); 4: call 2 left; 5: call 1 left (node 4)
    (1 ∷ 0 ∷ 0 ∷ 0 ∷ 0 ∷ 1 ∷ 1 ∷ 0 ∷ 0 ∷ 0 ∷ 0 ∷ 1 ∷ 0 ∷ 0 ∷ 0 ∷ 1 ∷ 1 ∷ 0 ∷ 2 ∷ 2 ∷ 2 ∷ 2 ∷ 1 ∷ 0 ∷ 0 ∷ 2 ∷ 1 ∷ 1 ∷ 4 ∷ 0 ∷ [])
    (0 ∷ 1 ∷ 5 ∷ 1 ∷ 0 ∷ 3 ∷ 2 ∷ 0 ∷ 0 ∷ 2 ∷ 0 ∷ 1 ∷ [])

-- Procedure 0 on 1 gives 1 over two calls of procedure 1 on the left child, which gives 0 on 0 and 1(0, 0) on 1. "Treating
-- two calls on one child as calls on unrelated trees" would give 1(0, 1(0, 0)) too, which is not allowed.
abbrev pub OneChild : Contract
OneChild =
    contract 2 1 4 (0 ∷ 0 ∷ []) (0 ∷ 0 ∷ 0 ∷ 0 ∷ 0 ∷ 1 ∷ 0 ∷ 0 ∷ []) (1 ∷ []) pair_table (0 ∷ 1 ∷ 1 ∷ 0 ∷ [])
    -- 0: symbol 0; 1: 1(node 0, node 0); 2: call 1 left; 3: call 1 left; 4: 1(node 2, node 3)
    (1 ∷ 0 ∷ 0 ∷ 0 ∷ 0 ∷ 1 ∷ 1 ∷ 0 ∷ 0 ∷ 0 ∷ 2 ∷ 1 ∷ 1 ∷ 0 ∷ 0 ∷ 2 ∷ 1 ∷ 1 ∷ 0 ∷ 0 ∷ 1 ∷ 1 ∷ 0 ∷ 2 ∷ 3 ∷ [])
    (0 ∷ 1 ∷ 4 ∷ 1 ∷ 0 ∷ 0 ∷ 1 ∷ 1 ∷ 1 ∷ [])

-- Procedure 0 gives 1 of itself on the left child, on 1 and on 2, and more than one 1 above another is not allowed. Symbol 2 adds no
-- kind in round 1, and round 2 adds a breaking one. "Ending when a round adds nothing for one symbol" would pass it.
abbrev pub IdleSymbol : Contract
IdleSymbol =
    contract 3 1 3 (0 ∷ []) (0 ∷ 0 ∷ 0 ∷ 0 ∷ 0 ∷ 1 ∷ 0 ∷ 0 ∷ 0 ∷ 2 ∷ 0 ∷ 0 ∷ []) (1 ∷ [])
    (0 ∷ 1 ∷ 2 ∷ 2 ∷ 2 ∷ 2 ∷ 2 ∷ 2 ∷ 2 ∷ 2 ∷ 2 ∷ 2 ∷ 2 ∷ 2 ∷ 2 ∷ 2 ∷ 2 ∷ 2 ∷ 2 ∷ []) (1 ∷ 1 ∷ 0 ∷ [])
    -- 0: symbol 0; 1: call 0 left; 2: 1(node 1, node 0)
    (1 ∷ 0 ∷ 0 ∷ 0 ∷ 0 ∷ 2 ∷ 0 ∷ 1 ∷ 0 ∷ 0 ∷ 1 ∷ 1 ∷ 0 ∷ 1 ∷ 0 ∷ [])
    (0 ∷ 0 ∷ 0 ∷ 0 ∷ 1 ∷ 2 ∷ 0 ∷ 2 ∷ 2 ∷ [])

-- C1 with an output type that tells trees of no root, of one and of more, and allows none of more: only documents of one root are
-- taken, so that no tree breaks it.
abbrev pub AtMostOneRoot : Contract
AtMostOneRoot =
    contract 2 1 3 (0 ∷ []) (0 ∷ 0 ∷ 0 ∷ 0 ∷ 0 ∷ 1 ∷ 0 ∷ 0 ∷ []) (1 ∷ []) (0 ∷ 1 ∷ 2 ∷ 2 ∷ 1 ∷ 2 ∷ 2 ∷ 1 ∷ 2 ∷ 2 ∷ []) (1 ∷ 1 ∷ 0 ∷ [])
    (1 ∷ 0 ∷ 0 ∷ 0 ∷ 0 ∷ 2 ∷ 0 ∷ 1 ∷ 0 ∷ 0 ∷ 2 ∷ 0 ∷ 2 ∷ 0 ∷ 0 ∷ 1 ∷ 1 ∷ 0 ∷ 1 ∷ 2 ∷ [])
    (0 ∷ 0 ∷ 0 ∷ 0 ∷ 1 ∷ 3 ∷ [])
