-- Contracts with stay rules (change request W-208), questions and answers, as a second table; the checker computes every answer of it.
-- All have the types of C1: a stay rule "has symbol S", which is 2, "and its calls child 0".
use Rattle.std.specs.Prelude.{◌≡◌, refl, List, [], ◌∷◌, ◌++◌, map, ℕ, replicate}
use Rattle.model.specs.Tables.{Contract}
use Rattle.model.specs.Answers.{admitted, judged, pass, tree, ran, refusal}
use Rattle.worked_table.specs.Questions
use Rattle.worked_table.specs.Questions.{ask}
use Rattle.worked_table.specs.WorkedContracts.{typed, both_accepted}
use Rattle.worked_table.specs.Table.{Case, line, closed, closed_run, one_root, no_root, three_rows, three_kinds, computing}

-- Procedure 0 calls procedure 1 here with 0, and procedure 1 gives 1 of its parameter and 0.
abbrev pub StayOnly : (marks : List ℕ) → Contract
StayOnly marks =
    typed (0 ∷ 1 ∷ []) marks
    -- 0: symbol 0; 1: call 1 here (node 0); 2: parameter 1; 3: 1(node 2, node 0)
    (1 ∷ 0 ∷ 0 ∷ 0 ∷ 0 ∷ 2 ∷ 1 ∷ 0 ∷ 0 ∷ 0 ∷ 0 ∷ 1 ∷ 0 ∷ 0 ∷ 0 ∷ 1 ∷ 1 ∷ 0 ∷ 2 ∷ 0 ∷ [])
    (0 ∷ 2 ∷ 1 ∷ 1 ∷ 2 ∷ 3 ∷ [])

-- Procedures 0, 1 and 2 each call the next one here. Procedure 3 gives 0 on 0 and 1(0, 0) on 1.
abbrev pub StayChain : Contract
StayChain =
    typed (0 ∷ 0 ∷ 0 ∷ 0 ∷ []) both_accepted
    -- 0: symbol 0; 1: 1(node 0, node 0); 2: call 1 here; 3: call 2 here; 4: call 3 here
    (1 ∷ 0 ∷ 0 ∷ 0 ∷ 0 ∷ 1 ∷ 1 ∷ 0 ∷ 0 ∷ 0 ∷ 2 ∷ 1 ∷ 0 ∷ 0 ∷ 0 ∷ 2 ∷ 2 ∷ 0 ∷ 0 ∷ 0 ∷ 2 ∷ 3 ∷ 0 ∷ 0 ∷ 0 ∷ [])
    (0 ∷ 2 ∷ 2 ∷ 1 ∷ 2 ∷ 3 ∷ 2 ∷ 2 ∷ 4 ∷ 3 ∷ 0 ∷ 0 ∷ 3 ∷ 1 ∷ 1 ∷ [])

-- The procedure only calls itself here.
abbrev pub OnlyItself : Contract
OnlyItself = typed (0 ∷ []) (0 ∷ 0 ∷ []) (2 ∷ 0 ∷ 0 ∷ 0 ∷ 0 ∷ []) (0 ∷ 2 ∷ 0 ∷ [])

-- The stay rule, which gives 1(0, 0), is listed before the rule for symbol 0, which gives 0.
abbrev pub StayListedFirst : Contract
StayListedFirst =
    typed (0 ∷ []) both_accepted
    -- 0: symbol 0; 1: 1(node 0, node 0)
    (1 ∷ 0 ∷ 0 ∷ 0 ∷ 0 ∷ 1 ∷ 1 ∷ 0 ∷ 0 ∷ 0 ∷ [])
    (0 ∷ 2 ∷ 1 ∷ 0 ∷ 0 ∷ 0 ∷ [])

-- Procedure 0 calls procedure 1 here, which has a rule for symbol 1 alone.
abbrev pub NoRuleHere : Contract
NoRuleHere =
    typed (0 ∷ 0 ∷ []) both_accepted
    -- 0: symbol 0; 1: call 1 here
    (1 ∷ 0 ∷ 0 ∷ 0 ∷ 0 ∷ 2 ∷ 1 ∷ 0 ∷ 0 ∷ 0 ∷ [])
    (0 ∷ 2 ∷ 1 ∷ 1 ∷ 1 ∷ 0 ∷ [])

-- Procedure 1 on 1 calls itself on the left child twice, the second time with what the first gives, so that a run on n 1s, each on the left of
-- the one before, makes 2^n calls. It has a rule for every symbol: no run takes its stay rule.
abbrev pub StayUnused : Contract
StayUnused =
    typed (0 ∷ 1 ∷ []) both_accepted
    -- 0: parameter 1; 1: call 1 left (node 0); 2: call 1 left (node 1); 3: symbol 0; 4: call 1 left (node 3)
    (0 ∷ 1 ∷ 0 ∷ 0 ∷ 0 ∷ 2 ∷ 1 ∷ 1 ∷ 0 ∷ 0 ∷ 2 ∷ 1 ∷ 1 ∷ 1 ∷ 0 ∷ 1 ∷ 0 ∷ 0 ∷ 0 ∷ 0 ∷ 2 ∷ 1 ∷ 1 ∷ 3 ∷ 0 ∷ [])
    (1 ∷ 2 ∷ 0 ∷ 1 ∷ 0 ∷ 0 ∷ 1 ∷ 1 ∷ 2 ∷ 0 ∷ 1 ∷ 4 ∷ [])

-- the tree of n 1s, each on the left of the one before
abbrev pub leftwards : ℕ → List ℕ
leftwards n = replicate n 1 ++ (0 ∷ replicate n 0)

-- Procedures of no parameters and of one, a call that stays, one that goes to a child, each also below one of the other, and these rules.
abbrev pub Ruled : List ℕ → Contract
Ruled rules =
    typed (0 ∷ 1 ∷ []) both_accepted
    -- 0: call 0 here; 1: call 1 left (node 0); 2: call 0 left; 3: call 1 here (node 2)
    (2 ∷ 0 ∷ 0 ∷ 0 ∷ 0 ∷ 2 ∷ 1 ∷ 1 ∷ 0 ∷ 0 ∷ 2 ∷ 0 ∷ 1 ∷ 0 ∷ 0 ∷ 2 ∷ 1 ∷ 0 ∷ 2 ∷ 0 ∷ [])
    rules

abbrev pub stay_table : List Case
stay_table =
    -- facts 1, 4 and 5, of the empty forest too: procedure 1 gives state 1, and in the next round so does procedure 0
    line (StayOnly both_accepted) (Questions.judge (0 ∷ [])) (judged 0 1) ((no_root 1 ∷ 50 ∷ 0 ∷ 0 ∷ 0 ∷ []) ∷ [])
    ∷ line (StayOnly both_accepted) (Questions.check 3) (pass 3) (closed 3 three_rows (three_kinds 50 50 50))
    ∷ line (StayOnly (1 ∷ 0 ∷ [])) (Questions.check 3) (tree 1)
    (closed 3 (0 ∷ 0 ∷ 0 ∷ 1 ∷ 0 ∷ 0 ∷ []) (no_root 1 ∷ 50 ∷ 0 ∷ 0 ∷ 0 ∷ one_root 1 ∷ 50 ∷ 0 ∷ 0 ∷ 0 ∷ []))
    ∷ line (StayOnly both_accepted) (Questions.run 4 (0 ∷ [])) (ran 2 3 1) (closed_run 4 (0 ∷ 0 ∷ 0 ∷ 0 ∷ 0 ∷ 0 ∷ 1 ∷ 0 ∷ 1 ∷ []))
    -- three rounds
    ∷ line StayChain (Questions.judge (0 ∷ [])) (judged 0 1) ((no_root 1 ∷ 85 ∷ 0 ∷ 0 ∷ 0 ∷ []) ∷ [])
    ∷ line StayChain (Questions.judge (1 ∷ 0 ∷ 0 ∷ [])) (judged 1 3) ((one_root 1 ∷ 170 ∷ 0 ∷ 0 ∷ 0 ∷ []) ∷ [])
    -- "least sets": no fact; and a run without end
    ∷ line OnlyItself (Questions.check 3) (pass 3) (closed 3 three_rows (three_kinds 0 0 0))
    ∷ line OnlyItself (Questions.run 1 (0 ∷ [])) (refusal 15 4096) (closed_run 1 [])
    -- the facts are both rules'; "Running takes the first rule for the symbol, and the first stay rule only if there is none."
    ∷ line StayListedFirst (Questions.judge (0 ∷ [])) (judged 0 1) ((no_root 1 ∷ 3 ∷ 0 ∷ 0 ∷ 0 ∷ []) ∷ [])
    ∷ line StayListedFirst (Questions.run 4 (0 ∷ [])) (ran 0 1 1) (closed_run 4 (0 ∷ 0 ∷ 0 ∷ []))
    ∷ line StayListedFirst (Questions.run 4 (1 ∷ 0 ∷ 0 ∷ [])) (ran 2 3 3) (closed_run 4 (0 ∷ 0 ∷ 0 ∷ 0 ∷ 0 ∷ 0 ∷ 1 ∷ 0 ∷ 1 ∷ []))
    ∷ line NoRuleHere (Questions.run 4 (0 ∷ [])) (refusal 13 1) (closed_run 4 [])
    -- 4,096 calls, and 8,192, "where any stay rule is present"
    ∷ line StayUnused (Questions.run 1 (leftwards 12)) (ran 0 1 25) (closed_run 1 (0 ∷ 0 ∷ 0 ∷ []))
    ∷ line StayUnused (Questions.run 1 (leftwards 13)) (refusal 15 4096) (closed_run 1 [])
    -- a rule for symbol S + 1; child 0 below a call in a symbol's rule; child 1 in a stay rule, and below a call; such calls in nodes that no
    -- rule uses
    ∷ line (Ruled (0 ∷ 3 ∷ 0 ∷ [])) Questions.admit (refusal 7 0) []
    ∷ line (Ruled (0 ∷ 2 ∷ 0 ∷ 0 ∷ 1 ∷ 1 ∷ [])) Questions.admit (refusal 7 1) []
    ∷ line (Ruled (0 ∷ 1 ∷ 2 ∷ 0 ∷ 2 ∷ 2 ∷ [])) Questions.admit (refusal 7 1) []
    ∷ line (Ruled (0 ∷ 2 ∷ 3 ∷ [])) Questions.admit (refusal 7 0) []
    ∷ line (Ruled (0 ∷ 2 ∷ 0 ∷ 0 ∷ 1 ∷ 2 ∷ [])) Questions.admit admitted []
    ∷ []

-- the definitions give every answer of it
pub stays_worked : map (λ (c : Case). ask c.contract c.question) stay_table ≡ map (λ (c : Case). c.reply) stay_table
unfolding computing
stays_worked = refl
