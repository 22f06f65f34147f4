-- Running a transformation on the document that what is handed in begins with (change request W-205): the order of work, the answer
-- and the closing row buffer.
use Rattle.std.specs.Prelude.{Bool, not, ◌&&◌, ◌||◌, List, [], ◌∷◌, ◌++◌, ℕ, zero, suc, ◌%◌, eqb, ltb, length, get_or, replicate}
use Rattle.foundation.specs.Tests.{choose}
use Rattle.foundation.specs.Search.{first}
use Rattle.foundation.specs.Lists.{zero_filled}
use Rattle.model.specs.Trees.{Tree, empty, node, root_symbol}
use Rattle.model.specs.Rows.{row_count}
use Rattle.model.specs.Tables.{Contract, Transformation, rule_at, rule_count}
use Rattle.model.specs.Expressions.{Child, left, right, here, Expression, parameter, nothing, symbol, call, Arguments, none, argument}
use Rattle.model.specs.Outputs.{right_side}
use Rattle.model.specs.Answers.{Verdict, refuse_if, ◌then◌, Answer, ran, refusal, given}
use Rattle.model.specs.Admission.{admission}
use Rattle.model.specs.Documents.{numbers_taken, leading_tree, leading_verdict}

-- rule r is one for procedure p and symbol s
abbrev pub fits : List ℕ → (procedure symbol : ℕ) → ℕ → Bool
fits rules p s r = eqb (rule_at rules r).procedure p && eqb (rule_at rules r).symbol s

-- the first such rule, or the number of rules where there is none
abbrev pub first_rule : List ℕ → (procedure symbol : ℕ) → ℕ
first_rule rules p s = first (fits rules p s) (rule_count rules)

-- the first stay rule of any procedure, or the number of rules where there is none: it "has symbol S"
abbrev pub first_stay : Transformation → ℕ
first_stay T = first (λ r. eqb (rule_at T.rules r).symbol T.symbols) (rule_count T.rules)

-- "where any stay rule is present"
abbrev pub has_stays : Transformation → Bool
has_stays T = ltb (first_stay T) (rule_count T.rules)

-- "15, a call past 65,536"; "15 is given past 4,096 calls (place 4,096) where any stay rule is present"
unfoldable pub most_calls : Transformation → ℕ
most_calls T = choose (has_stays T) 4096 65536

-- "Rows used and calls made are one small tally which each call brings forward."
pub record Tally : Type 0 where
  pub used : ℕ
  pub calls : ℕ

-- the work so far: the tally, and the numbers of the rows used
pub record Work : Type 0 where
  pub tally : Tally
  pub rows : List ℕ

-- a step of the work: its result, or a refusal with number and place
pub data Step (A : Type 0) : Type 0 where
  made : A → Work → Step A
  refused : (number place : ℕ) → Step A

-- one step after another; "whichever comes first in that order of work is given"
infixl 20 ◌after◌
unfoldable pub ◌after◌ : {A B : Type 0} → Step A → (A → Work → Step B) → Step B
made a w after k = k a w
refused number place after k = refused number place

-- "Each output symbol, 0 included, adds a row (symbol, left, right)"; "14, a row is due and none is free (the rows there
-- are)"
unfoldable pub add_row : ℕ → (symbol left right : ℕ) → Work → Step ℕ
add_row free s l r w =
    choose (ltb w.tally.used free)
    (made w.tally.used
    (record { tally = record { used = suc w.tally.used; calls = w.tally.calls }; rows = w.rows ++ (s ∷ l ∷ r ∷ []) }))
    (refused 14 free)

-- "the call is counted, the start included"; "15, a call past 65,536 (place 65,536)", or past 4,096
unfoldable pub count_call : (most : ℕ) → Work → Step (Unit {0})
count_call most w =
    choose (ltb w.tally.calls most)
    (made tt (record { tally = record { used = w.tally.used; calls = suc w.tally.calls }; rows = w.rows }))
    (refused 15 most)

-- "then its rule sought"; "Running takes the first rule for the symbol, and the first stay rule only if there is none."; "13,
-- no rule (procedure)"
unfoldable pub seek_rule : Transformation → (procedure symbol : ℕ) → Work → Step ℕ
seek_rule T p s w =
    let n : ℕ = rule_count T.rules in
    let r : ℕ = first_rule T.rules p s in
    let stay : ℕ = first_rule T.rules p T.symbols in
    choose (ltb r n) (made r w) (choose (ltb stay n) (made stay w) (refused 13 p))

-- running a procedure with the rows of its parameters
abbrev pub Runs : Type 0
Runs = ℕ → List ℕ → Work → Step ℕ

-- a call to a child under symbol 0, which no admitted contract has
abbrev pub no_runs : Runs
no_runs p ws w = refused 13 p

-- running procedures on the tree that a call goes to
abbrev pub on_child : (Tree → Runs) → Tree → Child → Runs
on_child runs empty left = no_runs
on_child runs empty right = no_runs
on_child runs empty here = runs empty
on_child runs (node s l r) left = runs l
on_child runs (node s l r) right = runs r
on_child runs (node s l r) here = runs (node s l r)

module _ (T : Transformation) (free : ℕ) where
  -- "Running a procedure evaluates its right side, which runs procedures on the children. Left before right, arguments
  -- before the called procedure"; a row is added "after its children"
  unfoldable mutual
    pub evaluate : (Child → Runs) → Expression → List ℕ → Work → Step ℕ
    evaluate runs (parameter i) ws w = made (get_or ws i 0) w
    evaluate runs nothing ws w = add_row free 0 0 0 w
    evaluate runs (symbol s e f) ws w = evaluate runs e ws w after λ l w₁. evaluate runs f ws w₁ after λ r w₂. add_row free s l r w₂
    evaluate runs (call p c es) ws w = evaluate_all runs es ws w after λ vs w₁. runs c p vs w₁

    pub evaluate_all : (Child → Runs) → Arguments → List ℕ → Work → Step (List ℕ)
    evaluate_all runs none ws w = made [] w
    evaluate_all runs (argument e es) ws w = evaluate runs e ws w after λ v w₁. evaluate_all runs es ws w₁ after λ vs w₂. made (v ∷ vs) w₂

  -- a call on a tree of root symbol s
  unfoldable pub run_at : (Child → Runs) → ℕ → Runs
  run_at runs s p ws w = count_call (most_calls T) w after λ one w₁. seek_rule T p s w₁ after λ r w₂. evaluate runs (right_side T r) ws w₂

  -- a call on a tree, calls within each other going no deeper than so many: each is counted, so that a call where none is left
  -- is one past the last
  unfoldable pub run_on : ℕ → Tree → Runs
  run_on zero t p ws w = refused 15 (most_calls T)
  run_on (suc calls) t p ws w = run_at (on_child (run_on calls) t) (root_symbol t) p ws w

-- "Procedure 0 is then called on the tree"
unfoldable pub run : Transformation → ℕ → Tree → Step ℕ
run T free t = run_on T free (most_calls T) t 0 [] (record { tally = record { used = 0; calls = 0 }; rows = [] })

pub record Ran : Type 0 where
  pub answer : Answer
  pub rows : List ℕ

-- "the buffer is then all 0. Otherwise root row and rows used come back, unused rows 0.", with how many numbers the leading tree took
unfoldable pub closing : (lent taken : ℕ) → Step ℕ → Ran
closing lent taken (made root w) = record { answer = ran root w.tally.used taken; rows = zero_filled lent w.rows }
closing lent taken (refused number place) = record { answer = refusal number place; rows = replicate lent 0 }

-- "no multiple of three or above 12,288"
abbrev pub rows_wrong : ℕ → Bool
rows_wrong n = not (eqb (n % 3) 0) || ltb 12288 n

module _ (C : Contract) where
  -- "1 to 8; 9, the row buffer's length is no multiple of three or above 12,288 (place 0); 11; 12"
  unfoldable pub running_verdict : (numbers buffer : List ℕ) → Verdict
  running_verdict numbers buffer =
      admission C then refuse_if (rows_wrong (length buffer)) 9 0 then leading_verdict C.transformation.symbols numbers

  -- "these write nothing"
  unfoldable pub running : (numbers buffer : List ℕ) → Ran
  running numbers buffer =
      let S : ℕ = C.transformation.symbols in
      given (running_verdict numbers buffer) (λ number place. record { answer = refusal number place; rows = buffer })
      (closing (length buffer) (numbers_taken S numbers) (run C.transformation (row_count buffer) (leading_tree S numbers)))
