-- How many calls are left is never the reason of an answer: a run that may still make all calls that the tally allows ends as it
-- does with any more.
use mathlib.Core.Path.{◌≡◌, refl, sym, ◌∙◌}
use mathlib.Core.Bool.{Bool, true, false, true≢false}
use mathlib.Core.List.{List, [], ◌∷◌, ◌++◌}
use Prim.Native.Nat.{ℕ, zero, suc, ◌+◌, ◌<◌, ◌≤◌}
use native.Mathlib.Omega.{arith}
use borrow.Author.Tests.{ltb-true, lt-ltb, le-ltb, eq-eqb}
use lib.Dec.{eqb, ltb}
use Rattle.foundation.specs.Tests.{choose}
use Rattle.foundation.specs.Search.{first_clear}
use Rattle.model.specs.Trees.{Tree, empty, node, root_symbol}
use Rattle.model.specs.Tables.{Transformation, rule_at, rule_count}
use Rattle.model.specs.Expressions.{Child, left, right, here, Expression, parameter, nothing, symbol, call, Arguments, none, argument}
use Rattle.model.specs.Outputs.{right_side}
use Rattle.model.specs.Running.{Work, Step, made, refused, ◌after◌, most_calls, first_rule, first_stay, add_row, count_call, seek_rule, Runs, on_child, evaluate, evaluate_all, run_at, run_on, run}
use Rattle.model.proofs.Laws.Calls.{EachCall, EachCallOfAll}
use Rattle.model.proofs.Laws.Stays.{NoStayRule}

-- what holds of the result of a step, where it has one
abbrev pub Holds : {A : Type 0} → (A → Work → Type 0) → Step A → Type 0
Holds Q (made a w) = Q a w
Holds Q (refused number place) = Unit {0}

holds_after : {A B : Type 0} (Q : A → Work → Type 0) (R : B → Work → Type 0) (s : Step A) (k : A → Work → Step B) → Holds Q s
    → ((a : A) (w : Work) → Q a w → Holds R (k a w))
    → Holds R (s after k)
unfolding ◌after◌
holds_after Q R (made a w) k h f = f a w h
holds_after Q R (refused number place) k h f = tt

after_same : {A B : Type 0} (Q : A → Work → Type 0) (s s' : Step A) (k k' : A → Work → Step B) → s ≡ s' → Holds Q s
    → ((a : A) (w : Work) → Q a w → k a w ≡ k' a w)
    → (s after k) ≡ (s' after k')
unfolding ◌after◌
after_same Q (made a w) s' k k' e h f = rw (← e) (f a w h)
after_same Q (refused number place) s' k k' e h f = rw (← e)

-- at least so many calls are made
abbrev pub Made : {A : Type 0} → ℕ → A → Work → Type 0
Made b a w = b ≤ w.tally.calls

choose_holds : {A : Type 0} (Q : A → Work → Type 0) (b : Bool) (a : A) (w : Work) (number place : ℕ) → Q a w
    → Holds Q (choose b (made a w) (refused number place))
choose_holds Q true a w number place h = h
choose_holds Q false a w number place h = tt

row_grown : (b free s l r : ℕ) (w : Work) → b ≤ w.tally.calls → Holds (Made b) (add_row free s l r w)
unfolding add_row
row_grown b free s l r w h =
    choose_holds (Made {A = ℕ} b) (ltb w.tally.used free) w.tally.used
    (record { tally = record { used = suc w.tally.used; calls = w.tally.calls }; rows = w.rows ++ (s ∷ l ∷ r ∷ []) }) 14 free h

count_grown : (most : ℕ) (w : Work) → Holds (Made (suc w.tally.calls)) (count_call most w)
unfolding count_call
count_grown most w =
    let counted : Work = record { tally = record { used = w.tally.used; calls = suc w.tally.calls }; rows = w.rows } in
    let h : suc w.tally.calls ≤ counted.tally.calls = omega arith in
    choose_holds (Made {A = Unit {0}} (suc w.tally.calls)) (ltb w.tally.calls most) tt counted 15 most h

-- which rule is taken
module _ (T : Transformation) (p s : ℕ) (w : Work) where
  -- "Running takes the first rule for the symbol"
  pub seek_root : first_rule T.rules p s < rule_count T.rules → seek_rule T p s w ≡ made (first_rule T.rules p s) w
  unfolding seek_rule
  seek_root h = rw (lt-ltb (first_rule T.rules p s) (rule_count T.rules) h)

  -- "and the first stay rule only if there is none"
  pub seek_stay : rule_count T.rules ≤ first_rule T.rules p s → first_rule T.rules p T.symbols < rule_count T.rules
      → seek_rule T p s w ≡ made (first_rule T.rules p T.symbols) w
  unfolding seek_rule
  seek_stay h k =
      rw (le-ltb (first_rule T.rules p s) (rule_count T.rules) h, lt-ltb (first_rule T.rules p T.symbols) (rule_count T.rules) k)

-- a rule that is found is one of the table
abbrev Found : Transformation → ℕ → ℕ → Work → Type 0
Found T b r w = (r < rule_count T.rules) × (b ≤ w.tally.calls)

seek_finds : (T : Transformation) (p s b : ℕ) (w : Work) → b ≤ w.tally.calls → Holds (Found T b) (seek_rule T p s w)
unfolding seek_rule
seek_finds T p s b w h = own (ltb (first_rule T.rules p s) (rule_count T.rules)) refl
  where
    stay : (t : Bool) → ltb (first_rule T.rules p T.symbols) (rule_count T.rules) ≡ t
        → Holds (Found T b) (choose t (made (first_rule T.rules p T.symbols) w) (refused 13 p))
    stay true e = (ltb-true _ _ e, h)
    stay false e = tt

    own : (t : Bool) → ltb (first_rule T.rules p s) (rule_count T.rules) ≡ t
        → Holds (Found T b)
        (choose t (made (first_rule T.rules p s) w)
        (choose (ltb (first_rule T.rules p T.symbols) (rule_count T.rules)) (made (first_rule T.rules p T.symbols) w) (refused 13 p)))
    own true e = (ltb-true _ _ e, h)
    own false e = stay (ltb (first_rule T.rules p T.symbols) (rule_count T.rules)) refl

-- running procedures makes no call undone
abbrev pub Growing : (Child → Runs) → Type 0
Growing runs = (c : Child) (p : ℕ) (ws : List ℕ) (b : ℕ) (w : Work) → b ≤ w.tally.calls → Holds (Made b) (runs c p ws w)

module _ (T : Transformation) (free : ℕ) where
  module _ (runs : Child → Runs) (growing : Growing runs) where
    mutual
      unfolding evaluate

      pub evaluate_grown : (e : Expression) (ws : List ℕ) (b : ℕ) (w : Work) → b ≤ w.tally.calls → Holds (Made b) (evaluate T free runs e ws w)
      evaluate_grown (parameter i) ws b w h = h
      evaluate_grown nothing ws b w h = row_grown b free 0 0 0 w h
      evaluate_grown (symbol s e f) ws b w h =
          holds_after (Made b) (Made b) _ _ (evaluate_grown e ws b w h) λ l w₁ h₁.
          holds_after (Made b) (Made b) _ _ (evaluate_grown f ws b w₁ h₁) λ r w₂ h₂. row_grown b free s l r w₂ h₂
      evaluate_grown (call p c es) ws b w h =
          holds_after (Made b) (Made b) _ _ (evaluate_all_grown es ws b w h) λ vs w₁ h₁. growing c p vs b w₁ h₁

      evaluate_all_grown : (es : Arguments) (ws : List ℕ) (b : ℕ) (w : Work) → b ≤ w.tally.calls → Holds (Made b) (evaluate_all T free runs es ws w)
      evaluate_all_grown none ws b w h = h
      evaluate_all_grown (argument e es) ws b w h =
          holds_after (Made b) (Made b) _ _ (evaluate_grown e ws b w h) λ v w₁ h₁.
          holds_after (Made b) (Made b) _ _ (evaluate_all_grown es ws b w₁ h₁) λ vs w₂ h₂. h₂

    run_at_grown : (s p : ℕ) (ws : List ℕ) (b : ℕ) (w : Work) → b ≤ w.tally.calls → Holds (Made b) (run_at T free runs s p ws w)
    unfolding run_at
    run_at_grown s p ws b w h =
        holds_after (Made (suc w.tally.calls)) (Made b) _ _ (count_grown (most_calls T) w) λ one w₁ h₁.
        holds_after (Found T b) (Made b) _ _ (seek_finds T p s b w₁ (omega arith)) λ r w₂ found. evaluate_grown (right_side T r) ws b w₂ found.1

  pub child_growing : (runs : Tree → Runs) → ((t : Tree) (p : ℕ) (ws : List ℕ) (b : ℕ) (w : Work) → b ≤ w.tally.calls → Holds (Made b) (runs t p ws w))
      → (t : Tree) → Growing (on_child runs t)
  child_growing runs grown empty left p ws b w h = tt
  child_growing runs grown empty right p ws b w h = tt
  child_growing runs grown empty here p ws b w h = grown empty p ws b w h
  child_growing runs grown (node s l r) left p ws b w h = grown l p ws b w h
  child_growing runs grown (node s l r) right p ws b w h = grown r p ws b w h
  child_growing runs grown (node s l r) here p ws b w h = grown (node s l r) p ws b w h

  -- "Rows used and calls made are one small tally which each call brings forward."
  pub run_on_grown : (n : ℕ) (t : Tree) (p : ℕ) (ws : List ℕ) (b : ℕ) (w : Work) → b ≤ w.tally.calls → Holds (Made b) (run_on T free n t p ws w)
  unfolding run_on
  run_on_grown zero t p ws b w h = tt
  run_on_grown (suc n) t p ws b w h =
      run_at_grown (on_child (run_on T free n) t) (child_growing (run_on T free n) (run_on_grown n) t) (root_symbol t) p ws b w h

  -- procedures that run alike wherever a call may go, once b calls are made, make expressions evaluate alike
  module _ (runs runs' : Child → Runs) (P : Child → ℕ → Type 0) (b : ℕ) (growing : Growing runs)
      (alike : (c : Child) (p : ℕ) (ws : List ℕ) (w : Work) → P c p → b ≤ w.tally.calls → runs c p ws w ≡ runs' c p ws w) where
    mutual
      unfolding evaluate

      evaluate_alike : (e : Expression) → EachCall P e → (ws : List ℕ) (w : Work) → b ≤ w.tally.calls → evaluate T free runs e ws w ≡ evaluate T free runs' e ws w
      evaluate_alike (parameter i) each ws w h = refl
      evaluate_alike nothing each ws w h = refl
      evaluate_alike (symbol s e f) each ws w h =
          after_same (Made b) _ _ _ _ (evaluate_alike e each.0 ws w h) (evaluate_grown runs growing e ws b w h) λ l w₁ h₁.
          after_same (Made b) _ _ _ _ (evaluate_alike f each.1 ws w₁ h₁) (evaluate_grown runs growing f ws b w₁ h₁) λ r w₂ h₂. refl
      evaluate_alike (call p c es) each ws w h =
          after_same (Made b) _ _ _ _ (evaluate_all_alike es each.1 ws w h) (evaluate_all_grown runs growing es ws b w h) λ vs w₁ h₁.
          alike c p vs w₁ each.0 h₁

      evaluate_all_alike : (es : Arguments) → EachCallOfAll P es → (ws : List ℕ) (w : Work) → b ≤ w.tally.calls
          → evaluate_all T free runs es ws w ≡ evaluate_all T free runs' es ws w
      evaluate_all_alike none each ws w h = refl
      evaluate_all_alike (argument e es) each ws w h =
          after_same (Made b) _ _ _ _ (evaluate_alike e each.0 ws w h) (evaluate_grown runs growing e ws b w h) λ v w₁ h₁.
          after_same (Made b) _ _ _ _ (evaluate_all_alike es each.1 ws w₁ h₁) (evaluate_all_grown runs growing es ws b w₁ h₁) λ vs w₂ h₂. refl

    pub run_at_alike : ((r : ℕ) → r < rule_count T.rules → EachCall P (right_side T r))
        → (s p : ℕ) (ws : List ℕ) (w : Work) → b ≤ suc w.tally.calls
        → run_at T free runs s p ws w ≡ run_at T free runs' s p ws w
    unfolding run_at
    run_at_alike each s p ws w h =
        after_same (Made b) _ _ _ _ refl (enough (count_call (most_calls T) w) (count_grown (most_calls T) w)) λ one w₁ h₁.
        after_same (Found T b) _ _ _ _ refl (seek_finds T p s b w₁ h₁) λ r w₂ found. evaluate_alike (right_side T r) (each r found.0) ws w₂ found.1
      where
        enough : {A : Type 0} (s : Step A) → Holds (Made (suc w.tally.calls)) s → Holds (Made b) s
        enough (made a w₁) k = omega arith
        enough (refused number place) k = tt

  -- where no call is left, none may be made
  pub run_at_last : (runs : Child → Runs) (s p : ℕ) (ws : List ℕ) (w : Work) → most_calls T ≤ w.tally.calls → run_at T free runs s p ws w ≡ refused 15 (most_calls T)
  unfolding run_at count_call ◌after◌
  run_at_last runs s p ws w h = rw (le-ltb w.tally.calls (most_calls T) h)

  mutual
    every_call : (e : Expression) → EachCall (λ c p. Unit {0}) e
    every_call (parameter i) = tt
    every_call nothing = tt
    every_call (symbol s e f) = (every_call e, every_call f)
    every_call (call p c es) = (tt, every_call_of_all es)

    every_call_of_all : (es : Arguments) → EachCallOfAll (λ c p. Unit {0}) es
    every_call_of_all none = tt
    every_call_of_all (argument e es) = (every_call e, every_call_of_all es)

  -- as many calls left as the tally allows are as good as more
  pub calls_left : (n m : ℕ) → n ≤ m → (t : Tree) (p : ℕ) (ws : List ℕ) (w : Work) → most_calls T ≤ n + w.tally.calls
      → run_on T free n t p ws w ≡ run_on T free m t p ws w
  unfolding run_on
  calls_left zero zero l t p ws w h = refl
  calls_left zero (suc m) l t p ws w h = sym (run_at_last (on_child (run_on T free m) t) (root_symbol t) p ws w (omega arith))
  calls_left (suc n) zero l t p ws w h = absurd (omega arith)
  calls_left (suc n) (suc m) l t p ws w h =
      run_at_alike (on_child (run_on T free n) t) (on_child (run_on T free m) t) (λ c p. Unit {0}) (suc w.tally.calls)
      (child_growing (run_on T free n) (run_on_grown n) t)
      (λ c p vs w₁ any k. child_alike t c p vs w₁ (λ t'. calls_left n m (omega arith) t' p vs w₁ (omega arith)))
      (λ r hr. every_call (right_side T r)) (root_symbol t) p ws w (omega arith)
    where
      child_alike : (t : Tree) (c : Child) (p : ℕ) (vs : List ℕ) (w₁ : Work) → ((t' : Tree) → run_on T free n t' p vs w₁ ≡ run_on T free m t' p vs w₁)
          → on_child (run_on T free n) t c p vs w₁ ≡ on_child (run_on T free m) t c p vs w₁
      child_alike empty left p vs w₁ same = refl
      child_alike empty right p vs w₁ same = refl
      child_alike empty here p vs w₁ same = same empty
      child_alike (node s l r) left p vs w₁ same = same l
      child_alike (node s l r) right p vs w₁ same = same r
      child_alike (node s l r) here p vs w₁ same = same (node s l r)

  -- how many calls a run starts with is of no account, if it is no fewer than may be made
  pub run_calls : (n : ℕ) → most_calls T ≤ n → (t : Tree) → run T free t ≡ run_on T free n t 0 [] (record { tally = record { used = 0; calls = 0 }; rows = [] })
  unfolding run
  run_calls n h t = calls_left _ n (omega arith) t 0 [] _ (omega arith)

module _ (T : Transformation) where
  -- what a search for a stay rule tells
  pub no_stay_found : rule_count T.rules ≤ first_stay T → NoStayRule T
  no_stay_found h r l e = absurd (true≢false (sym (eq-eqb _ _ e) ∙ first_clear (λ r. eqb (rule_at T.rules r).symbol T.symbols) (rule_count T.rules) h r l))

  pub most_with : first_stay T < rule_count T.rules → most_calls T ≡ 4096
  unfolding most_calls
  most_with h = rw (lt-ltb (first_stay T) (rule_count T.rules) h)
