-- "The tree is one of the outputs defined above": what a run makes is an output, its rows are as many as it counts, and it
-- refuses for three reasons only.
--
-- The work is followed step by step: a property of what is made, and a known refusal where nothing is. Rows only grow at
-- the end, so that the tree of a row stays what it was when the row was added.
use mathlib.Core.Path.{◌≡◌, refl, ap, sym, subst, ◌∙◌}
use mathlib.Core.Bool.{Bool, true, false}
use mathlib.Core.List.{List, [], ◌∷◌, ◌++◌, map, append_assoc, append-nil}
use Prim.Native.Nat.{ℕ, zero, suc, ◌+◌, ◌*◌, ◌-◌, ◌<◌, ◌≤◌, max}
use native.Mathlib.Nat.{not-suc-le-zero, le_of_suc-le-suc, add-zero}
use native.Mathlib.Omega.{arith}
use lib.Dec.{ltb}
use lib.ListN.{length, get_or, replicate, length-append, get_or-append, length-map}
use lib.Seq.{get_or-append-add}
use borrow.Author.Tests.{ltb-true}
use Rattle.foundation.specs.Tests.{choose}
use Rattle.foundation.specs.Lists.{zero_filled}
use Rattle.model.specs.Trees.{Tree, empty, node, root_symbol, preorder}
use Rattle.model.specs.Tables.{Contract, Transformation, node_at, node_count, rule_at, rule_count, count_of}
use Rattle.model.specs.Expressions.{Child, left, right, here, Expression, parameter, nothing, symbol, call, Arguments, none, argument, arguments_of, expression, greatest_parameter, greatest_of_all}
use Rattle.model.specs.Outputs.{ChildOf, left-of, right_of, itself, RuleFor, of_root, of_any, right_side, Gives, by_rule, Makes, of_parameter, of_nothing, of_symbol, of_call, MakesAll, of_none, of_argument, trees, Output}
use Rattle.model.specs.Answers as answers
use Rattle.model.specs.Answers.{Verdict, fine, refuse_if, ◌then◌, ran, refusal, given}
use Rattle.model.specs.Documents.{numbers_taken, leading_tree}
use Rattle.model.specs.Admission.{admission}
use Rattle.model.specs.Rows.{Row, row_at, row_count, tree_at}
use Rattle.model.specs.Running.{Work, Step, made, refused, ◌after◌, first_rule, most_calls, add_row, count_call, seek_rule, Runs, on_child, evaluate, evaluate_all, run_at, run_on, run, Ran, closing, rows_wrong, running_verdict, running}
use Rattle.model.specs.Refusals.{LeadingDocument}
use Rattle.model.specs.Meaning.{RunRefusal, no_rule, no_row, too_many_calls, RanOutput, RunRefused, IsDocument, RunAlone}
use Rattle.model.specs.Claims.{Admitted}
use Rattle.model.proofs.Laws.Rules.{first_fits}
use Rattle.model.proofs.Laws.Rows.{tree_empty, tree_node, tree_append}
use Rattle.model.proofs.Laws.Answers.{then_fine, given_fine, given_refused}
use Rattle.model.proofs.Laws.Admitted.{established}
use Rattle.model.proofs.Laws.Documents.{ends_taken, ends_fine, reading_followed, leading_tree_followed}
use Rattle.model.proofs.Laws.Expressions.{expression_parameter, expression_nothing, expression_symbol, expression_call}
use Rattle.model.proofs.Laws.Established.{GoodNode, good_parameter, good_nothing, good_symbol, good_call, Established}
use Rattle.model.proofs.Meaning.Verdicts.{fine_document}

-- Expressions that a run can follow: parameters that are there, inner symbols, as many arguments as parameters
unfoldable pub argument_count : Arguments → ℕ
argument_count none = 0
argument_count (argument e es) = suc (argument_count es)

module _ (counts : List ℕ) where
  abbrev mutual
    pub Sound : ℕ → Expression → Type 0
    Sound k (parameter i) = i < k
    Sound k nothing = Unit {0}
    Sound k (symbol s e f) = (1 ≤ s) × Sound k e × Sound k f
    Sound k (call p c es) = (p < length counts) × (argument_count es ≡ count_of counts p) × SoundAll k es

    pub SoundAll : ℕ → Arguments → Type 0
    SoundAll k none = Unit {0}
    SoundAll k (argument e es) = Sound k e × SoundAll k es

module _ {C : Contract} (E : Established C) where
  abbrev counts : List ℕ
  counts = C.transformation.counts

  abbrev nodes : List ℕ
  nodes = C.transformation.nodes

  abbrev at : ℕ → Expression
  at n = expression counts nodes n

  arguments_sound : (k p m : ℕ) → p < length counts → m ≡ count_of counts p → m ≤ 2 → (e f : Expression)
      → (1 ≤ m → greatest_parameter e ≤ k → Sound counts k e)
      → (2 ≤ m → greatest_parameter f ≤ k → Sound counts k f)
      → greatest_of_all (arguments_of m e f) ≤ k
      → (p < length counts) × (argument_count (arguments_of m e f) ≡ count_of counts p) × SoundAll counts k (arguments_of m e f)
  unfolding argument_count greatest_parameter
  arguments_sound k p zero named em few e f se sf h = (named, em, tt)
  arguments_sound k p (suc zero) named em few e f se sf h = (named, em, (se (omega arith) (omega arith), tt))
  arguments_sound k p (suc (suc zero)) named em few e f se sf h = (named, em, (se (omega arith) (omega arith), (sf (omega arith) (omega arith), tt)))
  arguments_sound k p (suc (suc (suc m))) named em few e f se sf h = absurd (omega arith)

  -- the expression of a node is sound
  node_sound : (bound n k : ℕ) → n < bound → n < node_count nodes → greatest_parameter (at n) ≤ k → Sound counts k (at n)
  unfolding greatest_parameter
  node_sound zero n k l h g = absurd (not-suc-le-zero l)
  node_sound (suc bound) n k l h g = by (λ m s. node_sound bound m k (omega arith) (omega arith)) (E.node n h)
    where
      by : ((m : ℕ) → m < n → greatest_parameter (at m) ≤ k → Sound counts k (at m)) → GoodNode C.transformation.symbols counts n (node_at nodes n)
          → Sound counts k (at n)
      by below (good_parameter t a b) =
          let e = expression_parameter counts nodes n t in
          let g' : suc ((node_at nodes n).name - 1) ≤ k = rw e at g in
          rw e g'
      by below (good_nothing t z) = rw (expression_nothing counts nodes n t z) tt
      by below (good_symbol t a b f s) =
          let e = expression_symbol counts nodes n t a f s in
          let g' : max (greatest_parameter (at (node_at nodes n).first)) (greatest_parameter (at (node_at nodes n).second)) ≤ k = rw e at g in
          rw e (a, below (node_at nodes n).first f (omega arith), below (node_at nodes n).second s (omega arith))
      by below (good_call t a b f s) =
          let e = expression_call counts nodes n t (record { first = f; second = s }) in
          let p : ℕ = (node_at nodes n).name in
          rw e
          (arguments_sound k p (count_of counts p) a refl (E.count p) (at (node_at nodes n).first) (at (node_at nodes n).second)
          (λ o. below (node_at nodes n).first (f o)) (λ o. below (node_at nodes n).second (s o)) (rw e at g))

-- The work as it goes

module _ (procedures free most : ℕ) where
  -- what a step comes to: something made with that property, or a known refusal
  abbrev pub Ends : {A : Type 0} → (A → Work → Type 0) → Step A → Type 0
  Ends P (made a w) = P a w
  Ends P (refused number place) = RunRefusal procedures free most number place

  ends_after : {A B : Type 0} (P : A → Work → Type 0) (Q : B → Work → Type 0) (s : Step A) (k : A → Work → Step B) → Ends P s
      → ((a : A) (w : Work) → P a w → Ends Q (k a w))
      → Ends Q (s after k)
  unfolding ◌after◌
  ends_after P Q (made a w) k h f = f a w h
  ends_after P Q (refused number place) k h f = h

  ends_map : {A : Type 0} (P Q : A → Work → Type 0) (s : Step A) → ((a : A) (w : Work) → P a w → Q a w) → Ends P s → Ends Q s
  ends_map P Q (made a w) f h = f a w h
  ends_map P Q (refused number place) f h = h

  -- the tally is right
  pub record Tallied (w : Work) : Type 0 where
    pub rows : 3 * w.tally.used ≡ length w.rows
    pub used : w.tally.used ≤ free
    pub calls : w.tally.calls ≤ most

  -- rows that go on behind those of w
  pub record Extends (w : Work) (rows : List ℕ) : Type 0 where
    pub new : List ℕ
    pub behind : rows ≡ w.rows ++ new

  pub record Went (w w' : Work) : Type 0 where
    pub tallied : Tallied w'
    pub more : w.tally.used ≤ w'.tally.used
    pub extends : Extends w w'.rows

  extends_back : {w w' : Work} {rows : List ℕ} → Extends w w'.rows → Extends w' rows → Extends w rows
  extends_back {w} a b =
      record { new = a.new ++ b.new; behind = b.behind ∙ ap (λ (l : List ℕ). l ++ b.new) a.behind ∙ append_assoc w.rows a.new b.new }

  went_stay : (w : Work) → Tallied w → Went w w
  went_stay w t = record { tallied = t; more = omega arith; extends = record { new = []; behind = sym (append-nil w.rows) } }

  went_on : {w w₁ w₂ : Work} → Went w w₁ → Went w₁ w₂ → Went w w₂
  went_on a b = record { tallied = b.tallied; more = omega (arith, a.more, b.more); extends = extends_back a.extends b.extends }

  -- the parameters are rows that are there
  abbrev Below : ℕ → List ℕ → Type 0
  Below n [] = Unit {0}
  Below n (w ∷ ws) = (w < n) × Below n ws

  below_more : {n m : ℕ} (ws : List ℕ) → n ≤ m → Below n ws → Below m ws
  below_more [] h b = tt
  below_more (w ∷ ws) h b = (omega (arith, b.0), below_more ws h b.1)

  below_at : {n : ℕ} (ws : List ℕ) (i : ℕ) → i < length ws → Below n ws → get_or ws i 0 < n
  below_at [] i h b = absurd (not-suc-le-zero h)
  below_at (w ∷ ws) zero h b = b.0
  below_at (w ∷ ws) (suc i) h b = below_at ws i (le_of_suc-le-suc h) b.1

  mapped_at : (f : ℕ → Tree) (ws : List ℕ) (i : ℕ) → i < length ws → f (get_or ws i 0) ≡ get_or (map f ws) i empty
  mapped_at f [] i h = absurd (not-suc-le-zero h)
  mapped_at f (w ∷ ws) zero h = refl
  mapped_at f (w ∷ ws) (suc i) h = mapped_at f ws i (le_of_suc-le-suc h)

  -- what was done from w on: a row was made, whose tree is an output in any rows that go on behind
  pub record Did (out : List Tree → Tree → Type 0) (ws : List ℕ) (w : Work) (r : ℕ) (w' : Work) : Type 0 where
    pub went : Went w w'
    pub inside : r < w'.tally.used
    pub output : (rows : List ℕ) → Extends w' rows → out (map (tree_at rows) ws) (tree_at rows r)

  pub record DidAll (out : List Tree → List Tree → Type 0) (count : ℕ) (ws : List ℕ) (w : Work) (vs : List ℕ) (w' : Work) : Type 0 where
    pub went : Went w w'
    pub size : length vs ≡ count
    pub inside : Below w'.tally.used vs
    pub outputs : (rows : List ℕ) → Extends w' rows → out (map (tree_at rows) ws) (map (tree_at rows) vs)

  -- a row added
  module _ (s l r : ℕ) (w : Work) (t : Tallied w) where
    abbrev grown : Work
    grown = record { tally = record { used = suc w.tally.used; calls = w.tally.calls }; rows = w.rows ++ (s ∷ l ∷ r ∷ []) }

    went_grown : w.tally.used < free → Went w grown
    went_grown h =
        record {
          tallied = record { rows = simp length-append (omega (arith, t.rows)); used = h; calls = t.calls };
          more = omega arith;
          extends = record { new = s ∷ l ∷ r ∷ []; behind = refl };
        }

    -- is seen in any rows that go on behind it
    seen : (rows : List ℕ) → Extends grown rows → (i : ℕ) → i < 3 → get_or rows (3 * w.tally.used + i) 0 ≡ get_or (s ∷ l ∷ r ∷ []) i 0
    seen rows x i h =
        let e : rows ≡ w.rows ++ ((s ∷ l ∷ r ∷ []) ++ x.new) = x.behind ∙ append_assoc w.rows (s ∷ l ∷ r ∷ []) x.new in
        rw (e, t.rows) (get_or-append-add w.rows ((s ∷ l ∷ r ∷ []) ++ x.new) i 0 ∙ get_or-append (s ∷ l ∷ r ∷ []) x.new 0 i h)

    row_seen : (rows : List ℕ) → Extends grown rows → row_at rows w.tally.used ≡ record { symbol = s; left = l; right = r }
    row_seen rows x =
        rw (rw add-zero at (seen rows x 0 (omega arith)), seen rows x 1 (omega arith), seen rows x 2 (omega arith))

    row_ends : (out : List Tree → Tree → Type 0) (ws : List ℕ)
        → ((rows : List ℕ) → Extends grown rows → out (map (tree_at rows) ws) (tree_at rows w.tally.used))
        → Ends (Did out ws w) (add_row free s l r w)
    unfolding add_row
    row_ends out ws o = go (ltb w.tally.used free) refl
      where
        go : (b : Bool) → ltb w.tally.used free ≡ b → Ends (Did out ws w) (choose b (made w.tally.used grown) (refused 14 free))
        go true e = record { went = went_grown (ltb-true _ _ e); inside = omega arith; output = o }
        go false e = no_row refl refl

  -- the tree of a row of another symbol than 0
  row-tree : (rows : List ℕ) (k s l r : ℕ) → row_at rows k ≡ record { symbol = s; left = l; right = r } → 1 ≤ s → l < k → r < k
      → tree_at rows k ≡ node s (tree_at rows l) (tree_at rows r)
  row-tree rows k s l r e hs hl hr =
      let es : (row_at rows k).symbol ≡ s = ap (λ (row : Row). row.symbol) e in
      let el : (row_at rows k).left ≡ l = ap (λ (row : Row). row.left) e in
      let er : (row_at rows k).right ≡ r = ap (λ (row : Row). row.right) e in
      tree_node rows k (omega arith) (omega arith) (omega arith) ∙ rw (es, el, er)

  -- a procedure with as many rows as it has parameters
  abbrev Fits : List ℕ → ℕ → List ℕ → Type 0
  Fits counts p ws = (p < procedures) × (length ws ≡ count_of counts p)

  -- running procedures gives outputs
  pub record Right (counts : List ℕ) (runs : Runs) (out : ℕ → List Tree → Tree → Type 0) : Type 0 where
    pub right : (p : ℕ) (ws : List ℕ) (w : Work) → Fits counts p ws → Tallied w → Below w.tally.used ws
        → Ends (Did (out p) ws w) (runs p ws w)

  module _ (T : Transformation) (named : length T.counts ≤ procedures) (t : Tree) (runs : Child → Runs)
      (sides : (c : Child) → Right T.counts (runs c) (λ p us u. (t' : Tree) × ChildOf c t t' × Gives T trees p t' us u)) where
    symbol_ends : (s : ℕ) (e f : Expression) (ws : List ℕ) (w : Work) (l : ℕ) (w₁ : Work) (r : ℕ) (w₂ : Work) → 1 ≤ s
        → Did (Makes T trees e t) ws w l w₁
        → Did (Makes T trees f t) ws w₁ r w₂
        → Ends (Did (Makes T trees (symbol s e f) t) ws w) (add_row free s l r w₂)
    symbol_ends s e f ws w l w₁ r w₂ inner d₁ d₂ =
        let tallied = d₂.went.tallied in
        ends_map (Did (Makes T trees (symbol s e f) t) ws w₂) (Did (Makes T trees (symbol s e f) t) ws w) (add_row free s l r w₂)
        (λ x w₃ d. record { went = went_on (went_on d₁.went d₂.went) d.went; inside = d.inside; output = d.output })
        (row_ends s l r w₂ tallied (Makes T trees (symbol s e f) t) ws
        (λ rows x.
        let row = row_seen s l r w₂ tallied rows x in
        let x₂ : Extends w₂ rows = record { new = (s ∷ l ∷ r ∷ []) ++ x.new; behind = x.behind ∙ append_assoc w₂.rows (s ∷ l ∷ r ∷ []) x.new } in
        of_symbol (d₁.output rows (extends_back d₂.went.extends x₂)) (d₂.output rows x₂)
        (row-tree rows w₂.tally.used s l r row inner (omega (arith, d₁.inside, d₂.went.more)) d₂.inside)))

    call_ends : (p : ℕ) (c : Child) (es : Arguments) (ws : List ℕ) (w : Work) (vs : List ℕ) (w₁ : Work) → DidAll (MakesAll T trees es t) (argument_count es) ws w vs w₁
        → Ends (Did (λ us u. (t' : Tree) × ChildOf c t t' × Gives T trees p t' us u) vs w₁) (runs c p vs w₁)
        → Ends (Did (Makes T trees (call p c es) t) ws w) (runs c p vs w₁)
    call_ends p c es ws w vs w₁ d₁ =
        ends_map (Did (λ us u. (t' : Tree) × ChildOf c t t' × Gives T trees p t' us u) vs w₁) (Did (Makes T trees (call p c es) t) ws w) (runs c p vs w₁)
        (λ r w₂ d₂.
        record {
          went = went_on d₁.went d₂.went;
          inside = d₂.inside;
          output = λ rows x.
              let (t', child, gives) = d₂.output rows x in
              of_call child (d₁.outputs rows (extends_back d₂.went.extends x)) gives;
        })

    mutual
      unfolding evaluate argument_count

      evaluate_ends : (e : Expression) (ws : List ℕ) (w : Work) → Sound T.counts (length ws) e → Tallied w → Below w.tally.used ws
          → Ends (Did (Makes T trees e t) ws w) (evaluate T free runs e ws w)
      evaluate_ends (parameter i) ws w sound tallied below =
          record {
            went = went_stay w tallied;
            inside = below_at ws i sound below;
            output = λ rows x. of_parameter {i = i} {ws = map (tree_at rows) ws} (rw length-map sound) (mapped_at (tree_at rows) ws i sound);
          }
      evaluate_ends nothing ws w sound tallied below =
          row_ends 0 0 0 w tallied (Makes T trees nothing t) ws
          (λ rows x. of_nothing (tree_empty rows w.tally.used (ap (λ (row : Row). row.symbol) (row_seen 0 0 0 w tallied rows x))))
      evaluate_ends (symbol s e f) ws w sound tallied below =
          ends_after (Did (Makes T trees e t) ws w) _ _ _ (evaluate_ends e ws w sound.1 tallied below) λ l w₁ d₁.
          ends_after (Did (Makes T trees f t) ws w₁) _ _ _ (evaluate_ends f ws w₁ sound.2 d₁.went.tallied (below_more ws d₁.went.more below)) λ r w₂ d₂.
          symbol_ends s e f ws w l w₁ r w₂ sound.0 d₁ d₂
      evaluate_ends (call p c es) ws w sound tallied below =
          ends_after (DidAll (MakesAll T trees es t) (argument_count es) ws w) _ _ _ (arguments_end es ws w sound.2 tallied below) λ vs w₁ d₁.
          call_ends p c es ws w vs w₁ d₁ ((sides c).right p vs w₁ (omega (arith, sound.0), d₁.size ∙ sound.1) d₁.went.tallied d₁.inside)

      arguments_end : (es : Arguments) (ws : List ℕ) (w : Work) → SoundAll T.counts (length ws) es → Tallied w → Below w.tally.used ws
          → Ends (DidAll (MakesAll T trees es t) (argument_count es) ws w) (evaluate_all T free runs es ws w)
      arguments_end none ws w sound tallied below =
          record { went = went_stay w tallied; size = refl; inside = tt; outputs = λ rows x. of_none refl }
      arguments_end (argument e es) ws w sound tallied below =
          ends_after (Did (Makes T trees e t) ws w) _ _ _ (evaluate_ends e ws w sound.0 tallied below) λ v w₁ d₁.
          ends_after (DidAll (MakesAll T trees es t) (argument_count es) ws w₁) _ _ _
          (arguments_end es ws w₁ sound.1 d₁.went.tallied (below_more ws d₁.went.more below)) λ vs w₂ d₂.
          record {
            went = went_on d₁.went d₂.went;
            size = ap suc d₂.size;
            inside = (omega (arith, d₁.inside, d₂.went.more), d₂.inside);
            outputs = λ rows x. of_argument (d₁.output rows (extends_back d₂.went.extends x)) (d₂.outputs rows x) refl;
          }

  -- a call on a tree
  module _ {C : Contract} (E : Established C) (named : length C.transformation.counts ≤ procedures) (limit : most_calls C.transformation ≡ most) where
    abbrev T : Transformation
    T = C.transformation

    -- the right side of a rule that is for the tree, evaluated after the call is counted
    side_ends : (t : Tree) (runs : Child → Runs)
        → ((c : Child) → Right T.counts (runs c) (λ p us u. (t' : Tree) × ChildOf c t t' × Gives T trees p t' us u))
        → (p : ℕ) (ws : List ℕ) (w : Work) → Fits T.counts p ws → Tallied w → Below w.tally.used ws → w.tally.calls < most
        → (r : ℕ) → r < rule_count T.rules → (rule_at T.rules r).procedure ≡ p → RuleFor T t (rule_at T.rules r).symbol
        → Ends (Did (λ us u. Output T p t us u) ws w)
        (evaluate T free runs (right_side T r) ws (record { tally = record { used = w.tally.used; calls = suc w.tally.calls }; rows = w.rows }))
    side_ends t runs sides p ws w n tallied below few r there ep for =
        let counted : Work = record { tally = record { used = w.tally.used; calls = suc w.tally.calls }; rows = w.rows } in
        let good = E.rule r there in
        let known : greatest_parameter (right_side T r) ≤ length ws = subst (λ (m : ℕ). greatest_parameter (right_side T r) ≤ m) (ap (count_of T.counts) ep ∙ sym n.1) good.parameters in
        let sound : Sound T.counts (length ws) (right_side T r) = node_sound E (suc (rule_at T.rules r).node) (rule_at T.rules r).node (length ws) (omega arith) good.node known in
        ends_map (Did (Makes T trees (right_side T r) t) ws counted) (Did (λ us u. Output T p t us u) ws w) (evaluate T free runs (right_side T r) ws counted)
        (λ x w₂ d.
        record {
          went = record {
            tallied = d.went.tallied;
            more = d.went.more;
            extends = record { new = d.went.extends.new; behind = d.went.extends.behind };
          };
          inside = d.inside;
          output = λ rows y. by_rule r there ep for (d.output rows y);
        })
        (evaluate_ends T named t runs sides (right_side T r) ws counted sound (record { rows = tallied.rows; used = tallied.used; calls = few }) below)

    rule_ends : (t : Tree) (runs : Child → Runs)
        → ((c : Child) → Right T.counts (runs c) (λ p us u. (t' : Tree) × ChildOf c t t' × Gives T trees p t' us u))
        → Right T.counts (run_at T free runs (root_symbol t)) (λ p us u. Output T p t us u)
    unfolding run_at count_call seek_rule ◌after◌
    rule_ends t runs sides = record { right = λ p ws w n tallied below. go p ws w n tallied below (ltb w.tally.calls (most_calls T)) refl }
      where
        go : (p : ℕ) (ws : List ℕ) (w : Work) → Fits T.counts p ws → Tallied w → Below w.tally.used ws
            → (b : Bool) → ltb w.tally.calls (most_calls T) ≡ b
            → Ends (Did (λ us u. Output T p t us u) ws w) (run_at T free runs (root_symbol t) p ws w)
        go p ws w n tallied below false e = rw e (too_many_calls refl limit)
        go p ws w n tallied below true e = rw e (by_root (ltb own (rule_count T.rules)) refl)
          where
            own : ℕ
            own = first_rule T.rules p (root_symbol t)

            stay : ℕ
            stay = first_rule T.rules p T.symbols

            counted : Work
            counted = record { tally = record { used = w.tally.used; calls = suc w.tally.calls }; rows = w.rows }

            few : w.tally.calls < most
            few = omega (arith, ltb-true w.tally.calls (most_calls T) e, limit)

            by_stay : (b : Bool) → ltb stay (rule_count T.rules) ≡ b
                → Ends (Did (λ us u. Output T p t us u) ws w) (choose b (made stay counted) (refused 13 p) after λ r w₂. evaluate T free runs (right_side T r) ws w₂)
            by_stay false e₂ = no_rule refl n.0
            by_stay true e₂ =
                let there : stay < rule_count T.rules = ltb-true stay (rule_count T.rules) e₂ in
                let (ep, es) = first_fits T.rules p T.symbols there in
                side_ends t runs sides p ws w n tallied below few stay there ep (of_any es)

            by_root : (b : Bool) → ltb own (rule_count T.rules) ≡ b
                → Ends (Did (λ us u. Output T p t us u) ws w)
                (choose b (made own counted) (choose (ltb stay (rule_count T.rules)) (made stay counted) (refused 13 p)) after λ r w₂. evaluate T free runs (right_side T r) ws w₂)
            by_root false e₂ = by_stay (ltb stay (rule_count T.rules)) refl
            by_root true e₂ =
                let there : own < rule_count T.rules = ltb-true own (rule_count T.rules) e₂ in
                let (ep, es) = first_fits T.rules p (root_symbol t) there in
                side_ends t runs sides p ws w n tallied below few own there ep (of_root es)

    -- a call on the tree that a call goes to
    moved : (runs : Tree → Runs) → ((t : Tree) → Right T.counts (runs t) (λ p us u. Output T p t us u))
        → {c : Child} {t t' : Tree} → ChildOf c t t'
        → Right T.counts (runs t') (λ p us u. (t'' : Tree) × ChildOf c t t'' × Gives T trees p t'' us u)
    moved runs ends {t' = t'} child =
        record {
          right = λ p ws w n tallied below.
              ends_map _ _ (runs t' p ws w) (λ x w₂ d. record { went = d.went; inside = d.inside; output = λ rows y. (t', child, d.output rows y) })
              ((ends t').right p ws w n tallied below);
        }

    child_ends : (runs : Tree → Runs) → ((t : Tree) → Right T.counts (runs t) (λ p us u. Output T p t us u))
        → (t : Tree) (c : Child) → Right T.counts (on_child runs t c) (λ p us u. (t' : Tree) × ChildOf c t t' × Gives T trees p t' us u)
    child_ends runs ends empty left = record { right = λ p ws w n tallied below. no_rule refl n.0 }
    child_ends runs ends empty right = record { right = λ p ws w n tallied below. no_rule refl n.0 }
    child_ends runs ends empty here = moved runs ends itself
    child_ends runs ends (node s l r) left = moved runs ends left-of
    child_ends runs ends (node s l r) right = moved runs ends right_of
    child_ends runs ends (node s l r) here = moved runs ends itself

    tree_ends : (n : ℕ) (t : Tree) → Right T.counts (run_on T free n t) (λ p us u. Output T p t us u)
    unfolding run_on
    tree_ends zero t = record { right = λ p ws w n tallied below. too_many_calls refl limit }
    tree_ends (suc n) t = record { right = (rule_ends t (on_child (run_on T free n) t) (child_ends (run_on T free n) (tree_ends n) t)).right }

-- "The tree is one of the outputs defined above."
pub record RunOutput (T : Transformation) (free : ℕ) (t : Tree) (root : ℕ) (w : Work) : Type 0 where
  pub output : Output T 0 t [] (tree_at w.rows root)
  pub rows : 3 * w.tally.used ≡ length w.rows
  pub used : w.tally.used ≤ free
  pub calls : w.tally.calls ≤ most_calls T
  pub inside : root < w.tally.used

module _ (C : Contract) (E : Established C) (free : ℕ) (t : Tree) where
  abbrev procedures : ℕ
  procedures = length C.transformation.counts

  abbrev most : ℕ
  most = most_calls C.transformation

  ends : Ends procedures free most (Did procedures free most (λ us u. Output C.transformation 0 t us u) [] (record { tally = record { used = 0; calls = 0 }; rows = [] })) (run C.transformation free t)
  unfolding run
  ends =
      (tree_ends procedures free most E (omega arith) refl most t).right 0 [] (record { tally = record { used = 0; calls = 0 }; rows = [] }) (E.procedures.least≤, sym E.start)
      (record { rows = refl; used = omega arith; calls = omega arith }) tt

  pub run_output : (root : ℕ) (w : Work) → run C.transformation free t ≡ made root w → RunOutput C.transformation free t root w
  run_output root w e =
      let d = rw e at ends in
      record {
        output = d.output w.rows (record { new = []; behind = sym (append-nil w.rows) });
        rows = d.went.tallied.rows;
        used = d.went.tallied.used;
        calls = d.went.tallied.calls;
        inside = d.inside;
      }

  pub run_refusal : (number place : ℕ) → run C.transformation free t ≡ refused number place → RunRefusal (length C.transformation.counts) free (most_calls C.transformation) number place
  run_refusal number place e = rw e at ends

-- The whole operation

module _ (C : Contract) (numbers buffer : List ℕ) where
  abbrev S : ℕ
  S = C.transformation.symbols

  -- the work on the document that the numbers begin with
  abbrev work : Step ℕ
  work = run C.transformation (row_count buffer) (leading_tree S numbers)

  -- what running gives for each verdict
  passed : running_verdict C numbers buffer ≡ fine → running C numbers buffer ≡ closing (length buffer) (numbers_taken S numbers) work
  unfolding running
  passed e = given_fine _ _ (running_verdict C numbers buffer) e

  turned_away : (number place : ℕ) → running_verdict C numbers buffer ≡ answers.refused number place
      → running C numbers buffer ≡ record { answer = refusal number place; rows = buffer }
  unfolding running
  turned_away number place e = given_refused _ _ (running_verdict C numbers buffer) number place e

  module _ (root used taken : ℕ) where
    closing_output : Established C → LeadingDocument S numbers (leading_tree S numbers) (numbers_taken S numbers) → (s : Step ℕ) → work ≡ s
        → running C numbers buffer ≡ closing (length buffer) (numbers_taken S numbers) s
        → (closing (length buffer) (numbers_taken S numbers) s).answer ≡ ran root used taken
        → RanOutput C numbers buffer root used taken
    unfolding closing zero_filled
    closing_output E d (refused number place) e ends answer = absurd (let z : ◌≡◌ {A = ℕ} 0 1 = cc in omega arith)
    closing_output E d (made top w) e ends answer =
        let er : top ≡ root = cc in
        let eu : w.tally.used ≡ used = cc in
        let et : numbers_taken S numbers ≡ taken = cc in
        let o = run_output C E (row_count buffer) (leading_tree S numbers) top w e in
        let rows : (running C numbers buffer).rows ≡ w.rows ++ replicate (length buffer - length w.rows) 0 = ap (λ (r : Ran). r.rows) ends in
        record {
          document = leading_tree S numbers;
          leads = rw et at d;
          output = rw (rows, ← er, tree_append w.rows (replicate (length buffer - length w.rows) 0) top (omega (arith, o.inside, o.rows))) o.output;
          inside = omega (arith, o.inside);
          room = omega (arith, o.used);
        }

    -- "Otherwise root row and rows used come back, unused rows 0. The tree is one of the outputs defined above."
    pub running_output : (running C numbers buffer).answer ≡ ran root used taken → RanOutput C numbers buffer root used taken
    unfolding running_verdict
    running_output answer = go (running_verdict C numbers buffer) refl
      where
        go : (v : Verdict) → running_verdict C numbers buffer ≡ v → RanOutput C numbers buffer root used taken
        go (answers.refused number place) e =
            let said : refusal number place ≡ ran root used taken = sym (ap (λ (r : Ran). r.answer) (turned_away number place e)) ∙ answer in
            absurd (let z : ◌≡◌ {A = ℕ} 0 1 = cc in omega arith)
        go fine e =
            let (admitted, rest) = then_fine (admission C) _ e in
            let (room, read) = then_fine _ _ rest in
            closing_output (established C admitted) (fine_document S numbers read) work refl (passed e)
            (sym (ap (λ (r : Ran). r.answer) (passed e)) ∙ answer)

  -- "Whichever comes first in that order of work is given, and the buffer is then all 0."
  pub running_refusal : (number place : ℕ) → running_verdict C numbers buffer ≡ fine → (running C numbers buffer).answer ≡ refusal number place
      → RunRefused C numbers buffer number place
  unfolding running_verdict closing
  running_refusal number place fits answer = go work refl
    where
      told : (closing (length buffer) (numbers_taken S numbers) work).answer ≡ refusal number place
      told = sym (ap (λ (r : Ran). r.answer) (passed fits)) ∙ answer

      go : (s : Step ℕ) → work ≡ s → RunRefused C numbers buffer number place
      go (made root w) e =
          let said : ran root w.tally.used (numbers_taken S numbers) ≡ refusal number place = rw e at told in
          absurd (let z : ◌≡◌ {A = ℕ} 0 1 = cc in omega arith)
      go (refused n p) e =
          let said : refusal n p ≡ refusal number place = rw e at told in
          let en : n ≡ number = cc in
          let ep : p ≡ place = cc in
          let (admitted, rest) = then_fine (admission C) _ fits in
          record {
            reason = rw (en, ep) at (run_refusal C (established C admitted) (row_count buffer) (leading_tree S numbers) n p e);
            cleared = ap (λ (r : Ran). r.rows) (passed fits) ∙ rw e;
          }

-- a document is run as it is alone, whatever follows it
module _ (C : Contract) (t : Tree) (buffer : List ℕ) (good : Admitted C) (document : IsDocument C t) where
  document_run : (rest : List ℕ)
      → running C (preorder t ++ rest) buffer
      ≡ given (admission C then refuse_if (rows_wrong (length buffer)) 9 0 then fine)
      (λ number place. record { answer = refusal number place; rows = buffer })
      (closing (length buffer) (length (preorder t)) (run C.transformation (row_count buffer) t))
  unfolding running running_verdict
  document_run rest =
      let symbols : ℕ = C.transformation.symbols in
      let some : 1 ≤ symbols = (established C good).symbols.least≤ in
      let read = reading_followed symbols t rest some document.0 document.1 in
      rw (ends_fine symbols _ _ read, ends_taken symbols _ _ read, leading_tree_followed symbols t rest some document.0 document.1)

pub run_alone : (C : Contract) (t : Tree) (rest buffer : List ℕ) → RunAlone C t rest buffer
run_alone C t rest buffer good document =
    document_run C t buffer good document rest ∙ sym (rw (append-nil (preorder t)) at (document_run C t buffer good document []))
