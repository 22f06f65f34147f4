-- Marks on nodes: those of a symbol's rules, and whatever a marked node refers to.
use Rattle.std.specs.Prelude.{◌≡◌, refl, List, Bool, true, false, eqb, leb, length, get_or, set}
use Rattle.std.proofs.Common.{ap, sym, ◌∙◌, arith, length-set, get_or-set_same, get_or-set_other}
use Prim.Native.Nat.{ℕ, suc, ◌+◌, ◌<◌, ◌≤◌}
use Rattle.std.proofs.Math.Decide.{ℕ_discrete, dec_lt}
use borrow.Author.Tests.{eq-eqb, ne_eqb, le-leb, leb-true}
use Rattle.std.proofs.Math.Seq.{set_out}
use Rattle.foundation.specs.Tests.{choose}
use Rattle.model.specs.Tables.{Contract, Node, input_row, input_row_count, node_at, node_count, rule_at, rule_count}
use Rattle.model.specs.Admission.{references}
use Rattle.kind_words.specs.Sizes.{rule_symbols, most_rows, most_rules}
use Rattle.kind_words.specs.Chains.{NextFrom}
use Rattle.model.proofs.Laws.Established.{Established, GoodNode, GoodNodes, good_parameter, good_nothing, good_symbol, good_call}

-- the rules of an admitted contract
pub record RulesGood (nodes rules : List ℕ) : Type 0 where
  pub node : (r : ℕ) → r < rule_count rules → (rule_at rules r).node < node_count nodes
  pub symbol : (r : ℕ) → r < rule_count rules → (rule_at rules r).symbol < rule_symbols
  pub few : rule_count rules ≤ most_rules

-- and its input rows
pub record RowsGood (rows : List ℕ) : Type 0 where
  pub symbol : (r : ℕ) → r < input_row_count rows → (input_row rows r).symbol < rule_symbols
  pub few : input_row_count rows ≤ most_rows

pub rules-good : (C : Contract) → Established C → RulesGood C.transformation.nodes C.transformation.rules
rules-good C known =
    record {
      node = λ r h. (known.rule r h).node;
      symbol = λ r h. omega (arith, (known.rule r h).symbol, known.symbols.≤most);
      few = known.rules.few;
    }

pub rows_good : (C : Contract) → Established C → RowsGood C.input.rows
rows_good C known =
    record { symbol = λ r h. omega (arith, (known.input_row r h).symbol, known.symbols.≤most); few = known.input_rows.few }

abbrev pub Marked : List ℕ → ℕ → Type 0
Marked marks n = get_or marks n 0 ≡ 1

unfoldable pub marked_if : Bool → List ℕ → ℕ → List ℕ
marked_if used marks n = choose used (set marks n 1) marks

-- one for a mark
abbrev pub counted : ℕ → ℕ
counted mark = choose (eqb mark 1) 1 0

-- what node n refers to is marked, if it is
unfoldable pub referred_marked : (counts nodes marks : List ℕ) → ℕ → List ℕ
referred_marked counts nodes marks n =
    choose (eqb (get_or marks n 0) 1)
    (marked_if (leb 2 (references counts (node_at nodes n))) (marked_if (leb 1 (references counts (node_at nodes n))) marks (node_at nodes n).first) (node_at nodes n).second)
    marks

-- more marks
abbrev pub Grows : List ℕ → List ℕ → Type 0
Grows marks more = (j : ℕ) → Marked marks j → Marked more j

pub record ReferredMarked (counts nodes marks : List ℕ) (n : ℕ) : Type 0 where
  pub first : 1 ≤ references counts (node_at nodes n) → Marked marks (node_at nodes n).first
  pub second : 2 ≤ references counts (node_at nodes n) → Marked marks (node_at nodes n).second

-- what the marked nodes from n on refer to is marked
pub record Closed (counts nodes : List ℕ) (n : ℕ) (before marks : List ℕ) : Type 0 where
  pub long : node_count nodes ≤ length marks
  pub grows : Grows before marks
  pub referred : (m : ℕ) → n ≤ m → m < node_count nodes → Marked marks m → ReferredMarked counts nodes marks m

-- the nodes of the first n rules, where they are rules for s
pub record RulesMarked (rules : List ℕ) (s n : ℕ) (marks : List ℕ) : Type 0 where
  pub marked : (r : ℕ) → r < n → (rule_at rules r).symbol ≡ s → Marked marks (rule_at rules r).node

mark_length : (used : Bool) (marks : List ℕ) (n : ℕ) → length (marked_if used marks n) ≡ length marks
unfolding marked_if
mark_length true marks n = length-set marks n 1
mark_length false marks n = refl

mark_grows : (used : Bool) (marks : List ℕ) (n : ℕ) → Grows marks (marked_if used marks n)
unfolding marked_if
mark_grows false marks n j h = h
mark_grows true marks n j h = go (ℕ_discrete j n) (dec_lt n (length marks))
  where
    go : Dec (j ≡ n) → Dec (n < length marks) → Marked (set marks n 1) j
    go (yes e) (yes l) = rw e (get_or-set_same marks n 1 0 l)
    go (yes e) (no l) = rw (set_out marks n 1 (omega arith)) h
    go (no ne) d = get_or-set_other marks n j 1 0 ne ∙ h

mark_done : (used : Bool) (marks : List ℕ) (n : ℕ) → used ≡ true → n < length marks → Marked (marked_if used marks n) n
unfolding marked_if
mark_done true marks n e l = get_or-set_same marks n 1 0 l
mark_done false marks n e l = absurd (never e)
  where
    never : false ≡ true → ⊥
    never e = Rattle.foundation.specs.Tests.false_test true (sym e) tt

mark_keeps : (used : Bool) (marks : List ℕ) (n j : ℕ) → (used ≡ true → n < j) → get_or (marked_if used marks n) j 0 ≡ get_or marks j 0
unfolding marked_if
mark_keeps true marks n j h = let l : n < j = h refl in get_or-set_other marks n j 1 0 (λ e. omega arith)
mark_keeps false marks n j h = refl

-- one rule more, and those after it up to the next rule of its symbol
pub rule_marked : (rules : List ℕ) (s r k : ℕ) (marks more : List ℕ) → RulesMarked rules s r marks → (rule_at rules r).node < length marks
    → more ≡ marked_if true marks (rule_at rules r).node
    → NextFrom (λ i. (rule_at rules i).symbol) (rule_count rules) s (r + 1) k
    → RulesMarked rules s k more
rule_marked rules s r k marks more h small e next =
    rw e
    (record { marked = λ i l t. go i l t (ℕ_discrete i r) (dec_lt i r) })
  where
    go : (i : ℕ) → i < k → (rule_at rules i).symbol ≡ s → Dec (i ≡ r) → Dec (i < r) → Marked (marked_if true marks (rule_at rules r).node) (rule_at rules i).node
    go i l t (yes q) d = rw q (mark_done true marks (rule_at rules r).node refl small)
    go i l t (no ne) (yes b) = mark_grows true marks (rule_at rules r).node (rule_at rules i).node (h.marked i b t)
    go i l t (no ne) (no nb) = absurd (next.none i (omega arith) l t)

-- up to the first rule of a symbol nothing is to be marked
pub no_rules_marked : (rules : List ℕ) (s k : ℕ) (marks : List ℕ) → NextFrom (λ i. (rule_at rules i).symbol) (rule_count rules) s 0 k
    → RulesMarked rules s k marks
no_rules_marked rules s k marks next = record { marked = λ r h e. absurd (next.none r (omega arith) h e) }

-- a node refers to smaller nodes
module _ {counts nodes : List ℕ} (good : GoodNodes counts nodes) (n : ℕ) (hn : n < node_count nodes) where
  abbrev node : Node
  node = node_at nodes n

  none_referred : (k : ℕ) → references counts node ≡ 0 → 1 ≤ k → k ≤ references counts node → ⊥
  none_referred k e l h = omega arith

  pub first_smaller : 1 ≤ references counts node → node.first < n
  first_smaller h = go (good.node n hn)
    where
      go : GoodNode good.symbols counts n node → node.first < n
      go (good_parameter t a b) =
          absurd (none_referred 1 (rw (ne_eqb node.tag 1 (λ e. omega arith), ne_eqb node.tag 2 (λ e. omega arith))) (omega arith) h)
      go (good_nothing t z) = absurd (none_referred 1 (rw (eq-eqb node.tag 1 t, eq-eqb node.name 0 z)) (omega arith) h)
      go (good_symbol t a b c d) = c
      go (good_call t a b c d) = c (rw (ne_eqb node.tag 1 (λ e. omega arith), eq-eqb node.tag 2 t) at h)

  pub second_smaller : 2 ≤ references counts node → node.second < n
  second_smaller h = go (good.node n hn)
    where
      go : GoodNode good.symbols counts n node → node.second < n
      go (good_parameter t a b) =
          absurd (none_referred 2 (rw (ne_eqb node.tag 1 (λ e. omega arith), ne_eqb node.tag 2 (λ e. omega arith))) (omega arith) h)
      go (good_nothing t z) = absurd (none_referred 2 (rw (eq-eqb node.tag 1 t, eq-eqb node.name 0 z)) (omega arith) h)
      go (good_symbol t a b c d) = d
      go (good_call t a b c d) = d (rw (ne_eqb node.tag 1 (λ e. omega arith), eq-eqb node.tag 2 t) at h)

  -- one node more: what it refers to is below it, so that no mark from it on changes
  pub closed_more : (before marks more : List ℕ) → Closed counts nodes (suc n) before marks → more ≡ referred_marked counts nodes marks n
      → Closed counts nodes n before more
  unfolding referred_marked
  closed_more before marks more h e = go (ℕ_discrete (get_or marks n 0) 1)
    where
      k : ℕ
      k = references counts node

      once : List ℕ
      once = marked_if (leb 1 k) marks node.first

      twice : List ℕ
      twice = marked_if (leb 2 k) once node.second

      kept : (j : ℕ) → n ≤ j → get_or twice j 0 ≡ get_or marks j 0
      kept j l =
          mark_keeps (leb 2 k) once node.second j (λ t. omega (arith, second_smaller (leb-true 2 k t)))
          ∙ mark_keeps (leb 1 k) marks node.first j (λ t. omega (arith, first_smaller (leb-true 1 k t)))

      grown : Grows marks twice
      grown j m = mark_grows (leb 2 k) once node.second j (mark_grows (leb 1 k) marks node.first j m)

      more_referred : (m : ℕ) → ReferredMarked counts nodes marks m → ReferredMarked counts nodes twice m
      more_referred m r = record { first = λ l. grown _ (r.first l); second = λ l. grown _ (r.second l) }

      own : ReferredMarked counts nodes twice n
      own =
          record {
            first = λ l.
                mark_grows (leb 2 k) once node.second _
                (mark_done (leb 1 k) marks node.first (le-leb 1 k l) (omega (arith, first_smaller l, h.long)));
            second = λ l.
                mark_done (leb 2 k) once node.second (le-leb 2 k l)
                (rw (mark_length (leb 1 k) marks node.first) (omega (arith, second_smaller l, h.long)));
          }

      at : (m : ℕ) → n ≤ m → m < node_count nodes → Marked twice m → Dec (m ≡ n) → ReferredMarked counts nodes twice m
      at m l hm t (yes q) = rw q own
      at m l hm t (no ne) = more_referred m (h.referred m (omega arith) hm (sym (kept m l) ∙ t))

      unmarked : (get_or marks n 0 ≡ 1 → ⊥) → (m : ℕ) → n ≤ m → m < node_count nodes → Marked marks m → Dec (m ≡ n) → ReferredMarked counts nodes marks m
      unmarked u m l hm t (yes q) = absurd (u (ap (λ (x : ℕ). get_or marks x 0) (sym q) ∙ t))
      unmarked u m l hm t (no ne) = h.referred m (omega arith) hm t

      go : Dec (get_or marks n 0 ≡ 1) → Closed counts nodes n before more
      go (yes t) =
          rw (e, eq-eqb (get_or marks n 0) 1 t)
          (record {
            long = rw (mark_length (leb 2 k) once node.second, mark_length (leb 1 k) marks node.first) h.long;
            grows = λ j m. grown j (h.grows j m);
            referred = λ m l hm u. at m l hm u (ℕ_discrete m n);
          })
      go (no u) =
          rw (e, ne_eqb (get_or marks n 0) 1 u)
          (record { long = h.long; grows = h.grows; referred = λ m l hm t. unmarked u m l hm t (ℕ_discrete m n) })

pub closed_none : (counts nodes : List ℕ) (n : ℕ) (marks : List ℕ) → node_count nodes ≤ n → node_count nodes ≤ length marks → Closed counts nodes n marks marks
closed_none counts nodes n marks h long = record { long = long; grows = λ j m. m; referred = λ m l hm t. absurd (omega arith) }

module _ (counts nodes marks : List ℕ) (n : ℕ) where
  -- a marked node, of k references
  pub referred_taken : (k first second : ℕ) → get_or marks n 0 ≡ 1 → k ≡ references counts (node_at nodes n) → first ≡ (node_at nodes n).first
      → second ≡ (node_at nodes n).second
      → marked_if (leb 2 k) (marked_if (leb 1 k) marks first) second ≡ referred_marked counts nodes marks n
  unfolding referred_marked
  referred_taken k first second t ek ef es = rw (ek, ef, es, eq-eqb (get_or marks n 0) 1 t)

  -- any other
  pub referred_kept : (get_or marks n 0 ≡ 1 → ⊥) → marks ≡ referred_marked counts nodes marks n
  unfolding referred_marked
  referred_kept t = rw (ne_eqb (get_or marks n 0) 1 t)
