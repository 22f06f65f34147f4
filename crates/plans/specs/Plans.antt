-- Plans: where the tables of a transformation and of a document stand in one.
use Rattle.std.specs.Prelude.{◌≡◌, Bool, List, ℕ, ◌+◌, ◌*◌, ◌<◌, cond, eqb, ltb, length, get_or, Option, Some, None}
use Rattle.std.specs.Option.{option_or}
use Rattle.std.proofs.Math.Seq.{paste}
use Rattle.foundation.specs.Tests.{choose}
use Rattle.foundation.specs.Search.{first}
use Rattle.model.specs.Tables.{Transformation, Node, node_at, node_count, rule_at, rule_count, count_of}
use Rattle.model.specs.Running.{first_rule, most_calls}

-- the most of each that there may be
abbrev pub most_procedures : ℕ
most_procedures = 16

-- the symbols that rules have: those of the transformation, and S, which stay rules have
abbrev pub rule_symbols : ℕ
rule_symbols = 17

abbrev pub most_nodes : ℕ
most_nodes = 256

abbrev pub most_numbers : ℕ
most_numbers = 1023

-- how many entries a table has with one for each procedure and symbol, and which is theirs
abbrev pub entries : ℕ
entries = most_procedures * rule_symbols

abbrev pub entry_of : (procedure symbol : ℕ) → ℕ
entry_of p s = rule_symbols * p + s

-- the places of a plan where the right sides, the nodes, the document's numbers and the ends of its trees begin, those of the stay rules'
-- symbol and of whether there is a stay rule, and its length
abbrev pub sides_place : ℕ
sides_place = most_procedures

abbrev pub nodes_place : ℕ
nodes_place = sides_place + entries

abbrev pub numbers_place : ℕ
numbers_place = nodes_place + 5 * most_nodes

abbrev pub ends_place : ℕ
ends_place = numbers_place + most_numbers

abbrev pub stay_place : ℕ
stay_place = ends_place + most_numbers

abbrev pub flag_place : ℕ
flag_place = stay_place + 1

abbrev pub plan_length : ℕ
plan_length = flag_place + 1

-- a list with another written over it from a place on
abbrev pub overlaid : List ℕ → ℕ → List ℕ → List ℕ
overlaid l at new = paste l at new (length new)

-- the right side of rule r; where there is no such rule, a number that is no node's
abbrev pub side_at : List ℕ → ℕ → ℕ
side_at rules r = choose (ltb r (rule_count rules)) (rule_at rules r).node most_nodes

-- a table of the right sides of the first rules
abbrev pub Sides : List ℕ → List ℕ → Type 0
Sides rules table = (p s : ℕ) → p < most_procedures → s < rule_symbols → get_or table (entry_of p s) 0 ≡ side_at rules (first_rule rules p s)

-- rules that such a table has room for
pub record SmallRules (rules : List ℕ) : Type 0 where
  pub procedure : (r : ℕ) → r < rule_count rules → (rule_at rules r).procedure < most_procedures
  pub symbol : (r : ℕ) → r < rule_count rules → (rule_at rules r).symbol < rule_symbols

-- whether a rule has the stay rules' symbol
abbrev pub has_stay : (stay : ℕ) (rules : List ℕ) → Bool
has_stay S rules = ltb (first (λ r. eqb (rule_at rules r).symbol S) (rule_count rules)) (rule_count rules)

-- whether a rule has the stay rules' symbol: 1 if one has
abbrev pub stay_flag : (stay : ℕ) (rules : List ℕ) → ℕ
stay_flag S rules = choose (ltb (first (λ r. eqb (rule_at rules r).symbol S) (rule_count rules)) (rule_count rules)) 1 0

-- the transformation of these tables, over so many symbols
abbrev pub transformation_of : (S : ℕ) (counts nodes rules : List ℕ) → Transformation
transformation_of S counts nodes rules = record { symbols = S; counts = counts; nodes = nodes; rules = rules }

-- what a plan has: node k
abbrev pub plan_node : List ℕ → ℕ → Node
plan_node plan k =
    record {
      tag = get_or plan (nodes_place + 5 * k) 0;
      name = get_or plan (nodes_place + 5 * k + 1) 0;
      child = get_or plan (nodes_place + 5 * k + 2) 0;
      first = get_or plan (nodes_place + 5 * k + 3) 0;
      second = get_or plan (nodes_place + 5 * k + 4) 0;
    }

-- the right side of the first rule for a procedure and a symbol
abbrev pub plan_side : List ℕ → (procedure symbol : ℕ) → ℕ
plan_side plan p s = get_or plan (sides_place + entry_of p s) 0

-- the same, if there is one
abbrev pub plan_own : List ℕ → (procedure symbol : ℕ) → Option ℕ
plan_own plan p s = cond (ltb (plan_side plan p s) most_nodes) (Some (plan_side plan p s)) None

-- the symbol of the stay rules
abbrev pub plan_stay : List ℕ → ℕ
plan_stay plan = get_or plan stay_place 0

-- the right side that a run takes: the symbol's first, and the first of a stay rule only if there is none
abbrev pub plan_sought : List ℕ → (procedure symbol : ℕ) → Option ℕ
plan_sought plan p s = option_or (plan_own plan p s) (plan_own plan p (plan_stay plan))

-- the same as a number of the plan: that of the symbol where it is a node, else that of the stay rules, whether it is one or not
abbrev pub plan_sought_number : List ℕ → (procedure symbol : ℕ) → ℕ
plan_sought_number plan p s = choose (ltb (plan_side plan p s) most_nodes) (plan_side plan p s) (plan_side plan p (plan_stay plan))

-- how many calls a run makes at most
abbrev pub plan_most : List ℕ → ℕ
plan_most plan = choose (eqb (get_or plan flag_place 0) 1) 4096 65536

-- the tables that a plan has
pub record Laid (T : Transformation) (numbers ends plan : List ℕ) : Type 0 where
  pub count : (p : ℕ) → p < length T.counts → get_or plan p 0 ≡ count_of T.counts p
  pub side : (p s : ℕ) → p < most_procedures → s < rule_symbols → plan_side plan p s ≡ side_at T.rules (first_rule T.rules p s)
  pub node : (k : ℕ) → k < node_count T.nodes → plan_node plan k ≡ node_at T.nodes k
  pub symbol : (i : ℕ) → i < length numbers → get_or plan (numbers_place + i) 0 ≡ get_or numbers i 0
  pub end : (i : ℕ) → i < length numbers → get_or plan (ends_place + i) 0 ≡ get_or ends i 0
  pub stay : plan_stay plan ≡ T.symbols
  pub most : plan_most plan ≡ most_calls T
