-- The marked nodes on a list, in ascending order: whatever is marked below a node of the list stands before it.
use Rattle.std.specs.Prelude.{◌≡◌, refl, List, ℕ, suc, ◌+◌, ◌*◌, ◌-◌, ◌<◌, ◌≤◌, length, get_or, set, Bool, true, false, eqb}
use Rattle.std.proofs.Common.{ap, subst, sym, ◌∙◌, arith, eq-eqb, ne_eqb, length-set, get_or-set_same, get_or-set_other}
use Rattle.std.proofs.Math.Decide.{ℕ_discrete}
use Rattle.model.specs.Tables.{input_row, input_row_count, node_count, rule_at, rule_count}
use Rattle.model.proofs.Laws.Established.{GoodNodes}
use Rattle.kind_words.specs.Sizes.{rule_symbols, list_lengths, first_rules, first_rows, next_rules, next_rows}
use Rattle.kind_words.specs.Listed.{at, Before, ListOf, before_same, list_same}
use Rattle.kind_words.specs.Chains.{chained_same}
use Rattle.kind_words.specs.Kind.{listed, list_length, list_of, ListInside, with_list, list_length_lem, list_at, ListsFor, RulesChained}
use Rattle.chains.specs.Chaining.{Chaining}
use Rattle.reaching.specs.Marks.{Marked, counted, Closed, RulesMarked, RulesGood, first_smaller, second_smaller}
use Rattle.foundation.specs.Tests.{choose}

-- place i of a list that starts at a place
abbrev pub from : List ℕ → ℕ → ℕ → ℕ
from reached start i = get_or reached (start + i) 0

-- the marked nodes below n are the k nodes on the list
pub record Listing (marks before reached : List ℕ) (start n k : ℕ) : Type 0 where
  pub long : length reached ≡ length before
  pub few : k ≤ n
  pub below : (i : ℕ) → i < k → from reached start i < n
  pub is_marked : (i : ℕ) → i < k → Marked marks (from reached start i)
  pub all : (m : ℕ) → m < n → Marked marks m → Before (from reached start) k m
  pub ascending : (i : ℕ) → i < k → (m : ℕ) → m < from reached start i → Marked marks m → Before (from reached start) i m
  pub kept : (j : ℕ) → j < start → get_or reached j 0 ≡ get_or before j 0

pub listing_none : (marks reached : List ℕ) (start : ℕ) → Listing marks reached reached start 0 0
listing_none marks reached start =
    record {
      long = refl;
      few = omega arith;
      below = λ i h. absurd (omega arith);
      is_marked = λ i h. absurd (omega arith);
      all = λ m h. absurd (omega arith);
      ascending = λ i h. absurd (omega arith);
      kept = λ j h. refl;
    }

module _ (marks before reached : List ℕ) (start n k : ℕ) (h : Listing marks before reached start n k) (room : start + k < length before) where
  abbrev next : List ℕ
  next = set reached (start + k) n

  same_place : (i : ℕ) → i < k → from next start i ≡ from reached start i
  same_place i l = get_or-set_other reached (start + k) (start + i) n 0 (λ e. omega arith)

  new_place : from next start k ≡ n
  new_place = get_or-set_same reached (start + k) n 0 (omega (arith, h.long))

  still_before : (i m : ℕ) → i ≤ k → Before (from reached start) i m → Before (from next start) i m
  still_before i m l b = record { at = b.at; less = b.less; eq = same_place b.at (omega (arith, b.less)) ∙ b.eq }

  kept_below : (j : ℕ) → j < start → get_or next j 0 ≡ get_or before j 0
  kept_below j l = get_or-set_other reached (start + k) j n 0 (λ e. omega arith) ∙ h.kept j l

  later : (i m : ℕ) → Before (from next start) k m → Before (from next start) (k + 1) m
  later i m b = record { at = b.at; less = omega (arith, b.less); eq = b.eq }

  -- a marked node goes on the list
  with_marked : Marked marks n → Listing marks before next start (n + 1) (k + 1)
  with_marked t =
      record {
        long = length-set reached (start + k) n ∙ h.long;
        few = omega (arith, h.few);
        below = λ i l. below_at i l (ℕ_discrete i k);
        is_marked = λ i l. marked_at i l (ℕ_discrete i k);
        all = λ m l u. all_at m l u (ℕ_discrete m n);
        ascending = λ i l m a u. ascending_at i l m a u (ℕ_discrete i k);
        kept = kept_below;
      }
    where
      below_at : (i : ℕ) → i < k + 1 → Dec (i ≡ k) → from next start i < n + 1
      below_at i l (yes e) = rw (e, new_place) (omega arith)
      below_at i l (no ne) = let l' : i < k = omega arith in omega (arith, same_place i l', h.below i l')

      marked_at : (i : ℕ) → i < k + 1 → Dec (i ≡ k) → Marked marks (from next start i)
      marked_at i l (yes e) = rw (e, new_place) t
      marked_at i l (no ne) = let l' : i < k = omega arith in rw (same_place i l') (h.is_marked i l')

      all_at : (m : ℕ) → m < n + 1 → Marked marks m → Dec (m ≡ n) → Before (from next start) (k + 1) m
      all_at m l u (yes e) = record { at = k; less = omega arith; eq = new_place ∙ sym e }
      all_at m l u (no ne) = later k m (still_before k m (omega arith) (h.all m (omega arith) u))

      ascending_at : (i : ℕ) → i < k + 1 → (m : ℕ) → m < from next start i → Marked marks m → Dec (i ≡ k) → Before (from next start) i m
      ascending_at i l m a u (yes e) =
          let a' : m < n = omega (arith, ap (from next start) e, new_place) in
          subst (λ (x : ℕ). Before (from next start) x m) (sym e) (still_before k m (omega arith) (h.all m a' u))
      ascending_at i l m a u (no ne) =
          let l' : i < k = omega arith in
          still_before i m (omega arith) (h.ascending i l' m (omega (arith, same_place i l')) u)

  -- another does not
  without_marked : (Marked marks n → ⊥) → Listing marks before next start (n + 1) k
  without_marked t =
      record {
        long = length-set reached (start + k) n ∙ h.long;
        few = omega (arith, h.few);
        below = λ i l. omega (arith, same_place i l, h.below i l);
        is_marked = λ i l. rw (same_place i l) (h.is_marked i l);
        all = λ m l u. all_at m l u (ℕ_discrete m n);
        ascending = λ i l m a u. still_before i m (omega arith) (h.ascending i l m (omega (arith, same_place i l)) u);
        kept = kept_below;
      }
    where
      all_at : (m : ℕ) → m < n + 1 → Marked marks m → Dec (m ≡ n) → Before (from next start) k m
      all_at m l u (yes e) = absurd (t (ap (λ (x : ℕ). get_or marks x 0) (sym e) ∙ u))
      all_at m l u (no ne) = still_before k m (omega arith) (h.all m (omega arith) u)

  pub listing_more : (entry one : ℕ) → entry ≡ n → one ≡ counted (get_or marks n 0) → Listing marks before (set reached (start + k) entry) start (n + 1) (k + one)
  listing_more entry one en eo = rw (en, eo) (go (ℕ_discrete (get_or marks n 0) 1))
    where
      go : Dec (get_or marks n 0 ≡ 1) → Listing marks before next start (n + 1) (k + counted (get_or marks n 0))
      go (yes t) = rw (eq-eqb (get_or marks n 0) 1 t) (with_marked t)
      go (no t) =
          let z : k + 0 ≡ k = omega arith in
          rw (ne_eqb (get_or marks n 0) 1 t) (rw z (without_marked t))

-- the nodes that the rules for symbol s reach, from a place on
pub record SymbolListed (counts nodes rules : List ℕ) (s start : ℕ) (before lists : List ℕ) (n : ℕ) : Type 0 where
  pub long : length lists ≡ length before
  pub few : n ≤ node_count nodes
  pub list : ListOf counts nodes (from lists start) n
  pub on_list : (r : ℕ) → r < rule_count rules → (rule_at rules r).symbol ≡ s → Before (from lists start) n (rule_at rules r).node
  pub kept : (j : ℕ) → j < start → get_or lists j 0 ≡ get_or before j 0

-- from marks that are closed, with the nodes of the rules among them
pub symbol_listed : (counts nodes rules : List ℕ) (s start : ℕ) (rule_marks marks before lists : List ℕ) (n : ℕ) → GoodNodes counts nodes → RulesGood nodes rules
    → RulesMarked rules s (rule_count rules) rule_marks
    → Closed counts nodes 0 rule_marks marks
    → Listing marks before lists start (node_count nodes) n
    → SymbolListed counts nodes rules s start before lists n
symbol_listed counts nodes rules s start rule_marks marks before lists n good rules_good marked closed h =
    record {
      long = h.long;
      few = h.few;
      list =
          record {
            is_node = h.below;
            after = λ i l.
                let r = closed.referred (from lists start i) (omega arith) (h.below i l) (h.is_marked i l) in
                record {
                  first = λ k. h.ascending i l _ (first_smaller good _ (h.below i l) k) (r.first k);
                  second = λ k. h.ascending i l _ (second_smaller good _ (h.below i l) k) (r.second k);
                };
          };
      on_list = λ r l e. h.all (rule_at rules r).node (rules_good.node r l) (closed.grows _ (marked.marked r l e));
      kept = h.kept;
    }

-- a symbol without rules
pub none_listed : (counts nodes rules : List ℕ) (s start : ℕ) (lists : List ℕ) → RulesChained rules lists → s < rule_symbols
    → (get_or lists (first_rules + s) 0 < rule_count rules → ⊥)
    → SymbolListed counts nodes rules s start lists lists 0
none_listed counts nodes rules s start lists chained small none =
    record {
      long = refl;
      few = omega arith;
      list = record { is_node = λ i l. absurd (omega arith); after = λ i l. absurd (omega arith) };
      on_list = λ r l e. absurd ((chained.first s small).none r (omega arith) (omega arith) e);
      kept = λ j l. refl;
    }

pub counted_small : (mark : ℕ) → counted mark ≤ 1
counted_small mark = go (eqb mark 1)
  where
    go : (b : Bool) → choose b 1 0 ≤ 1
    go true = omega arith
    go false = omega arith

-- the lists of the symbols below s, one after another from a place on; what stands before that place, from the first rules on, is kept
pub record ListedTo (counts nodes rules : List ℕ) (start s end : ℕ) (before lists : List ℕ) : Type 0 where
  pub long : length lists ≡ length before
  pub after : start ≤ end
  pub room : end + (rule_symbols - s) * node_count nodes ≤ length before
  pub begins : (t : ℕ) → t < s → start ≤ get_or lists t 0
  pub inside : (t : ℕ) → t < s → get_or lists t 0 + list_length lists t ≤ end
  pub list : (t : ℕ) → t < s → ListOf counts nodes (listed lists t) (list_length lists t)
  pub on_list : (r : ℕ) → r < rule_count rules → (rule_at rules r).symbol < s
      → Before (listed lists (rule_at rules r).symbol) (list_length lists (rule_at rules r).symbol) (rule_at rules r).node
  pub kept : (j : ℕ) → first_rules ≤ j → j < start → get_or lists j 0 ≡ get_or before j 0

pub listed_none : (counts nodes rules : List ℕ) (start : ℕ) (lists : List ℕ) → start + rule_symbols * node_count nodes ≤ length lists → ListedTo counts nodes rules start 0 start lists lists
listed_none counts nodes rules start lists room =
    record {
      long = refl;
      after = omega arith;
      room = room;
      begins = λ t l. absurd (omega arith);
      inside = λ t l. absurd (omega arith);
      list = λ t l. absurd (omega arith);
      on_list = λ r l k. absurd (omega arith);
      kept = λ j l m. refl;
    }

-- room for the lists of the symbols from s on is room for one and for the rest
rest_room : (s end k room : ℕ) → s < rule_symbols → end + (rule_symbols - s) * k ≤ room → end + k + (rule_symbols - (s + 1)) * k ≤ room
rest_room s end k room small h =
    let e : rule_symbols - s ≡ suc (rule_symbols - (s + 1)) = omega arith in
    let r : end + suc (rule_symbols - (s + 1)) * k ≤ room = rw e at h in
    omega arith

-- there is room for one more list
pub list_room : (counts nodes rules : List ℕ) (start s end : ℕ) (before lists : List ℕ) → ListedTo counts nodes rules start s end before lists → s < rule_symbols
    → end + node_count nodes ≤ length lists
list_room counts nodes rules start s end before lists h small = omega (arith, rest_room s end (node_count nodes) (length before) small h.room, h.long)

-- one symbol more
module _ (counts nodes rules : List ℕ) (start s end : ℕ) (before lists lists' : List ℕ) (n : ℕ) (h : ListedTo counts nodes rules start s end before lists)
    (new : SymbolListed counts nodes rules s end lists lists' n)
    (small : s < rule_symbols)
    (base : next_rules ≤ start) where
  abbrev stored : List ℕ
  stored = with_list lists' s end n

  own_start : get_or stored s 0 ≡ end
  own_start =
      get_or-set_other (set lists' s end) (list_lengths + s) s n 0 (λ e. omega arith)
      ∙ get_or-set_same lists' s end 0 (omega (arith, new.long, h.long, h.after, h.room))

  own_length : list_length stored s ≡ n
  own_length = get_or-set_same (set lists' s end) (list_lengths + s) n 0 (omega (arith, length-set lists' s end, new.long, h.long, h.after, h.room))

  -- any other place below the new list
  other : (j : ℕ) → j < end → (j ≡ s → ⊥) → (j ≡ list_lengths + s → ⊥) → get_or stored j 0 ≡ get_or lists j 0
  other j l a b = get_or-set_other (set lists' s end) (list_lengths + s) j n 0 b ∙ get_or-set_other lists' s j end 0 a ∙ new.kept j l

  other_start : (t : ℕ) → t < s → get_or stored t 0 ≡ get_or lists t 0
  other_start t l = other t (omega (arith, h.after)) (λ e. omega arith) (λ e. omega arith)

  other_length : (t : ℕ) → t < s → list_length stored t ≡ list_length lists t
  other_length t l = other (list_lengths + t) (omega (arith, h.after)) (λ e. omega arith) (λ e. omega arith)

  other_listed : (t i : ℕ) → t < s → i < list_length lists t → listed stored t i ≡ listed lists t i
  other_listed t i l k =
      ap (λ (x : ℕ). get_or stored (x + i) 0) (other_start t l)
      ∙ other (get_or lists t 0 + i) (omega (arith, h.inside t l)) (λ e. omega (arith, h.begins t l)) (λ e. omega (arith, h.begins t l))

  own_listed : (i : ℕ) → listed stored s i ≡ from lists' end i
  own_listed i =
      ap (λ (x : ℕ). get_or stored (x + i) 0) own_start
      ∙ get_or-set_other (set lists' s end) (list_lengths + s) (end + i) n 0 (λ e. omega (arith, h.after))
      ∙ get_or-set_other lists' s (end + i) end 0 (λ e. omega (arith, h.after))

  room_left : end + n + (rule_symbols - (s + 1)) * node_count nodes ≤ length before
  room_left = omega (arith, rest_room s end (node_count nodes) (length before) small h.room, new.few)

  pub listed_more : (table : List ℕ) → table ≡ stored → ListedTo counts nodes rules start (s + 1) (end + n) before table
  listed_more table e =
      rw e
      (record {
        long = length-set (set lists' s end) (list_lengths + s) n ∙ length-set lists' s end ∙ new.long ∙ h.long;
        after = omega (arith, h.after);
        room = room_left;
        begins = λ t l. from_at t l (ℕ_discrete t s);
        inside = λ t l. inside_at t l (ℕ_discrete t s);
        list = λ t l. list_at t l (ℕ_discrete t s);
        on_list = λ r l k. on_at r l k (ℕ_discrete (rule_at rules r).symbol s);
        kept = λ j l m. other j (omega (arith, h.after)) (λ q. omega arith) (λ q. omega arith) ∙ h.kept j l m;
      })
    where
      from_at : (t : ℕ) → t < s + 1 → Dec (t ≡ s) → start ≤ get_or stored t 0
      from_at t l (yes q) = rw (q, own_start) h.after
      from_at t l (no ne) = let l' : t < s = omega arith in rw (other_start t l') (h.begins t l')

      inside_at : (t : ℕ) → t < s + 1 → Dec (t ≡ s) → get_or stored t 0 + list_length stored t ≤ end + n
      inside_at t l (yes q) = rw (q, own_start, own_length) (omega arith)
      inside_at t l (no ne) = let l' : t < s = omega arith in rw (other_start t l', other_length t l') (omega (arith, h.inside t l'))

      list_at : (t : ℕ) → t < s + 1 → Dec (t ≡ s) → ListOf counts nodes (listed stored t) (list_length stored t)
      list_at t l (yes q) = rw (q, own_length) (list_same (from lists' end) (listed stored s) n (λ i k. own_listed i) counts nodes new.list)
      list_at t l (no ne) =
          let l' : t < s = omega arith in
          rw (other_length t l')
          (list_same (listed lists t) (listed stored t) (list_length lists t) (λ i k. other_listed t i l' k) counts nodes (h.list t l'))

      on_at : (r : ℕ) → r < rule_count rules → (rule_at rules r).symbol < s + 1 → Dec ((rule_at rules r).symbol ≡ s)
          → Before (listed stored (rule_at rules r).symbol) (list_length stored (rule_at rules r).symbol) (rule_at rules r).node
      on_at r l k (yes q) =
          rw (q, own_length)
          (before_same (from lists' end) (listed stored s) n (λ i m. own_listed i) n (rule_at rules r).node (omega arith) (new.on_list r l q))
      on_at r l k (no ne) =
          let k' : (rule_at rules r).symbol < s = omega arith in
          rw (other_length (rule_at rules r).symbol k')
          (before_same (listed lists (rule_at rules r).symbol) (listed stored (rule_at rules r).symbol) (list_length lists (rule_at rules r).symbol)
          (λ i m. other_listed (rule_at rules r).symbol i k' m)
          _
          _
          (omega arith)
          (h.on_list r l k'))

-- the rules' chains stand
pub rules_kept : (counts nodes rules : List ℕ) (start s end : ℕ) (before lists : List ℕ) → ListedTo counts nodes rules start s end before lists
    → next_rows rules ≤ start
    → RulesChained rules before
    → RulesChained rules lists
rules_kept counts nodes rules start s end before lists h base chained =
    chained_same _ _ first_rules next_rules 0 before lists
    (record { first = λ t l. h.kept (first_rules + t) (omega arith) (omega arith); next = λ r l. h.kept (next_rules + r) (omega arith) (omega arith) })
    chained

-- also under the chains of the input rows
pub rules_through : (rules rows : List ℕ) (from : ℕ) (before of_rules of_rows : List ℕ) → from ≡ next_rows rules
    → Chaining (λ r. (rule_at rules r).symbol) (rule_count rules) first_rules next_rules 0 before of_rules
    → Chaining (λ r. (input_row rows r).symbol) (input_row_count rows) first_rows from 0 of_rules of_rows
    → RulesChained rules of_rows
rules_through rules rows from before of_rules of_rows e a b =
    chained_same _ _ first_rules next_rules 0 of_rules of_rows
    (record {
      first = λ t l. b.kept (first_rules + t) (record { not_first = λ s m q. omega arith; not_next = λ r m q. omega arith });
      next = λ r l. b.kept (next_rules + r) (record { not_first = λ s m q. omega arith; not_next = λ i m q. omega arith });
    })
    a.chained

-- all that rules may have, after the chains of rules and of input rows
pub listed_all : (counts nodes rules rows : List ℕ) (start end from : ℕ) (before of_rules of_rows lists : List ℕ) → RulesGood nodes rules
    → from ≡ next_rows rules
    → start ≡ next_rows rules + input_row_count rows
    → Chaining (λ r. (rule_at rules r).symbol) (rule_count rules) first_rules next_rules 0 before of_rules
    → Chaining (λ r. (input_row rows r).symbol) (input_row_count rows) first_rows from 0 of_rules of_rows
    → ListedTo counts nodes rules start rule_symbols end of_rows lists
    → ListsFor counts nodes rules rows lists
listed_all counts nodes rules rows start end from before of_rules of_rows lists good ef es rules_chained rows_chained h =
    record {
      long = omega (arith, h.after, h.room, h.long);
      inside = within;
      list = λ s l.
          let own = within s l in
          rw (list_length_lem lists s own) (list_same (listed lists s) (at (list_of lists s)) (list_length lists s) (list_at lists s own) counts nodes (h.list s l));
      on_list = λ r l.
          let s : ℕ = (rule_at rules r).symbol in
          let k : s < rule_symbols = good.symbol r l in
          let own = within s k in
          rw (list_length_lem lists s own)
          (before_same (listed lists s) (at (list_of lists s)) (list_length lists s) (list_at lists s own) (list_length lists s) (rule_at rules r).node (omega arith) (h.on_list r l k));
      of_rules = rules_kept counts nodes rules start rule_symbols end of_rows lists h (omega arith) (rules_through rules rows from before of_rules of_rows ef rules_chained rows_chained);
      of_rows =
          chained_same _ _ first_rows (next_rows rules) 0 of_rows lists
          (record { first = λ t l. h.kept (first_rows + t) (omega arith) (omega arith); next = λ r l. h.kept (next_rows rules + r) (omega arith) (omega arith) })
          (rw (← ef) rows_chained.chained);
    }
  where
    within : (s : ℕ) → s < rule_symbols → ListInside lists s
    within s l = omega (arith, h.inside s l, h.room, h.long)
