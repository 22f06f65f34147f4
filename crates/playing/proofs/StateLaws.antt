-- StateLaws: what the state of a desk depends on, and what a statement that sets something makes of it.
use mathlib.Core.Path.{◌≡◌, refl, ap, ap₂, sym, ◌∙◌}
use mathlib.Core.List.{List, [], ◌∷◌}
use Prim.Native.Nat.{ℕ, zero, suc, ◌+◌, ◌-◌, ◌≤◌}
use native.Mathlib.Omega.{arith}
use lib.ListN.{length, take, drop, length-take, length-drop}
use lib.Seq.{take-take, take-nil, drop-drop, drop-append-add}
use Rattle.script.specs.Spans.{overwritten}
use Rattle.script.specs.Meaning.{initial, with_size, with_table, with_rows, most_numbers}
use Rattle.script.specs.declared.spans.Span.{Span}
use Rattle.lexing.specs.declared.words.Size.{Size}
use Rattle.lexing.specs.declared.words.Size.TheVariants as size
use Rattle.lexing.specs.declared.words.Table.{Table}
use Rattle.lexing.specs.declared.words.Table.TheVariants as table
use Rattle.playing.specs.declared.desks.Tables.{Tables}
use Rattle.playing.specs.declared.desks.Desk.{Desk}
use Rattle.playing.specs.Desks.{kept, stretch, span, tables_of, state_of, tables_with, empty_desk, desk_with_size, desk_with_table, desk_with_rows, Inside, TablesInside, InOrder}

-- two buffers have the same numbers at every span that lies between two places
abbrev pub Agree : (low high : ℕ) (a b : List ℕ) → Type 0
Agree low high a b = (s : Span) → Inside low high s → stretch a s ≡ stretch b s

-- behind what is overwritten
pub agree_overwritten : (xs numbers : List ℕ) (low high : ℕ) → length xs ≤ low → Agree low high (overwritten xs numbers) numbers
agree_overwritten xs numbers low high h s i =
    let from : low ≤ s.start = i.from in
    let m : ℕ = s.start - length xs in
    let at : s.start ≡ length xs + m = omega arith in
    ap (take (s.end - s.start))
    (ap (λ (n : ℕ). drop n (overwritten xs numbers)) at
    ∙ drop-append-add xs (drop (length xs) numbers) m
    ∙ drop-drop m (length xs) numbers
    ∙ ap (λ (n : ℕ). drop n numbers) (sym at))

-- before the place up to which the buffers are the same
take_drop_take : (l : List ℕ) (s m n : ℕ) → s + m ≤ n → take m (drop s (take n l)) ≡ take m (drop s l)
take_drop_take l zero m n h = take-take m n l (omega arith)
take_drop_take [] (suc s) m n h = ap (λ (l : List ℕ). take m (drop (suc s) l)) (take-nil n)
take_drop_take (x ∷ l) (suc s) m zero h = absurd (omega arith)
take_drop_take (x ∷ l) (suc s) m (suc n) h = take_drop_take l s m n (omega arith)

pub agree_before : (a b : List ℕ) (low high : ℕ) → take high a ≡ take high b → Agree low high a b
agree_before a b low high e s i =
    let o : s.start ≤ s.end = i.ordered in
    let u : s.end ≤ high = i.up_to in
    let m : ℕ = s.end - s.start in
    sym (take_drop_take a s.start m high (omega arith))
    ∙ ap (λ (l : List ℕ). take m (drop s.start l)) e
    ∙ take_drop_take b s.start m high (omega arith)

pub tables_agree : {low high : ℕ} (a b : List ℕ) {t : Tables} → Agree low high a b → TablesInside low high t → tables_of a t ≡ tables_of b t
tables_agree a b {t = t} same i =
    ap₂ ◌∷◌ (same t.counts i.counts)
    (ap₂ ◌∷◌ (same t.input_rows i.input_rows)
    (ap₂ ◌∷◌ (same t.input_marks i.input_marks)
    (ap₂ ◌∷◌ (same t.output_table i.output_table)
    (ap₂ ◌∷◌ (same t.output_marks i.output_marks)
    (ap₂ ◌∷◌ (same t.nodes i.nodes) (ap₂ ◌∷◌ (same t.rules i.rules) refl))))))

-- numbers behind the used ones are no part of the state
pub state_agrees : (label : List ℕ) (d : Desk) (a b rows words : List ℕ) → InOrder d → take d.used a ≡ take d.used b
    → state_of label d a rows words ≡ state_of label d b rows words
state_agrees label d a b rows words o e =
    rw (tables_agree a b (agree_before a b kept d.used e) o.tables, agree_before a b 0 d.used e d.rows o.rows)

module _ (label numbers rows words : List ℕ) (d : Desk) where
  pub size_state : (z : Size) (n : ℕ) → state_of label (desk_with_size d z n) numbers rows words ≡ with_size (state_of label d numbers rows words) z n
  size_state size.Symbols n = refl
  size_state size.InputStates n = refl
  size_state size.OutputStates n = refl

  pub used_more : (end : ℕ) → InOrder d → d.used ≤ end → end ≤ length numbers → end - kept ≡ d.used - kept + length (stretch numbers (span d.used end))
  used_more end o h k =
      let least : kept ≤ d.used = o.least in
      let l : length (stretch numbers (span d.used end)) ≡ end - d.used =
      simp (length-take, length-drop) (omega arith) in
      omega arith

  pub table_state : (t : Table) (end : ℕ) → InOrder d → d.used ≤ end → end ≤ length numbers
      → state_of label (desk_with_table d t end) numbers rows words ≡ with_table (state_of label d numbers rows words) t (stretch numbers (span d.used end))
  table_state table.Counts end o h k = rw (used_more end o h k)
  table_state table.InputRows end o h k = rw (used_more end o h k)
  table_state table.InputMarks end o h k = rw (used_more end o h k)
  table_state table.OutputTable end o h k = rw (used_more end o h k)
  table_state table.OutputMarks end o h k = rw (used_more end o h k)
  table_state table.Nodes end o h k = rw (used_more end o h k)
  table_state table.Rules end o h k = rw (used_more end o h k)

  pub rows_state : (end : ℕ) → InOrder d → d.used ≤ end → end ≤ length numbers
      → state_of label (desk_with_rows d end) numbers rows words ≡ with_rows (state_of label d numbers rows words) (stretch numbers (span d.used end))
  rows_state end o h k = rw (used_more end o h k)

-- a desk stays in order
pub inside_more : {low high more : ℕ} {s : Span} → high ≤ more → Inside low high s → Inside low more s
inside_more h i = record { from = i.from; ordered = i.ordered; up_to = omega (arith, i.up_to) }

pub tables_more : {low high more : ℕ} {t : Tables} → high ≤ more → TablesInside low high t → TablesInside low more t
tables_more h i =
    record {
      counts = inside_more h i.counts;
      input_rows = inside_more h i.input_rows;
      input_marks = inside_more h i.input_marks;
      output_table = inside_more h i.output_table;
      output_marks = inside_more h i.output_marks;
      nodes = inside_more h i.nodes;
      rules = inside_more h i.rules;
    }

tables-with : {low high : ℕ} {t : Tables} (which : Table) {s : Span} → TablesInside low high t → Inside low high s → TablesInside low high (tables_with t which s)
tables-with table.Counts i n = record { counts = n; input_rows = i.input_rows; input_marks = i.input_marks; output_table = i.output_table; output_marks = i.output_marks; nodes = i.nodes; rules = i.rules }
tables-with table.InputRows i n = record { counts = i.counts; input_rows = n; input_marks = i.input_marks; output_table = i.output_table; output_marks = i.output_marks; nodes = i.nodes; rules = i.rules }
tables-with table.InputMarks i n = record { counts = i.counts; input_rows = i.input_rows; input_marks = n; output_table = i.output_table; output_marks = i.output_marks; nodes = i.nodes; rules = i.rules }
tables-with table.OutputTable i n = record { counts = i.counts; input_rows = i.input_rows; input_marks = i.input_marks; output_table = n; output_marks = i.output_marks; nodes = i.nodes; rules = i.rules }
tables-with table.OutputMarks i n = record { counts = i.counts; input_rows = i.input_rows; input_marks = i.input_marks; output_table = i.output_table; output_marks = n; nodes = i.nodes; rules = i.rules }
tables-with table.Nodes i n = record { counts = i.counts; input_rows = i.input_rows; input_marks = i.input_marks; output_table = i.output_table; output_marks = i.output_marks; nodes = n; rules = i.rules }
tables-with table.Rules i n = record { counts = i.counts; input_rows = i.input_rows; input_marks = i.input_marks; output_table = i.output_table; output_marks = i.output_marks; nodes = i.nodes; rules = n }

module _ (d : Desk) (o : InOrder d) where
  pub size_order : (z : Size) (n : ℕ) → InOrder (desk_with_size d z n)
  size_order z n = record { tables = o.tables; rows = o.rows; left = o.left; least = o.least; most = o.most }

  module _ (end : ℕ) (h : d.used ≤ end) (k : end ≤ kept + most_numbers) where
    pub table_order : (t : Table) → InOrder (desk_with_table d t end)
    table_order t =
        record {
          tables = tables-with t (tables_more h o.tables) (record { from = o.least; ordered = h; up_to = omega arith });
          rows = inside_more h o.rows;
          left = o.left;
          least = omega (arith, o.least);
          most = k;
        }

    pub rows_order : InOrder (desk_with_rows d end)
    rows_order =
        record {
          tables = tables_more h o.tables;
          rows = record { from = omega arith; ordered = h; up_to = omega arith };
          left = o.left;
          least = omega (arith, o.least);
          most = k;
        }

-- before the first statement
none_inside : {low : ℕ} → low ≤ kept → Inside low kept (span kept kept)
none_inside h = record { from = h; ordered = omega arith; up_to = omega arith }

pub empty_order : InOrder empty_desk
empty_order =
    let none : Inside kept kept (span kept kept) = none_inside (omega arith) in
    record {
      tables = record { counts = none; input_rows = none; input_marks = none; output_table = none; output_marks = none; nodes = none; rules = none };
      rows = none_inside (omega arith);
      left = tt;
      least = omega arith;
      most = omega arith;
    }

pub empty-state : (numbers rows words : List ℕ) → state_of (45 ∷ []) empty_desk numbers rows words ≡ initial
empty-state numbers rows words = refl
