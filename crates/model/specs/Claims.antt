-- The words of demand 3, in which what the answers mean is stated.
use Rattle.std.specs.Prelude.{◌≡◌, [], ℕ, ◌*◌, ◌-◌, ◌<◌, length, take, drop, replicate}
use Rattle.model.specs.Trees.{Tree, empty, node, Over, OneRoot}
use Rattle.model.specs.Tables.{Contract, InputType, OutputType, input_row, input_row_count, mark_at}
use Rattle.model.specs.Outputs.{Output}
use Rattle.model.specs.Facts.{state_of}
use Rattle.model.specs.Answers.{fine}
use Rattle.model.specs.Admission.{admission}
use Rattle.model.specs.Checking.{Checked}

-- "The empty forest reaches each state that has an input row with symbol 0; any other tree reaches state s if some input
-- row has s, its root symbol, and states that its left and its right child reach."
abbrev pub Reaches : InputType → Tree → ℕ → Type 0
Reaches X empty q = (i : ℕ) × (i < input_row_count X.rows) × ((input_row X.rows i).state ≡ q) × ((input_row X.rows i).symbol ≡ 0)
Reaches X (node s l r) q =
    (i : ℕ) × (i < input_row_count X.rows)
    × ((input_row X.rows i).state ≡ q)
    × ((input_row X.rows i).symbol ≡ s)
    × Reaches X l (input_row X.rows i).left
    × Reaches X r (input_row X.rows i).right

-- "A contract takes a tree that reaches an accepted input state."; "only trees count whose root is not symbol 0 and whose right child is
-- symbol 0; .. a contract takes no other" (W-202)
pub record Takes (C : Contract) (t : Tree) : Type 0 where
  pub one_root : OneRoot t
  pub state : ℕ
  pub is_state : state < C.input.states
  pub accepted : mark_at C.input.marks state ≡ 1
  pub reached : Reaches C.input t state

-- "It allows a tree if the state that the output table gives it, from the leaves up, is accepted.": an output type, and a contract
abbrev pub TypeAllows : OutputType → Tree → Type 0
TypeAllows Y u = mark_at Y.marks (state_of Y u) ≡ 1

abbrev pub Allows : Contract → Tree → Type 0
Allows C u = TypeAllows C.output u

-- "A tree breaks it if it is taken and procedure 0 has an output on it that is not allowed."
pub record Breaks (C : Contract) (t : Tree) : Type 0 where
  pub taken : Takes C t
  pub output : Tree
  pub is_output : Output C.transformation 0 t [] output
  pub not_allowed : Allows C output → ⊥

-- a contract that admission does not refuse
abbrev pub Admitted : Contract → Type 0
Admitted C = admission C ≡ fine

-- "Two contracts are over one transformation if S, counts, nodes and rules are equal"
abbrev pub OneTransformation : Contract → Contract → Type 0
OneTransformation C D = C.transformation ≡ D.transformation

-- "They differ only in the states accepted if nothing but their accept marks differs."
pub record SameButMarks (C D : Contract) : Type 0 where
  pub transformation : C.transformation ≡ D.transformation
  pub input_states : C.input.states ≡ D.input.states
  pub input_rows : C.input.rows ≡ D.input.rows
  pub output_states : C.output.states ≡ D.output.states
  pub output_table : C.output.table ≡ D.output.table

-- "the second taking no input that the first does not and allowing every output that the first allows", where "the outputs
-- spoken of are those of procedure 0 on trees that the second takes"
pub record Within (C D : Contract) : Type 0 where
  pub takes_no_more : (t : Tree) → Over D.transformation.symbols t → Takes D t → Takes C t
  pub allows_no_less : (t u : Tree) → Over D.transformation.symbols t → Takes D t → Output D.transformation 0 t [] u → Allows C u → Allows D u

-- "the rest is 0": past the first n rows and words
pub record RestIsZero (n : ℕ) (c : Checked) : Type 0 where
  pub rows : drop (3 * n) c.rows ≡ replicate (length c.rows - 3 * n) 0
  pub words : drop (5 * n) c.words ≡ replicate (length c.words - 5 * n) 0

-- "Rows and words are the same if 0 to count − 1 after a pass, or 0 to j after a tree, are equal number for number and the
-- rest is 0.": the first n rows and words of two checks
pub record SameKinds (n : ℕ) (c d : Checked) : Type 0 where
  pub rows : take (3 * n) c.rows ≡ take (3 * n) d.rows
  pub words : take (5 * n) c.words ≡ take (5 * n) d.words
  pub rest_of_first : RestIsZero n c
  pub rest_of_second : RestIsZero n d
