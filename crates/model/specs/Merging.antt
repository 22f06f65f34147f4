-- Merging two output types, change request W-206: the merged type, what is refused, the answer with the closing buffers; and as
-- statements what these mean, for trees, for a caller and for checks, with W-214's law of merging. proofs/Meaning/Merging.antt,
-- MergingAnswers.antt, MergeLaw.antt and MergedChecks.antt prove them.
use Rattle.std.specs.Prelude.{◌≡◌, Bool, false, not, List, [], ◌∷◌, ◌++◌, ◌↔◌, ◌⊎◌, ℕ, zero, suc, ◌+◌, ◌*◌, ◌-◌, ◌/◌, ◌%◌, ◌<◌, ◌≤◌, eqb, ltb, length, get_or, take, drop}
use Rattle.foundation.specs.Tests.{choose}
use Rattle.foundation.specs.Lists.{tabulated}
use Rattle.model.specs.Trees.{Tree}
use Rattle.model.specs.Tables.{Contract, OutputType, type_of, empty_state, next_state, mark_at}
use Rattle.model.specs.Facts.{state_of, fact_total}
use Rattle.model.specs.Answers.{Verdict, refuse_if, refuse_first, ◌then◌, pass, given}
use Rattle.model.specs.Admission.{outside, table_length, entry_wrong, most_facts}
use Rattle.model.specs.Claims.{TypeAllows, Breaks, Admitted}
use Rattle.model.specs.Refusals.{Reason, lowest, only, Refuses}
use Rattle.model.specs.Meaning.{KindCount, NoTreeBreaks, Lent, check_of}
use Rattle.model.specs.Shorter.{SymbolsInRange}

-- "state (m, n) is m × (second's O) + n", and the two states of a pair
abbrev pub pair_state : (O m n : ℕ) → ℕ
pair_state O m n = m * O + n

abbrev pub first_of : (O q : ℕ) → ℕ
first_of O q = q / O

abbrev pub second_of : (O q : ℕ) → ℕ
second_of O q = q % O

-- of a first type and a second type
module _ (Y Z : OutputType) where
  abbrev pub pair_count : ℕ
  pair_count = Y.states * Z.states

  -- what the two types give a symbol over the states of two pairs, as a pair
  abbrev pub pair_next : (symbol left right : ℕ) → ℕ
  pair_next symbol left right =
      pair_state Z.states (next_state Y symbol (first_of Z.states left) (first_of Z.states right))
      (next_state Z symbol (second_of Z.states left) (second_of Z.states right))

  -- "First the state of symbol 0; then for each symbol from 1, each left state, each right state, the resulting state."
  unfoldable pub pair_entry : ℕ → ℕ
  pair_entry zero = pair_state Z.states (empty_state Y) (empty_state Z)
  pair_entry (suc c) = pair_next (1 + c / (pair_count * pair_count)) (c / pair_count % pair_count) (c % pair_count)

  -- "if both do": a pair is accepted if both its states are
  abbrev pub pair_mark : ℕ → ℕ
  pair_mark q = mark_at Y.marks (first_of Z.states q) * mark_at Z.marks (second_of Z.states q)

-- "Merge two output types into one": over S symbols
unfoldable pub merged_type : ℕ → OutputType → OutputType → OutputType
merged_type S Y Z =
    record {
      states = pair_count Y Z;
      table = tabulated (table_length S (pair_count Y Z)) (pair_entry Y Z);
      marks = tabulated (pair_count Y Z) (pair_mark Y Z);
    }

-- "(place 0 symbol count, 1 state count, 2 table length, 3 marks length, else 4 plus the first bad index through table and marks)"
abbrev pub type_wrong : ℕ → OutputType → ℕ → Bool
type_wrong S Y place =
    choose (ltb place 4)
    (get_or
    (outside 1 16 S
    ∷ outside 1 4 Y.states
    ∷ not (eqb (length Y.table) (table_length S Y.states))
    ∷ not (eqb (length Y.marks) Y.states)
    ∷ [])
    place false)
    (entry_wrong Y.states [] Y.table Y.marks (place - 4))

abbrev pub type_places : OutputType → ℕ
type_places Y = 4 + (length Y.table + length Y.marks)

unfoldable pub type_verdict : (number S : ℕ) → OutputType → Verdict
type_verdict number S Y = refuse_first number (type_wrong S Y) (type_places Y)

-- "56 a result buffer shorter than the merged table (place 0) or marks (1)": of a merged type with so many states over S symbols
abbrev pub buffer_short : (S states table_room marks_room : ℕ) → ℕ → Bool
buffer_short S states table_room marks_room place = get_or (ltb table_room (table_length S states) ∷ ltb marks_room states ∷ []) place false

-- the number of states, or a refusal
pub data MergingAnswer : Type 0 where
  merged : (states : ℕ) → MergingAnswer
  not_merged : (number place : ℕ) → MergingAnswer

-- an answer and the closing buffers
pub record Merged : Type 0 where
  pub answer : MergingAnswer
  pub table : List ℕ
  pub marks : List ℕ

-- the type that stands at the start of the buffers
abbrev pub type_in : (S states : ℕ) (table marks : List ℕ) → OutputType
type_in S states table marks = type_of states (take (table_length S states) table) (take states marks)

-- a type without a fault: the sizes, lengths and entries of document 01's output types
pub record FaultlessType (S : ℕ) (Y : OutputType) : Type 0 where
  pub symbols : SymbolsInRange S
  pub states : (1 ≤ Y.states) × (Y.states ≤ 4)
  pub table_long : length Y.table ≡ table_length S Y.states
  pub marks_long : length Y.marks ≡ Y.states
  pub entries : (k : ℕ) → k < length Y.table → get_or Y.table k 0 < Y.states
  pub marks : (q : ℕ) → q < length Y.marks → mark_at Y.marks q ≤ 1

-- M is Y and Z merged
pub record IsMerged (S : ℕ) (Y Z M : OutputType) : Type 0 where
  pub states : M.states ≡ Y.states * Z.states
  -- "state (m, n) is m × (second's O) + n": what M gives nothing, and a symbol over any two pairs, and which pairs it accepts
  pub nothing : empty_state M ≡ empty_state Y * Z.states + empty_state Z
  pub over : (s m n m' n' : ℕ) → 1 ≤ s → m < Y.states → n < Z.states → m' < Y.states → n' < Z.states
      → next_state M s (m * Z.states + n) (m' * Z.states + n') ≡ next_state Y s m m' * Z.states + next_state Z s n n'
  pub accepts : (m n : ℕ) → m < Y.states → n < Z.states
      → (mark_at M.marks (m * Z.states + n) ≡ 1) ↔ ((mark_at Y.marks m ≡ 1) × (mark_at Z.marks n ≡ 1))
  -- so the state of every tree is the pair of its states
  pub pairs : (u : Tree) → state_of M u ≡ state_of Y u * Z.states + state_of Z u
  -- "one that allows a tree exactly if both do"
  pub allows : (u : Tree) → TypeAllows M u ↔ (TypeAllows Y u × TypeAllows Z u)
  pub faultless : FaultlessType S M

-- two types, each with its symbol count, and the buffers for the result
module _ (S : ℕ) (Y : OutputType) (S' : ℕ) (Z : OutputType) (table_buffer marks_buffer : List ℕ) where
  abbrev pub buffers_short : ℕ → Bool
  buffers_short = buffer_short S (pair_count Y Z) (length table_buffer) (length marks_buffer)

  -- "51 a fault in the first type, 52 in the second ..; then 50 differing symbol counts (the second's), 53 more than 4 states (the
  -- product), 56 .."
  unfoldable pub merging_verdict : Verdict
  merging_verdict =
      type_verdict 51 S Y
      then type_verdict 52 S' Z
      then refuse_if (not (eqb S S')) 50 S'
      then refuse_if (ltb 4 (pair_count Y Z)) 53 (pair_count Y Z)
      then refuse_first 56 buffers_short 2

  -- table and marks stand at the start of their buffers, and the rest is kept
  abbrev pub merged_into : Merged
  merged_into =
      record {
        answer = merged (pair_count Y Z);
        table = (merged_type S Y Z).table ++ drop (table_length S (pair_count Y Z)) table_buffer;
        marks = (merged_type S Y Z).marks ++ drop (pair_count Y Z) marks_buffer;
      }

  -- "nothing is written" on a refusal
  unfoldable pub merging : Merged
  merging = given merging_verdict (λ number place. record { answer = not_merged number place; table = table_buffer; marks = marks_buffer }) merged_into

  -- the reasons to refuse, in their order
  abbrev pub merging_reasons : List Reason
  merging_reasons =
      lowest 51 (type_wrong S Y) (type_places Y)
      ∷ lowest 52 (type_wrong S' Z) (type_places Z)
      ∷ only 50 (S ≡ S' → ⊥) S'
      ∷ only 53 (4 < Y.states * Z.states) (Y.states * Z.states)
      ∷ lowest 56 buffers_short 2
      ∷ []

  -- when two types are merged
  pub record Mergeable : Type 0 where
    pub first : FaultlessType S Y
    pub second : FaultlessType S' Z
    pub symbols : S ≡ S'
    pub few : Y.states * Z.states ≤ 4
    pub table_room : table_length S (Y.states * Z.states) ≤ length table_buffer
    pub marks_room : Y.states * Z.states ≤ length marks_buffer

  -- what an answer and the closing buffers say of what was handed in
  pub record MergingMeans (result : Merged) : Type 0 where
    pub refuses : Refuses merging_reasons (λ number place. result.answer ≡ not_merged number place) (table_buffer ∷ marks_buffer ∷ [])
        (result.table ∷ result.marks ∷ [])
    pub merged_exactly : (n : ℕ) → (result.answer ≡ merged n) ↔ (Mergeable × (n ≡ Y.states * Z.states))
    pub is_merged : (n : ℕ) → result.answer ≡ merged n → IsMerged S Y Z (type_in S n result.table result.marks)
    pub table_kept : (n : ℕ) → result.answer ≡ merged n → drop (table_length S n) result.table ≡ drop (table_length S n) table_buffer
    pub marks_kept : (n : ℕ) → result.answer ≡ merged n → drop n result.marks ≡ drop n marks_buffer

-- M is what merging Y, over S symbols, and Z left in the buffers lent: "sizes permitting", as otherwise merging refuses
pub record MergedBy (S : ℕ) (Y Z M : OutputType) : Type 0 where
  pub second_symbols : ℕ
  pub table_buffer : List ℕ
  pub marks_buffer : List ℕ
  pub states : ℕ
  pub answered : (merging S Y second_symbols Z table_buffer marks_buffer).answer ≡ merged states
  pub made : M ≡ type_in S states (merging S Y second_symbols Z table_buffer marks_buffer).table (merging S Y second_symbols Z table_buffer marks_buffer).marks

-- how a type is put together by merging: a part, or two of these merged; what it is then, and which are its parts
pub data MergeSteps : Type 0 where
  part : OutputType → MergeSteps
  both : MergeSteps → MergeSteps → MergeSteps

abbrev pub PutTogether : ℕ → MergeSteps → OutputType → Type 0
PutTogether S (part Y) M = M ≡ Y
PutTogether S (both p q) M = (Y : OutputType) × (Z : OutputType) × PutTogether S p Y × PutTogether S q Z × MergedBy S Y Z M

abbrev pub PartOf : OutputType → MergeSteps → Type 0
PartOf Y (part Z) = Y ≡ Z
PartOf Y (both p q) = PartOf Y p ⊎ PartOf Y q

-- two types so put together, where merging refuses nothing, allow the same trees
abbrev pub AllowSame : ℕ → (p q : MergeSteps) → Type 0
AllowSame S p q = (M N : OutputType) → PutTogether S p M → PutTogether S q N → (u : Tree) → TypeAllows M u ↔ TypeAllows N u

-- "order, grouping and self-merging do not change which trees merged types allow, sizes permitting" (change request W-214)
pub record MergeLaw (S : ℕ) : Type 0 where
  -- a type allows exactly the trees that all its parts allow, however it was put together
  pub allows_all : (p : MergeSteps) (M : OutputType) → PutTogether S p M → (u : Tree) → TypeAllows M u ↔ ((Y : OutputType) → PartOf Y p → TypeAllows Y u)
  -- so "order, grouping and self-merging" change nothing
  pub order : (p q : MergeSteps) → AllowSame S (both p q) (both q p)
  pub grouping : (p q r : MergeSteps) → AllowSame S (both (both p q) r) (both p (both q r))
  pub self : (p : MergeSteps) → AllowSame S (both p p) p

-- a contract with another output type
abbrev pub with_output : Contract → OutputType → Contract
with_output C Y = record { transformation = C.transformation; input = C.input; output = Y }

-- "Given room": the contract is admitted, and its kinds number at most the limit
pub record Room (C : Contract) (lent : Lent) : Type 0 where
  pub is_admitted : Admitted C
  pub kinds : ℕ
  pub counted : KindCount C kinds
  pub within : kinds ≤ lent.limit

-- "passes"
abbrev pub Passes : Contract → Lent → Type 0
Passes C lent = (n : ℕ) × ((check_of C lent).answer ≡ pass n)

-- "each alone does"
abbrev pub EachPasses : Contract → (Y Z : OutputType) (first second : Lent) → Type 0
EachPasses C Y Z first second = Passes (with_output C Y) first × Passes (with_output C Z) second

-- one transformation and one input type, with output types Y and Z and with M, which is Y and Z merged
pub record MergedContract (C : Contract) (Y Z M : OutputType) : Type 0 where
  -- a tree breaks the contract with M exactly if it breaks the one with Y or the one with Z
  pub breaks_exactly : (t : Tree) → Breaks (with_output C M) t ↔ (Breaks (with_output C Y) t ⊎ Breaks (with_output C Z) t)
  pub keeps_exactly : NoTreeBreaks (with_output C M) ↔ (NoTreeBreaks (with_output C Y) × NoTreeBreaks (with_output C Z))
  -- "Given room for all three checks, the merged contract passes exactly if each alone does."
  pub passes_exactly : (first second both : Lent) → Room (with_output C Y) first → Room (with_output C Z) second → Room (with_output C M) both
      → Passes (with_output C M) both ↔ EachPasses C Y Z first second
  -- what is admitted stays admitted, unless the pairs make too many facts
  pub stays_admitted : Admitted (with_output C Y) → fact_total (Y.states * Z.states) C.transformation.counts ≤ most_facts
      → Admitted (with_output C M)
