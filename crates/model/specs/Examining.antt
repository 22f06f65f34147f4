-- Examining a list of kinds from elsewhere, change request W-211: the words that a partner sends, five for each kind; and as
-- statements what the examiner's verdict means. proofs/Meaning/Examining.antt and ExaminingAnswers.antt prove them.
use Rattle.std.specs.Prelude.{◌≡◌, Bool, false, not, ◌||◌, List, [], ◌∷◌, ◌++◌, ◌↔◌, ◌⊎◌, ℕ, ◌+◌, ◌*◌, ◌-◌, ◌/◌, ◌%◌, ◌<◌, ◌≤◌, eqb, ltb, length, get_or, take}
use Rattle.foundation.specs.Tests.{some_below}
use Rattle.foundation.specs.Search.{first}
use Rattle.foundation.specs.Lists.{same_list}
use Rattle.model.specs.Tables.{Contract}
use Rattle.model.specs.Facts.{fact_total}
use Rattle.model.specs.Answers.{Verdict, fine, refuse_if, refuse_first, ◌then◌, tree, pass}
use Rattle.model.specs.Admission.{admission}
use Rattle.model.specs.Kinds.{marks_in, kind_words, state_in, bit_of_fact, facts_in, empty_kind, next_kind, breaks}
use Rattle.model.specs.Claims.{Admitted}
use Rattle.model.specs.Refusals.{Reason, with_number, only, lowest, RefusesFor, admission_reasons}
use Rattle.model.specs.Meaning.{NoTreeBreaks, Lent, check_of}

-- "its list of kinds, five words each, at most 4,096"
abbrev pub most_kinds : ℕ
most_kinds = 4096

abbrev pub sent_count : List ℕ → ℕ
sent_count words = length words / 5

-- the words of kind k, as sent
abbrev pub five_words : List ℕ → ℕ → List ℕ
five_words words k =
    get_or words (5 * k) 0 ∷ get_or words (5 * k + 1) 0 ∷ get_or words (5 * k + 2) 0 ∷ get_or words (5 * k + 3) 0 ∷ get_or words (5 * k + 4) 0 ∷ []

-- "listing order": symbols, then left kinds, then right kinds, ascending
abbrev pub ListedBefore : (symbol left right symbol' left' right' : ℕ) → Type 0
ListedBefore symbol left right symbol' left' right' =
    (symbol < symbol') ⊎ ((symbol ≡ symbol') × ((left < left') ⊎ ((left ≡ left') × (right < right'))))

module _ (C : Contract) where
  -- "Bits that stand for no state, fact or mark are ignored.": the words of the marks, states and facts that a kind has, and of
  -- nothing else
  unfoldable pub masked : List ℕ → List ℕ
  masked kind = kind_words C (marks_in kind) (state_in C kind) (facts_in C kind)

  -- two kinds have the same marks, states and facts
  pub record SameBits (a b : List ℕ) : Type 0 where
    pub one_root : (marks_in a).one_root ≡ (marks_in b).one_root
    pub is_empty : (marks_in a).is_empty ≡ (marks_in b).is_empty
    pub states : (q : ℕ) → q < C.input.states → state_in C a q ≡ state_in C b q
    pub facts : (f : ℕ) → f < fact_total C.output.states C.transformation.counts → bit_of_fact C a f ≡ bit_of_fact C b f

  module _ (words : List ℕ) where
    -- kind k of the list
    abbrev pub sent_kind : ℕ → List ℕ
    sent_kind k = masked (five_words words k)

    -- the list holds a kind
    unfoldable pub holds : List ℕ → Bool
    holds kind = some_below (sent_count words) (λ k. same_list (sent_kind k) kind)

    -- a symbol over two listed kinds, as a round over n rows goes through them: "the first in listing order"
    abbrev pub symbol_at : ℕ → ℕ
    symbol_at c = 1 + c / (sent_count words * sent_count words)

    abbrev pub left_at : ℕ → ℕ
    left_at c = c / sent_count words % sent_count words

    abbrev pub right_at : ℕ → ℕ
    right_at c = c % sent_count words

    abbrev pub not_held : ℕ → Bool
    not_held c = not (holds (next_kind C (symbol_at c) (sent_kind (left_at c)) (sent_kind (right_at c))))

    abbrev pub sent_combinations : ℕ
    sent_combinations = (C.transformation.symbols - 1) * (sent_count words * sent_count words)

    unfoldable pub first_not_held : ℕ
    first_not_held = first not_held sent_combinations

    -- "70 a length that is no multiple of five or above 20,480 (the length)"
    unfoldable pub length_verdict : Verdict
    length_verdict = refuse_if (not (eqb (length words % 5) 0) || ltb (5 * most_kinds) (length words)) 70 (length words)

    -- "71 the empty kind is missing (place 0)"
    unfoldable pub empty_verdict : Verdict
    empty_verdict = refuse_if (not (holds (empty_kind C))) 71 0

    -- "72 not closed (place (symbol × 4,096 + left) × 4,096 + right of the first in listing order)"
    unfoldable pub closed_verdict : Verdict
    closed_verdict =
        refuse_if (ltb first_not_held sent_combinations) 72 ((symbol_at first_not_held * most_kinds + left_at first_not_held) * most_kinds + right_at first_not_held)

    -- "73 a breaking kind (its number)"
    unfoldable pub breaking_verdict : Verdict
    breaking_verdict = refuse_first 73 (λ k. breaks C (sent_kind k)) (sent_count words)

    -- "1 to 8, 70 .., 71 .., 72 .., 73 .., in that order"; the list is accepted if nothing is refused
    unfoldable pub examining : Verdict
    examining = admission C then length_verdict then empty_verdict then closed_verdict then breaking_verdict

    -- the list holds a kind, as a statement: one of its kinds has the same marks, states and facts
    pub record Held (kind : List ℕ) : Type 0 where
      pub number : ℕ
      pub inside : number < sent_count words
      pub same : masked (five_words words number) ≡ masked kind

    -- it "holds the kind of" a symbol over two listed kinds, by their numbers in the list as sent, repeats counted
    abbrev pub HoldsOver : (symbol left right : ℕ) → Type 0
    HoldsOver symbol left right = Held (next_kind C symbol (five_words words left) (five_words words right))

    -- "accepts exactly if the list holds the empty forest's kind, holds the kind of every symbol over every two listed kinds,
    -- and holds no breaking kind"
    pub record Acceptable : Type 0 where
      pub whole : length words ≡ 5 * sent_count words
      pub few : sent_count words ≤ most_kinds
      pub empty : Held (empty_kind C)
      pub closed : (s i j : ℕ) → 1 ≤ s → s < C.transformation.symbols → i < sent_count words → j < sent_count words → HoldsOver s i j
      pub keeps : (i : ℕ) → i < sent_count words → breaks C (five_words words i) ≡ false

    -- "not closed (place (symbol × 4,096 + left) × 4,096 + right of the first in listing order)"
    pub record NotClosed (place : ℕ) : Type 0 where
      pub symbol : ℕ
      pub left : ℕ
      pub right : ℕ
      pub is_symbol : (1 ≤ symbol) × (symbol < C.transformation.symbols)
      pub is_left : left < sent_count words
      pub is_right : right < sent_count words
      pub is_place : place ≡ (symbol * 4096 + left) * 4096 + right
      pub missing : HoldsOver symbol left right → ⊥
      pub held_before : (s i j : ℕ) → 1 ≤ s → i < sent_count words → j < sent_count words → ListedBefore s i j symbol left right → HoldsOver s i j

    -- the reasons to refuse, in their order
    abbrev pub examining_reasons : List Reason
    examining_reasons =
        admission_reasons C
        ++ (only 70 ((length words % 5 ≡ 0 → ⊥) ⊎ (20480 < length words)) (length words)
        ∷ only 71 (Held (empty_kind C) → ⊥) 0
        ∷ with_number 72 NotClosed
        ∷ lowest 73 (λ k. breaks C (five_words words k)) (sent_count words)
        ∷ [])

  -- what a verdict on a list of words says
  pub record ExaminingMeans (words : List ℕ) (verdict : Verdict) : Type 0 where
    pub refuses : RefusesFor (examining_reasons words) verdict
    pub accepted_exactly : (verdict ≡ fine) ↔ (Admitted C × Acceptable words)
    -- "Acceptance means no document breaks the contract", so no check shows one
    pub keeps : verdict ≡ fine → NoTreeBreaks C
    pub excludes : verdict ≡ fine → (lent : Lent) (j : ℕ) → (check_of C lent).answer ≡ tree j → ⊥
    -- "Bits that stand for no state, fact or mark are ignored."
    pub ignores : (other : List ℕ) → length other ≡ length words
        → ((k : ℕ) → k < sent_count words → SameBits (five_words words k) (five_words other k))
        → examining other ≡ verdict

  -- "our own passes' counted kinds are accepted"
  abbrev pub OwnAccepted : Type 0
  OwnAccepted =
      Admitted C → (lent : Lent) (count : ℕ) → (check_of C lent).answer ≡ pass count → examining (take (5 * count) (check_of C lent).words) ≡ fine
