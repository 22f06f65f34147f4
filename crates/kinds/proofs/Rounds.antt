-- A round that leaves the five words as they are closes a kind, and without stay rules a kind is closed as it stands. What symbols make
-- are kinds to be closed, and become the kinds of trees by it.
use mathlib.Core.Path.{◌≡◌, refl, ap, ap₂, sym, ◌∙◌}
use mathlib.Core.List.{List, [], ◌∷◌, ◌++◌}
use mathlib.Core.Bool.{Bool, true, false}
use Prim.Native.Nat.{ℕ, suc, ◌+◌}
use native.Mathlib.Omega.{arith}
use borrow.Author.Tests.{ltb-false}
use lib.ListN.{length, take}
use lib.Seq.{take_at}
use Rattle.foundation.specs.Tests.{true_test}
use Rattle.foundation.specs.Lists.{same_list, same_list_eq}
use Rattle.model.specs.Tables.{Contract}
use Rattle.model.specs.Admission.{most_facts}
use Rattle.model.specs.Kinds.{leaf_kind, symbol_kind, stay_kind, empty_kind, next_kind}
use Rattle.model.specs.Running.{has_stays}
use Rattle.model.proofs.Laws.Established.{Established}
use Rattle.model.proofs.Laws.Facts.{length_words}
use Rattle.model.proofs.Laws.Stays.{stay_without}
use Rattle.model.proofs.Laws.Calling.{no_stay_found}
use Rattle.kind_words.specs.Closing.{round_on, rounds_on, one_round_more, MadeKind, closing, own_five, rounds_are, length_closing, still_closes}
use Rattle.prepared.specs.Parts.{rounds_of}
use Rattle.kind_slots.specs.Stored.{same_words}
use Rattle.kind_slots.proofs.Same.{same_words_list}

pub still_by_test : (C : Contract) (known : Established C) {kind : List ℕ} (made : MadeKind C kind) (n : ℕ) {closed next : List ℕ}
    → closed ≡ rounds_on C n kind
    → next ≡ round_on C closed
    → same_words closed next ≡ true
    → closed ≡ stay_kind C (take 5 kind) ++ (0 ∷ [])
still_by_test C known {kind} made n {closed} {next} e f t =
    let before : closed ≡ closing C known made n ++ (0 ∷ []) = e ∙ rounds_are C known made n in
    let after : next ≡ closing C known made (suc n) ++ (0 ∷ []) =
    one_round_more C kind n e f ∙ ap (λ (m : ℕ). rounds_on C m kind) (let m : n + 1 ≡ suc n = omega arith in m) ∙ rounds_are C known made (suc n) in
    let same : same_list (closing C known made n) (closing C known made (suc n)) ≡ true =
    sym (same_words_list _ _ (length_closing C known made n) (length_closing C known made (suc n))) ∙ sym (ap₂ same_words before after) ∙ t in
    e ∙ still_closes C known made n (same_list_eq _ _ (true_test _ same))

-- where no rounds are needed there are no stay rules, and a kind is closed as it stands
pub without_stays : (C : Contract) (known : Established C) {kind : List ℕ} (made : MadeKind C kind) (n : ℕ) → n ≡ rounds_of C.transformation → n ≡ 0
    → kind ≡ stay_kind C (take 5 kind) ++ (0 ∷ [])
without_stays C known {kind} made n e z = go (has_stays C.transformation) refl
  where
    go : (any : Bool) → has_stays C.transformation ≡ any → kind ≡ stay_kind C (take 5 kind) ++ (0 ∷ [])
    go true any = absurd (let all : n ≡ most_facts = rw any at e in omega arith)
    go false any =
        made.words
        ∙ ap (λ (k : List ℕ). k ++ (0 ∷ []))
        (sym (stay_without C known _ _ _ (no_stay_found C.transformation (ltb-false _ _ any))) ∙ ap (stay_kind C) (sym (own_five C known made)))

-- what a symbol's rules make is made of marks, states and facts
pub symbol_made : (C : Contract) (s : ℕ) (l r : List ℕ) {kind : List ℕ} → kind ≡ symbol_kind C s l r ++ (0 ∷ []) → MadeKind C kind
unfolding symbol_kind
symbol_made C s l r e = record { marks = _; reaches = _; facts = _; words = e }

pub leaf_made : (C : Contract) {kind : List ℕ} → kind ≡ leaf_kind C ++ (0 ∷ []) → MadeKind C kind
unfolding leaf_kind
leaf_made C e = record { marks = _; reaches = _; facts = _; words = e }

-- .. and closed it is a kind
closed_five : (C : Contract) (made : List ℕ) → length made ≡ 5 → {kind closed : List ℕ} → kind ≡ made ++ (0 ∷ []) → closed ≡ stay_kind C (take 5 kind) ++ (0 ∷ [])
    → closed ≡ stay_kind C made ++ (0 ∷ [])
closed_five C made long e f = f ∙ ap (λ (k : List ℕ). stay_kind C k ++ (0 ∷ [])) (ap (take 5) e ∙ take_at made (0 ∷ []) 5 long)

pub next_closed : (C : Contract) (s : ℕ) (l r : List ℕ) {kind closed : List ℕ} → kind ≡ symbol_kind C s l r ++ (0 ∷ [])
    → closed ≡ stay_kind C (take 5 kind) ++ (0 ∷ [])
    → closed ≡ next_kind C s l r ++ (0 ∷ [])
unfolding symbol_kind next_kind
next_closed C s l r e f = closed_five C _ (length_words C _ _ _) e f

pub empty_closed : (C : Contract) {kind closed : List ℕ} → kind ≡ leaf_kind C ++ (0 ∷ []) → closed ≡ stay_kind C (take 5 kind) ++ (0 ∷ [])
    → closed ≡ empty_kind C ++ (0 ∷ [])
unfolding leaf_kind empty_kind
empty_closed C e f = closed_five C _ (length_words C _ _ _) e f

-- elsewhere there are as many as there may be facts
pub with_all_rounds : (C : Contract) → Established C → (n : ℕ) → n ≡ rounds_of C.transformation → (n ≡ 0 → ⊥) → n ≡ most_facts
with_all_rounds C known n e some = go (has_stays C.transformation) refl
  where
    go : (any : Bool) → has_stays C.transformation ≡ any → n ≡ most_facts
    go true any = rw any at e
    go false any = absurd (some (rw any at e))
