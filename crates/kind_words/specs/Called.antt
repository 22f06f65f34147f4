-- The facts of a called procedure, read from a child's kind as a word of lanes.
use Rattle.std.specs.Prelude.{◌≡◌, List, Bool, cond, ℕ, ◌+◌, ◌*◌, ◌^◌, ◌<◌, ◌≤◌, eqb, length, get_or}
use Rattle.std.proofs.Math.Path.{refl, sym}
use Rattle.std.proofs.Common.{ap, subst, ◌∙◌, pow-suc, arith, eq-eqb, ne_eqb}
use Rattle.std.proofs.Math.Nat.{pow-zero, pow-le-pow_right}
use Rattle.std.proofs.Math.Decide.{ℕ_discrete}
use Rattle.std.proofs.Math.Arith.{digits_lt}
use Rattle.foundation.specs.Words.{bit}
use Rattle.model.specs.Tables.{Contract, count_of}
use Rattle.model.specs.Expressions.{Child, left, right, here, child_of}
use Rattle.model.specs.Facts.{on_side, offset, code, fact_number}
use Rattle.model.specs.Kinds.{facts_in, bit_of_fact}
use Rattle.model.proofs.Laws.Facts.{code_lt}
use Rattle.kind_words.specs.Blocks.{facts_from, widened, facts_from_bit, widened_bit, Words}
use Rattle.kind_words.specs.Nodes.{CalledIs}

-- the facts of procedure p in a kind, as lanes of l bits
unfoldable pub procedure_word : (o l : ℕ) (counts offsets kind : List ℕ) → ℕ → ℕ
procedure_word o l counts offsets kind p = widened o l (o ^ get_or counts p 0) (facts_from kind (get_or offsets p 0))

-- the facts that a call node asks for; 0 for another node
unfoldable pub called_word : (o l : ℕ) (counts offsets left_kind right_kind : List ℕ) (tag child name : ℕ) → ℕ
called_word o l counts offsets left_kind right_kind tag child name =
    cond (eqb tag 2)
    (cond (eqb child 1) (procedure_word o l counts offsets left_kind name) (procedure_word o l counts offsets right_kind name))
    0

pub pow_one : (o : ℕ) → o ^ 1 ≡ o
pow_one o = pow-suc o 0 ∙ rw pow-zero (omega arith)

pub pow_two : (o : ℕ) → o ^ 2 ≡ o * o
pow_two o = pow-suc o 1 ∙ ap (λ (x : ℕ). x * o) (pow_one o)

-- the offsets of a contract's procedures, in a table
abbrev pub OffsetsIn : Contract → List ℕ → Type 0
OffsetsIn C offsets =
    (p : ℕ) → p < length C.transformation.counts → get_or offsets p 0 ≡ offset C.output.states C.transformation.counts p

-- every procedure's facts fit into a word, in lanes of O ^ K bits
pub record Narrow (C : Contract) (K : ℕ) : Type 0 where
  pub some : 0 < C.output.states
  pub narrow : (p : ℕ) → count_of C.transformation.counts p ≤ K
  pub fit : (p : ℕ) → C.output.states * C.output.states ^ count_of C.transformation.counts p ≤ 64

module _ (C : Contract) (l r : List ℕ) (K : ℕ) where
  abbrev O : ℕ
  O = C.output.states

  abbrev counts : List ℕ
  counts = C.transformation.counts

  abbrev called : Child → ℕ → ℕ → List ℕ → Bool
  called = on_side (facts_in C l) (facts_in C r)

  on-side : (c : Child) (p q : ℕ) (qs : List ℕ) → called c p q qs ≡ bit_of_fact C (on_side l r c) (fact_number O counts p q qs)
  unfolding facts_in
  on-side left p q qs = refl
  on-side right p q qs = refl
  on-side here p q qs = refl

  procedure_is : (c : Child) (p : ℕ) → Words (on_side l r c) → 0 < O → O ^ count_of counts p ≤ O ^ K → O * O ^ count_of counts p ≤ 64
      → CalledIs C.transformation C.output called K c p (widened O (O ^ K) (O ^ count_of counts p) (facts_from (on_side l r c) (offset O counts p)))
  unfolding fact_number bit_of_fact
  procedure_is c p words some narrow fit =
      record {
        fact = λ q hq qs arity below.
            at q (code O qs) hq (subst (λ (k : ℕ). code O qs < O ^ k) arity (code_lt O qs below)) ∙ sym (on-side c p q qs);
      }
    where
      at : (q c' : ℕ) → q < O → c' < O ^ count_of counts p
          → bit (widened O (O ^ K) (O ^ count_of counts p) (facts_from (on_side l r c) (offset O counts p))) (q * O ^ K + c')
          ≡ bit_of_fact C (on_side l r c) (offset O counts p + (q * O ^ count_of counts p + c'))
      at q c' hq hc =
          let inside : q * O ^ count_of counts p + c' < O * O ^ count_of counts p = digits_lt hq hc in
          widened_bit O (O ^ K) (O ^ count_of counts p) _ q c' (omega arith) narrow hq hc
          ∙ facts_from_bit (on_side l r c) (offset O counts p) (q * O ^ count_of counts p + c') words (omega arith)

  -- the code's word has the facts that a call node asks for
  pub called_is : (offsets : List ℕ) (tag child name : ℕ) → OffsetsIn C offsets → Narrow C K → Words l → Words r → tag ≡ 2 → name < length counts
      → CalledIs C.transformation C.output called K (child_of child) name (called_word O (O ^ K) counts offsets l r tag child name)
  unfolding called_word procedure_word
  called_is offsets tag child name place small wl wr t h = go (ℕ_discrete child 0) (ℕ_discrete child 1)
    where
      narrow : O ^ count_of counts name ≤ O ^ K
      narrow = pow-le-pow_right small.some (small.narrow name)

      go : Dec (child ≡ 0) → Dec (child ≡ 1)
          → CalledIs C.transformation C.output called K (child_of child) name (called_word O (O ^ K) counts offsets l r tag child name)
      go (yes z) d =
          rw (eq-eqb tag 2 t, eq-eqb child 0 z, ne_eqb child 1 (λ e. omega arith), place name h)
          (procedure_is here name wr small.some narrow (small.fit name))
      go (no nz) (yes e) =
          rw (eq-eqb tag 2 t, ne_eqb child 0 nz, eq-eqb child 1 e, place name h)
          (procedure_is left name wl small.some narrow (small.fit name))
      go (no nz) (no ne) =
          rw (eq-eqb tag 2 t, ne_eqb child 0 nz, ne_eqb child 1 ne, place name h)
          (procedure_is right name wr small.some narrow (small.fit name))
