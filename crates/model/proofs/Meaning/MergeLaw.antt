-- The law of merging: a type allows exactly the trees that all its parts allow, however it was put together.
use mathlib.Core.Path.{refl, subst, sym}
use mathlib.Core.Logic.{◌↔◌, ◌⊎◌, inl, inr}
use Prim.Native.Nat.{ℕ}
use Rattle.model.specs.Trees.{Tree}
use Rattle.model.specs.Tables.{OutputType}
use Rattle.model.specs.Claims.{TypeAllows}
use Rattle.model.specs.Merging.{MergedBy, MergeSteps, part, both, PutTogether, PartOf, AllowSame, MergeLaw}
use Rattle.model.proofs.Meaning.MergingAnswers.{merging_means}

module _ (S : ℕ) where
  -- "one that allows a tree exactly if both do", of what merging left in its buffers
  both_allow : (Y Z M : OutputType) → MergedBy S Y Z M → (u : Tree) → TypeAllows M u ↔ (TypeAllows Y u × TypeAllows Z u)
  both_allow Y Z M by u =
      rw by.made (((merging_means S Y by.second_symbols Z by.table_buffer by.marks_buffer).is_merged by.states by.answered).allows u)

  -- of each part
  abbrev All : MergeSteps → Tree → Type 0
  All p u = (Y : OutputType) → PartOf Y p → TypeAllows Y u

  allows-all : (p : MergeSteps) (M : OutputType) → PutTogether S p M → (u : Tree) → TypeAllows M u ↔ All p u
  allows-all (part Y) M e u = (
    λ a X is. subst (λ (T : OutputType). TypeAllows T u) (sym is) (subst (λ (T : OutputType). TypeAllows T u) e a),
    λ all. subst (λ (T : OutputType). TypeAllows T u) (sym e) (all Y refl),
  )
  allows-all (both p q) M (Y, Z, one, two, by) u =
      let (down, up) = both_allow Y Z M by u in
      let (first-down, first-up) = allows-all p Y one u in
      let (second-down, second-up) = allows-all q Z two u in
      (λ a X. each (first-down (down a).0 X) (second-down (down a).1 X), λ all. up (first-up (λ X i. all X (inl i)), second-up (λ X i. all X (inr i))))
    where
      each : {A B D : Type 0} → (A → D) → (B → D) → A ⊎ B → D
      each f g (inl a) = f a
      each f g (inr b) = g b

  same_parts : (p q : MergeSteps) → ((Y : OutputType) → PartOf Y p ↔ PartOf Y q) → AllowSame S p q
  same_parts p q same M N one two u =
      let (down, up) = allows-all p M one u in
      let (other-down, other-up) = allows-all q N two u in
      (λ a. other-up (λ Y i. down a Y ((same Y).1 i)), λ a. up (λ Y i. other-down a Y ((same Y).0 i)))

  -- the parts, exchanged, grouped anew and taken once
  exchanged : {A B : Type 0} → A ⊎ B → B ⊎ A
  exchanged (inl a) = inr a
  exchanged (inr b) = inl b

  grouped : {A B D : Type 0} → (A ⊎ B) ⊎ D → A ⊎ (B ⊎ D)
  grouped (inl (inl a)) = inl a
  grouped (inl (inr b)) = inr (inl b)
  grouped (inr d) = inr (inr d)

  regrouped : {A B D : Type 0} → A ⊎ (B ⊎ D) → (A ⊎ B) ⊎ D
  regrouped (inl a) = inl (inl a)
  regrouped (inr (inl b)) = inl (inr b)
  regrouped (inr (inr d)) = inr d

  once : {A : Type 0} → A ⊎ A → A
  once (inl a) = a
  once (inr a) = a

  pub merge_law : MergeLaw S
  merge_law =
      record {
        allows_all = allows-all;
        order = λ p q. same_parts (both p q) (both q p) (λ Y. (exchanged, exchanged));
        grouping = λ p q r. same_parts (both (both p q) r) (both p (both q r)) (λ Y. (grouped, regrouped));
        self = λ p. same_parts (both p p) p (λ Y. (once, inl));
      }
