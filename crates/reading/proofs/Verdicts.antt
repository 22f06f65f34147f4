-- What reading gives, from what the numbers looked at begin with.
use mathlib.Core.Path.{◌≡◌, refl, ap, sym, ◌∙◌}
use mathlib.Core.Bool.{Bool, true, false, ◌&&◌}
use mathlib.Core.List.{List}
use Rattle.std.specs.Prelude.{Result, Ok, Err, MatchResult, IsErrAnd}
use Prim.Native.Nat.{ℕ, ◌≤◌, min}
use native.Mathlib.Omega.{arith}
use borrow.Author.Tests.{ltb-true, ltb-false, lt-ltb, le-ltb}
use lib.Dec.{eqb, ltb}
use lib.ListN.{length, take}
use Rattle.foundation.specs.Lists.{take_clipped}
use Rattle.model.specs.Answers.{fine, refused, refuse_if, ◌then◌}
use Rattle.model.specs.Documents as model
use Rattle.model.specs.Documents.{most_numbers, leading, numbers_taken, verdict_on, leading_verdict}
use Rattle.answers.specs.declared.DocumentFault.{DocumentFault}
use Rattle.reading.specs.Answers.{leading_of, fault_verdict, reading_verdict, taken_by_reading}
use Rattle.model.proofs.Laws.Rules.{both_true}
use Rattle.model.proofs.Laws.Tests.{and_right}

-- nothing is refused where a tree leads
pub tree_there : (n at : ℕ) → fine ≡ verdict_on n (model.ends at)
unfolding model.endless model.fault_of refuse_if ◌then◌
tree_there n at = refl

-- one test parts 11 from 12; its second bound is a parameter, so that a wrong one fails there
module _ (n at most : ℕ) where
  pub too_long : most_numbers ≤ most → (eqb at most_numbers && ltb most n) ≡ true → refused 11 n ≡ verdict_on n (model.faulty at)
  unfolding model.endless refuse_if ◌then◌
  too_long h e =
      let (last, more) = both_true (eqb at most_numbers) (ltb most n) e in
      rw (last, lt-ltb most_numbers n (omega (arith, ltb-true most n more)))

  pub fault_there : most ≤ most_numbers → (eqb at most_numbers && ltb most n) ≡ false → refused 12 at ≡ verdict_on n (model.faulty at)
  unfolding model.endless model.fault_of refuse_if ◌then◌
  fault_there h e = go (eqb at most_numbers) refl
    where
      go : (last : Bool) → eqb at most_numbers ≡ last → refused 12 at ≡ verdict_on n (model.faulty at)
      go false t = rw t
      go true t = rw (t, le-ltb most_numbers n (omega (arith, ltb-false most n (and_right _ _ e t))))

-- a reading whose fault is told: `Said place fault` is what is known of the fault made of a place
abbrev pub ToldBy : (ℕ → DocumentFault → Type 0) → Result ℕ ℕ → Result ℕ DocumentFault → Type 0
ToldBy Said r told = MatchResult r (λ taken. told ≡ Ok taken) (λ place. IsErrAnd told (Said place))

pub told_verdict : (n : ℕ) (Said : ℕ → DocumentFault → Type 0) (r : Result ℕ ℕ) (told : Result ℕ DocumentFault) → ToldBy Said r told
    → ((place : ℕ) (fault : DocumentFault) → Said place fault → fault_verdict fault ≡ verdict_on n (model.faulty place))
    → reading_verdict told ≡ verdict_on n (leading_of r)
told_verdict n Said (Ok taken) told e right = rw e (tree_there n taken)
told_verdict n Said (Err place) (Err fault) said right = right place fault said
told_verdict n Said (Err place) (Ok _) e right = elim e [ ]

pub told_taken : (Said : ℕ → DocumentFault → Type 0) (r : Result ℕ ℕ) (told : Result ℕ DocumentFault) → ToldBy Said r told → taken_by_reading told ≡ model.taken_by_leading (leading_of r)
told_taken Said (Ok taken) told e = rw e
told_taken Said (Err place) (Err fault) said = refl
told_taken Said (Err place) (Ok _) e = elim e [ ]

module _ (S : ℕ) (xs : List ℕ) (end : ℕ) (l : model.Leading) (looked : end ≡ min most_numbers (length xs)) (begins : leading S (take end xs) ≡ l) where
  pub read_begins : model.reading S xs ≡ l
  unfolding model.reading
  read_begins = ap (leading S) (take_clipped xs most_numbers end looked) ∙ begins

  pub verdict_begins : verdict_on (length xs) l ≡ leading_verdict S xs
  unfolding leading_verdict
  verdict_begins = ap (verdict_on (length xs)) (sym read_begins)

  pub taken_begins : model.taken_by_leading l ≡ numbers_taken S xs
  unfolding numbers_taken
  taken_begins = ap model.taken_by_leading (sym read_begins)
