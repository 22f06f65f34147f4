-- A refusal told by its number and place, and nothing refused by the number 0. And what a caller in C or Rust may conclude from the two
-- answers of comparing.
use Rattle.std.specs.Prelude.{◌≡◌, refl, ℕ, ◌≤◌, eqb}
use Rattle.std.proofs.Common.{ap, ◌∙◌, arith, ne_eqb}
use Rattle.foundation.specs.Tests.{choose}
use Rattle.model.specs.Answers.{Verdict, fine, refused}
use Rattle.model.specs.Shorter.{shorter_verdict}
use Rattle.model.proofs.Meaning.Shorter.{refused_number}
use Rattle.comparing.specs.Stretches.{Slice, Part, shorter_part}
use Rattle.comparing.specs.Calls.{CallMeans, call_means}
use Rattle.goosedawn_c.specs.declared.refusal.Told.{Told}

abbrev pub told : (number place : ℕ) → Told
told number place = record { number = number; place = place }

-- "its number and place, or none"
abbrev pub told_of : Verdict → Told
told_of fine = told 0 0
told_of (refused number place) = told number place

-- the verdict that is told
abbrev pub verdict_of_told : Told → Verdict
verdict_of_told t = choose (eqb t.number 0) fine (refused t.number t.place)

-- no two verdicts are told alike, if no refusal has the number 0
pub verdict_told : (v : Verdict) → ((number place : ℕ) → v ≡ refused number place → 1 ≤ number) → verdict_of_told (told_of v) ≡ v
verdict_told fine some = refl
verdict_told (refused number place) some = rw (ne_eqb number 0 (λ zero. omega (arith, zero, some number place refl)))

-- by what the two functions promise
pub shorter_call : (S : ℕ) (first second : Slice) (part : Part) (r : Told) → part ≡ shorter_part S first second
    → r ≡ told_of (shorter_verdict S first.now second.now) → CallMeans S first second part (verdict_of_told r)
shorter_call S first second part r came tells =
    call_means S first second part (verdict_of_told r) came (ap verdict_of_told tells ∙ verdict_told _ (refused_number S first.now second.now))
