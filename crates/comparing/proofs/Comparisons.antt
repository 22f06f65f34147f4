-- What a comparison says, from what is read of the two buffers: the laws of the model, in the code's answers.
use mathlib.Core.Path.{◌≡◌, refl, ap, sym, ◌∙◌}
use mathlib.Core.Bool.{true, false}
use mathlib.Core.List.{List}
use Prim.Native.Nat.{ℕ}
use Rattle.std.specs.Prelude.{Result, Ok, Err, MatchResult, IsErrAnd}
use Rattle.model.specs.Answers.{fine, refused}
use Rattle.model.specs.Admission.{outside}
use Rattle.model.specs.Documents.{numbers_taken, leading_verdict}
use Rattle.model.specs.Shorter.{Stretch, of_second, shorter_verdict, fewer, shorter}
use Rattle.model.proofs.Laws.Shorter.{second_endless, second_faulty, second-fine, symbols_refused, first_refused, second_verdict, shorter_refused, shorter_fine, Fits, shorter_fits}
use Rattle.answers.specs.declared.DocumentFault.{DocumentFault}
use Rattle.answers.specs.declared.DocumentFault.TheVariants as document
use Rattle.reading.specs.Answers as reading
use Rattle.comparing.specs.declared.ComparingFault.{ComparingFault}
use Rattle.comparing.specs.declared.ComparingFault.TheVariants as fault
use Rattle.comparing.specs.declared.Stretch as code
use Rattle.comparing.specs.Answers.{comparing_verdict, verdict_of, stretch_of, stretch_compared}
use Rattle.comparing.specs.Stretches.{Slice, part_of, shorter_part}

-- a reading whose fault is told as one of comparing: `Said f e` is what is known of the fault e made of f
module _ (Said : DocumentFault → ComparingFault → Type 0) where
  abbrev pub ToldBy : Result ℕ DocumentFault → Result ℕ ComparingFault → Type 0
  ToldBy r told = MatchResult r (λ taken. told ≡ Ok taken) (λ f. IsErrAnd told (Said f))

  pub failed : (r : Result ℕ DocumentFault) (told : Result ℕ ComparingFault) (e : ComparingFault) → ToldBy r told → told ≡ Err e → (f : DocumentFault) × (Err f ≡ r) × Said f e
  failed (Ok taken) told e cases is = let z : ⊥ = cc in absurd z
  failed (Err f) told e cases is = (f, refl, rw is at cases)

  pub passed : (r : Result ℕ DocumentFault) (told : Result ℕ ComparingFault) (taken : ℕ) → ToldBy r told → told ≡ Ok taken → Ok taken ≡ r
  passed (Ok other) told taken cases is = cc
  passed (Err f) told taken cases is = absurd (rw is at cases)

-- a comparison that gave a stretch: it has no more numbers than either buffer, and is handed back in its place
module _ (S : ℕ) (first second : Slice) {r : Result code.Stretch ComparingFault} (s : code.Stretch) (known : r ≡ Ok s) (told : stretch_compared r ≡ shorter S first.now second.now) where
  same_stretch : stretch_of s ≡ shorter S first.now second.now
  same_stretch = sym (ap stretch_compared known) ∙ told

  pub there : Fits S first.now second.now (stretch_of s)
  there = rw same_stretch (shorter_fits S first.now second.now)

  pub handed : part_of (stretch_of s) first second ≡ shorter_part S first second
  handed = ap (λ (t : Stretch). part_of t first second) same_stretch

module _ (S : ℕ) (xs ys : List ℕ) where
  -- what is promised of a comparison
  abbrev pub Says : Result code.Stretch ComparingFault → Type 0
  Says r = (verdict_of r ≡ shorter_verdict S xs ys) × (stretch_compared r ≡ shorter S xs ys)

  refused_says : (f : ComparingFault) (number place : ℕ) → comparing_verdict f ≡ refused number place → shorter_verdict S xs ys ≡ refused number place → Says (Err f)
  refused_says f number place told e = (told ∙ sym e, sym (shorter_refused S xs ys number place e))

  pub range_wrong : outside 1 16 S ≡ true → Says (Err fault.Symbols)
  range_wrong e = refused_says fault.Symbols 1 0 refl (symbols_refused S xs ys e)

  module _ (some : outside 1 16 S ≡ false) where
    pub first_wrong : (f : DocumentFault) → reading.fault_verdict f ≡ leading_verdict S xs → Says (Err (fault.First f))
    first_wrong (document.Length n) e = refused_says (fault.First (document.Length n)) 11 n refl (first_refused S xs ys some 11 n (sym e))
    first_wrong (document.Number n) e = refused_says (fault.First (document.Number n)) 12 n refl (first_refused S xs ys some 12 n (sym e))

    module _ (good : fine ≡ leading_verdict S xs) where
      pub second_wrong : (f : DocumentFault) → reading.fault_verdict f ≡ leading_verdict S ys → Says (Err (fault.Second f))
      second_wrong (document.Length n) e = refused_says (fault.Second (document.Length n)) 54 n refl (second_verdict S xs ys some (sym good) ∙ ap of_second (sym e) ∙ second_endless n)
      second_wrong (document.Number n) e = refused_says (fault.Second (document.Number n)) 55 n refl (second_verdict S xs ys some (sym good) ∙ ap of_second (sym e) ∙ second_faulty n)

      pub compared : fine ≡ leading_verdict S ys
          → (s : code.Stretch) (n m : ℕ) → stretch_of s ≡ fewer n m → n ≡ numbers_taken S xs → m ≡ numbers_taken S ys → Says (Ok s)
      compared good_second s n m hands same_first same_second =
          let e = second_verdict S xs ys some (sym good) ∙ (second-fine _).1 (sym good_second) in
          (sym e, hands ∙ rw (same_first, same_second) (sym (shorter_fine S xs ys e)))
