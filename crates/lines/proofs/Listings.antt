-- Lists of numbers, appended one number after another.
use Rattle.std.proofs.Common.{map}
use Rattle.std.proofs.lemmas.List.{map-id}
use mathlib.Core.Path.{◌≡◌, refl, ap, sym, subst, ◌∙◌}
use mathlib.Core.List.{List, [], ◌∷◌, ◌++◌, append_assoc, append-nil}
use Prim.Native.Nat.{ℕ, ◌+◌, ◌≤◌, ◌<◌, min}
use native.Mathlib.Numerals.{add-one}
use native.Mathlib.Omega.{arith}
use lib.ListN.{length, get_or, take}
use lib.Seq.{take-suc, take_all}
use Rattle.printing.specs.Decimals.{decimal}
use Rattle.printing.specs.Appending.{Appends}
use Rattle.printing.specs.declared.pages.Page.{Page}
use Rattle.printing.proofs.Texts.{appends_both}
use Rattle.printing.proofs.Runs.{Appended, appended_length, appended_both}
use Rattle.script.specs.Meaning.{spaced}

spaced_append : (xs ys : List ℕ) → spaced (xs ++ ys) ≡ spaced xs ++ spaced ys
unfolding spaced
spaced_append [] ys = refl
spaced_append (x ∷ xs) ys = ap (λ (l : List ℕ). 32 ∷ (decimal x ++ l)) (spaced_append xs ys) ∙ ap (λ (l : List ℕ). 32 ∷ l) (sym (append_assoc (decimal x) (spaced xs) (spaced ys)))

spaced_one : (n : ℕ) → spaced (n ∷ []) ≡ 32 ∷ decimal n
unfolding spaced
spaced_one n = ap (λ (l : List ℕ). 32 ∷ l) (append-nil (decimal n))

-- the numbers up to one, and that one
spaced_more : (numbers : List ℕ) (i n : ℕ) → i < length numbers → n ≡ get_or numbers i 0
    → spaced (take i numbers) ++ (32 ∷ decimal n) ≡ spaced (take (i + 1) numbers)
spaced_more numbers i n h e =
    ap (λ (l : List ℕ). spaced (take i numbers) ++ l) (sym (spaced_one n))
    ∙ sym (spaced_append (take i numbers) (n ∷ []))
    ∙ ap (λ (m : ℕ). spaced (take i numbers ++ (m ∷ []))) e
    ∙ ap spaced (sym (ap (λ (k : ℕ). take k numbers) (add-one i) ∙ take-suc numbers i 0 h))

-- no number, and one more
pub spaced_none : {a b : Page} → Appends a b [] → Appends a b (spaced [])
unfolding spaced
spaced_none h = h

pub spaced_next : (numbers : List ℕ) (i n : ℕ) {a b c : Page} → i < length numbers → n ≡ get_or numbers i 0 → Appends a b (spaced (take i numbers))
    → Appends b c (32 ∷ decimal n) → Appends a c (spaced (take (i + 1) numbers))
spaced_next numbers i n {a} {b} {c} h e first second = subst (Appends a c) (spaced_more numbers i n h e) (appends_both first second)

-- numbers that are shown as they are
pub spaced_own : (numbers : List ℕ) {a b : Page} → Appends a b (spaced (map (λ n. n) numbers)) → Appends a b (spaced numbers)
spaced_own numbers {a} {b} = subst (λ (some : List ℕ). Appends a b (spaced some)) (map-id numbers)

-- some of the numbers are appended
pub record Listed (entry : List ℕ) (at : ℕ) (numbers out : List ℕ) (place i : ℕ) : Type 0 where
  pub within : i ≤ length numbers
  pub appended : Appended entry at (spaced (take i numbers)) place out

pub listed_start : (entry : List ℕ) (at : ℕ) (numbers : List ℕ) (place : ℕ) → place ≡ min at (length entry) → Listed entry at numbers entry place 0
unfolding spaced
listed_start entry at numbers place e = record { within = omega arith; appended = (omega arith, refl) }

module _ (entry : List ℕ) (at : ℕ) (numbers : List ℕ) {out : List ℕ} {place i : ℕ} (l : Listed entry at numbers out place i) where
  pub listed_length : length out ≡ length entry
  listed_length = appended_length entry at (spaced (take i numbers)) l.appended

  pub listed_more : (n : ℕ) {next : ℕ} {after : List ℕ} → i < length numbers → n ≡ get_or numbers i 0 → Appended out place (32 ∷ decimal n) next after
      → Listed entry at numbers after next (i + 1)
  listed_more n {next} {after} h e a = record {
    within = omega arith;
    appended =
        subst (λ (text : List ℕ). Appended entry at text next after) (spaced_more numbers i n h e)
        (appended_both entry at (spaced (take i numbers)) (32 ∷ decimal n) l.appended a);
  }

  pub listed_end : length numbers ≤ i → Appended entry at (spaced numbers) place out
  listed_end h = subst (λ (some : List ℕ). Appended entry at (spaced some) place out) (take_all i numbers h) l.appended
