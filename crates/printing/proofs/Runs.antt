-- Runs of bytes stored one behind another, as far as there is room.
use mathlib.Core.Path.{◌≡◌, refl, ap, sym, subst, ◌∙◌}
use mathlib.Core.Bool.{Bool, true, false}
use mathlib.Core.List.{List, [], ◌∷◌, ◌++◌}
use Prim.Native.Nat.{ℕ, suc, ◌+◌, ◌-◌, ◌≤◌, ◌<◌, min}
use native.Mathlib.Nat.{add-zero}
use lib.Dec.{ltb}
use borrow.Author.Tests.{ltb-true, ltb-false}
use native.Mathlib.Numerals.{add-one}
use native.Mathlib.Omega.{arith}
use lib.ListN.{length, get_or, take, drop, set, length-set, length-drop, length-append}
use lib.Seq.{take-suc, set_out, sets, length-sets, length-take-le, take_all}
use Rattle.printing.specs.Appending.{place_after}
use Rattle.printing.proofs.Texts.{sets_clipped, sets_append}

-- what appending a text leaves: the place behind it, and the text stored
abbrev pub Appended : (entry : List ℕ) (at : ℕ) (text : List ℕ) (place : ℕ) (out : List ℕ) → Type 0
Appended entry at text place out = (place ≡ place_after entry at (length text)) × (out ≡ sets entry at text)

pub appended_length : (entry : List ℕ) (at : ℕ) (text : List ℕ) {place : ℕ} {out : List ℕ} → Appended entry at text place out → length out ≡ length entry
appended_length entry at text a = ap length a.1 ∙ length-sets entry at text

-- the text of what is known to be something else
pub appended_of : {A : Type 0} (entry : List ℕ) (at : ℕ) (text : A → List ℕ) {x y : A} {place : ℕ} {out : List ℕ} → x ≡ y
    → Appended entry at (text y) place out → Appended entry at (text x) place out
appended_of {A} entry at text {x} {y} {place} {out} e = subst (λ (z : A). Appended entry at (text z) place out) (sym e)

-- a text behind a text
pub appended_both : (entry : List ℕ) (at : ℕ) (xs ys : List ℕ) {p q : ℕ} {mid out : List ℕ} → Appended entry at xs p mid → Appended mid p ys q out
    → Appended entry at (xs ++ ys) q out
appended_both entry at xs ys {p} {q} {mid} {out} first second =
    let l : length mid ≡ length entry = appended_length entry at xs first in
    let e : p ≡ min (at + length xs) (length entry) = first.0 in
    let same : p ≡ min (at + length xs) (length mid) = omega arith in
    let k : length (xs ++ ys) ≡ length xs + length ys = length-append xs ys in
    let r : q ≡ min (p + length ys) (length mid) = second.0 in (
      omega arith,
      second.1
          ∙ ap (λ (n : ℕ). sets mid n ys) same
          ∙ sets_clipped mid ys (at + length xs)
          ∙ ap (λ (l : List ℕ). sets l (at + length xs) ys) first.1
          ∙ sym (sets_append entry xs ys at),
    )

-- some of the bytes are stored, up to a place
pub record Run (entry : List ℕ) (at : ℕ) (bytes out : List ℕ) (place i : ℕ) : Type 0 where
  pub within : i ≤ length bytes
  pub here : place ≡ place_after entry at i
  pub stored : out ≡ sets entry at (take i bytes)

pub run_start : (entry : List ℕ) (at : ℕ) (bytes : List ℕ) (place : ℕ) → place ≡ min at (length entry) → Run entry at bytes entry place 0
run_start entry at bytes place e = record { within = omega arith; here = omega arith; stored = refl }

module _ {entry : List ℕ} {at : ℕ} {bytes out : List ℕ} {place i : ℕ} (r : Run entry at bytes out place i) where
  pub run_length : length out ≡ length entry
  run_length = ap length r.stored ∙ length-sets entry at (take i bytes)

  pub run_more : {next : ℕ} {after : List ℕ} → i < length bytes → next ≡ place_after out place 1 → after ≡ set out place (get_or bytes i 0) → Run entry at bytes after next (i + 1)
  run_more {next} {after} h p e =
      let l : length out ≡ length entry = run_length in
      let q : place ≡ min (at + i) (length entry) = r.here in
      let same : place ≡ min (at + i) (length out) = omega arith in
      let b : ℕ = get_or bytes i 0 in
      record {
        within = omega arith;
        here = omega arith;
        stored =
            e
            ∙ ap (λ (n : ℕ). set out n b) same
            ∙ sets_clipped out (b ∷ []) (at + i)
            ∙ ap (λ (x : List ℕ). set x (at + i) b) r.stored
            ∙ ap (λ (n : ℕ). set (sets entry at (take i bytes)) (at + n) b) (sym (length-take-le i bytes r.within))
            ∙ sym (sets_append entry (take i bytes) (b ∷ []) at)
            ∙ ap (sets entry at) (sym (ap (λ (n : ℕ). take n bytes) (add-one i) ∙ take-suc bytes i 0 h));
      }

  pub run_end : length bytes ≤ i → (place ≡ place_after entry at (length bytes)) × (out ≡ sets entry at bytes)
  run_end h =
      let w : i ≤ length bytes = r.within in
      let all : i ≡ length bytes = omega arith in
      (r.here ∙ ap (place_after entry at) all, r.stored ∙ ap (sets entry at) (take_all i bytes h))

-- the part from a place of twenty bytes on is all that stands there
pub part_all : (bytes : List ℕ) (first : ℕ) (digits : List ℕ) → drop first bytes ≡ digits → length bytes ≡ 20 → take (20 - first) (drop first bytes) ≡ digits
part_all bytes first digits e l = take_all (20 - first) (drop first bytes) (rw (length-drop first bytes) (omega arith)) ∙ e
