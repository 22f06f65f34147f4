-- Text put behind text.
use Rattle.std.proofs.Common.{◌≡◌, refl, ap, sym, subst, ◌∙◌, Bool, true, false, List, [], ◌∷◌, ◌++◌, ℕ, suc, ◌+◌, ◌≤◌, ◌<◌, min, ltb, length, get_or, take, set, arith, add-one, length-append}
use Rattle.std.proofs.lemmas.List.Edits.{sets}
use native.Mathlib.Nat.{add-zero}
use borrow.Author.Tests.{ltb-true, ltb-false}
use lib.ListN.{length-set}
use lib.Seq.{take-suc, take_all, set_out, length-sets}
use Rattle.printing.specs.Appending.{Appended, Appends}
use Rattle.printing.specs.declared.pages.Page.{Page}

pub sets_out : (l vs : List ℕ) (at : ℕ) → length l ≤ at → sets l at vs ≡ l
sets_out l [] at h = refl
sets_out l (v ∷ vs) at h =
    sets_out (set l at v) vs (suc at) (rw (length-set l at v) (omega arith))
    ∙ set_out l at v h

-- a text stored behind the end is none
pub sets_clipped : (l vs : List ℕ) (p : ℕ) → sets l (min p (length l)) vs ≡ sets l p vs
sets_clipped l vs p = go (ltb p (length l)) refl
  where
    go : (t : Bool) → ltb p (length l) ≡ t → sets l (min p (length l)) vs ≡ sets l p vs
    go true e = ap (λ (n : ℕ). sets l n vs) (let h : p < length l = ltb-true _ _ e in omega arith)
    go false e =
        let h : length l ≤ p = ltb-false _ _ e in
        sets_out l vs (min p (length l)) (omega arith) ∙ sym (sets_out l vs p h)

pub sets_append : (l xs ys : List ℕ) (at : ℕ) → sets l at (xs ++ ys) ≡ sets (sets l at xs) (at + length xs) ys
sets_append l [] ys at = ap (λ (n : ℕ). sets l n ys) (sym (add-zero at))
sets_append l (x ∷ xs) ys at = sets_append (set l at x) xs ys (suc at) ∙ ap (λ (n : ℕ). sets (sets (set l at x) (suc at) xs) n ys) (omega arith)

pub appended_length : (entry : List ℕ) (at : ℕ) (text : List ℕ) {place : ℕ} {out : List ℕ} → Appended entry at text place out → length out ≡ length entry
appended_length entry at text a = ap length a.stored ∙ length-sets entry at text

-- a text behind a text, in a buffer and on a page
pub appended_both : (entry : List ℕ) (at : ℕ) (xs ys : List ℕ) {p q : ℕ} {mid out : List ℕ} → Appended entry at xs p mid → Appended mid p ys q out
    → Appended entry at (xs ++ ys) q out
appended_both entry at xs ys {p} {q} {mid} {out} first second =
    let l : length mid ≡ length entry = appended_length entry at xs first in
    let e : p ≡ min (at + length xs) (length entry) = first.behind in
    let same : p ≡ min (at + length xs) (length mid) = omega arith in
    let k : length (xs ++ ys) ≡ length xs + length ys = length-append xs ys in
    let r : q ≡ min (p + length ys) (length mid) = second.behind in
    record {
      behind = omega arith;
      stored =
          second.stored
          ∙ ap (λ (n : ℕ). sets mid n ys) same
          ∙ sets_clipped mid ys (at + length xs)
          ∙ ap (λ (l : List ℕ). sets l (at + length xs) ys) first.stored
          ∙ sym (sets_append entry xs ys at);
    }

pub appends_both : {xs ys : List ℕ} {a b c : Page} → Appends a b xs → Appends b c ys → Appends a c (xs ++ ys)
appends_both {xs} {ys} first second = record { put = appended_both _ _ xs ys first.put second.put; same_buffer = second.same_buffer ∙ first.same_buffer }

-- a byte, and a text behind it
pub appends_byte : {x : ℕ} {ys : List ℕ} {a b c : Page} → Appends a b (x ∷ []) → Appends b c ys → Appends a c (x ∷ ys)
appends_byte first second = appends_both first second

-- no text, behind which the place is the end at most
pub appends_none : {p q : Page} → q.at ≡ min p.at (length p.out.now) → q.out.now ≡ p.out.now → q.out.ghost_name ≡ p.out.ghost_name → Appends p q []
appends_none place same buffer = record { put = record { behind = rw add-zero place; stored = same }; same_buffer = buffer }

-- some bytes of a text, and the next
pub appends_more : (bytes : List ℕ) (i : ℕ) {a b c : Page} → i < length bytes → Appends a b (take i bytes) → Appends b c (get_or bytes i 0 ∷ [])
    → Appends a c (take (i + 1) bytes)
appends_more bytes i h first second = rw (add-one i, take-suc bytes i 0 h) (appends_both first second)

-- all bytes of a text
pub appends_all : (bytes : List ℕ) (i : ℕ) {a b : Page} → length bytes ≤ i → Appends a b (take i bytes) → Appends a b bytes
appends_all bytes i {a} {b} h first = subst (Appends a b) (take_all i bytes h) first
