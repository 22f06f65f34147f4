-- Lists: those that are filled with zeros to a length, parts that end with the list, equality as a test, tables that are filled entry by
-- entry, and lists of a function's values.
use Rattle.std.specs.Prelude.{◌≡◌, refl, List, [], ◌∷◌, ◌++◌, Bool, true, false, ℕ, zero, suc, ◌+◌, ◌-◌, ◌≤◌, ◌<◌, min, T, leb, length, get_or, take, drop, set, replicate}
use Rattle.std.proofs.Common.{ap, ap₂, subst, sym, ◌∙◌, not-suc-le-zero, le_of_suc-le-suc, arith, length-append, length-drop, take_all, get_or-set_same, get_or-set_other, get_or-append-add, get_or-drop, ext_get_or, leb-true, leb-false}
use Rattle.std.proofs.Math.Decide.{ℕ_discrete, dec_lt}
use Rattle.std.proofs.lemmas.List.{length-replicate}
use Rattle.std.proofs.Math.ListN.{get_or-append}
use Rattle.foundation.specs.Tests.{◌and◌, same, and_left, and_right, and_both, same_eq, eq_same}

-- l, and then zeros up to n numbers
unfoldable pub zero_filled : ℕ → List ℕ → List ℕ
zero_filled n l = l ++ replicate (n - length l) 0

pub length_filled : (n : ℕ) (l : List ℕ) → length l ≤ n → length (zero_filled n l) ≡ n
unfolding zero_filled
length_filled n l h = length-append l (replicate (n - length l) 0) ∙ rw (length-replicate {A = ℕ} (n - length l) 0) (omega arith)

-- a part that would end behind the list ends with it
pub take_clipped : (l : List ℕ) (n end : ℕ) → end ≡ min n (length l) → take n l ≡ take end l
take_clipped l n end e = go (leb n (length l)) refl
  where
    go : (t : Bool) → leb n (length l) ≡ t → take n l ≡ take end l
    go true t = let h : n ≤ length l = leb-true _ _ t in let same : n ≡ end = omega arith in ap (λ (k : ℕ). take k l) same
    go false t =
        let h : length l < n = leb-false _ _ t in
        take_all n l (omega arith) ∙ sym (take_all end l (omega arith))

-- two lists of numbers are equal, as a test
unfoldable pub same_list : List ℕ → List ℕ → Bool
same_list [] [] = true
same_list [] (y ∷ ys) = false
same_list (x ∷ xs) [] = false
same_list (x ∷ xs) (y ∷ ys) = same x y and same_list xs ys

pub same_list_eq : (a b : List ℕ) → T (same_list a b) → a ≡ b
unfolding same_list
same_list_eq [] [] t = refl
same_list_eq [] (y ∷ ys) t = absurd t
same_list_eq (x ∷ xs) [] t = absurd t
same_list_eq (x ∷ xs) (y ∷ ys) t = ap₂ ◌∷◌ (same_eq _ _ (and_left _ _ t)) (same_list_eq xs ys (and_right _ _ t))

pub same_list_refl : (a : List ℕ) → T (same_list a a)
unfolding same_list
same_list_refl [] = tt
same_list_refl (x ∷ xs) = and_both _ _ (eq_same x x refl) (same_list_refl xs)

-- a list of five is its five numbers
pub five : (l : List ℕ) → length l ≡ 5 → l ≡ get_or l 0 0 ∷ get_or l 1 0 ∷ get_or l 2 0 ∷ get_or l 3 0 ∷ get_or l 4 0 ∷ []
five [] e = absurd (omega arith)
five (a ∷ []) e = absurd (omega arith)
five (a ∷ b ∷ []) e = absurd (omega arith)
five (a ∷ b ∷ c ∷ []) e = absurd (omega arith)
five (a ∷ b ∷ c ∷ d ∷ []) e = absurd (omega arith)
five (a ∷ b ∷ c ∷ d ∷ f ∷ []) e = refl
five (a ∷ b ∷ c ∷ d ∷ f ∷ g ∷ l) e = absurd (omega arith)

pub append-nil : {A : Type 0} (l : List A) → l ++ [] ≡ l
append-nil [] = refl
append-nil (x ∷ l) = ap (λ m. x ∷ m) (append-nil l)

-- a table of f's values, after one of them is stored: it holds those that it held before, and that one
pub set_holds : {A : Type 0} (f : ℕ → A) (d : A) (l : List A) (k : ℕ) (v : A) → k < length l → v ≡ f k
    → (j : ℕ) → ((j ≡ k → ⊥) → get_or l j d ≡ f j) → get_or (set l k v) j d ≡ f j
set_holds {A} f d l k v h here j before = go (ℕ_discrete j k)
  where
    go : Dec (j ≡ k) → get_or (set l k v) j d ≡ f j
    go (yes e) = subst (λ (i : ℕ). get_or (set l k v) i d ≡ f i) (sym e) (get_or-set_same l k v d h ∙ here)
    go (no ne) = get_or-set_other l k j v d ne ∙ before ne

-- a table that is filled from the front: one more entry
pub filled_more : {A : Type 0} (f : ℕ → A) (d : A) (l : List A) (k : ℕ) (v : A) → k < length l
    → ((j : ℕ) → j < k → get_or l j d ≡ f j)
    → v ≡ f k
    → (j : ℕ) → j < k + 1 → get_or (set l k v) j d ≡ f j
filled_more f d l k v h before here j lt = set_holds f d l k v h here j (λ ne. before j (omega arith))

-- the list of f 0 to f (n - 1)
unfoldable pub tabulated : ℕ → (ℕ → ℕ) → List ℕ
tabulated zero f = []
tabulated (suc n) f = f 0 ∷ tabulated n (λ k. f (suc k))

pub length_tabulated : (n : ℕ) (f : ℕ → ℕ) → length (tabulated n f) ≡ n
unfolding tabulated
length_tabulated zero f = refl
length_tabulated (suc n) f = ap suc (length_tabulated n (λ k. f (suc k)))

pub tabulated_at : (n : ℕ) (f : ℕ → ℕ) (k : ℕ) → k < n → get_or (tabulated n f) k 0 ≡ f k
unfolding tabulated
tabulated_at zero f k h = absurd (not-suc-le-zero h)
tabulated_at (suc n) f zero h = refl
tabulated_at (suc n) f (suc k) h = tabulated_at n (λ j. f (suc j)) k (le_of_suc-le-suc h)

pub tabulated_cong : (n : ℕ) (f g : ℕ → ℕ) → ((k : ℕ) → f k ≡ g k) → tabulated n f ≡ tabulated n g
unfolding tabulated
tabulated_cong zero f g same = refl
tabulated_cong (suc n) f g same = ap₂ ◌∷◌ (same 0) (tabulated_cong n (λ k. f (suc k)) (λ k. g (suc k)) (λ k. same (suc k)))

-- a buffer of which the first n entries were set to f 0 to f (n - 1), the rest kept
pub tabulated_filled : (n : ℕ) (f : ℕ → ℕ) (l buffer : List ℕ) → length l ≡ length buffer → n ≤ length l
    → ((j : ℕ) → j < n → get_or l j 0 ≡ f j)
    → ((j : ℕ) → n ≤ j → get_or l j 0 ≡ get_or buffer j 0)
    → l ≡ tabulated n f ++ drop n buffer
tabulated_filled n f l buffer long h set kept = ext_get_or 0 l (tabulated n f ++ drop n buffer) whole (λ i k. go i k (dec_lt i n))
  where
    whole : length l ≡ length (tabulated n f ++ drop n buffer)
    whole = sym (length-append (tabulated n f) (drop n buffer) ∙ rw (length_tabulated n f, length-drop n buffer) (omega arith))

    go : (i : ℕ) → i < length l → Dec (i < n) → get_or l i 0 ≡ get_or (tabulated n f ++ drop n buffer) i 0
    go i k (yes b) = set i b ∙ sym (get_or-append (tabulated n f) (drop n buffer) 0 i (omega (arith, length_tabulated n f)) ∙ tabulated_at n f i b)
    go i k (no nb) =
        let at : length (tabulated n f) + (i - n) ≡ i = omega (arith, length_tabulated n f) in
        let back : n + (i - n) ≡ i = omega arith in
        kept i (omega arith)
        ∙ sym (ap (λ (j : ℕ). get_or (tabulated n f ++ drop n buffer) j 0) (sym at)
        ∙ get_or-append-add (tabulated n f) (drop n buffer) (i - n) 0
        ∙ get_or-drop n buffer (i - n) 0
        ∙ ap (λ (j : ℕ). get_or buffer j 0) back)
