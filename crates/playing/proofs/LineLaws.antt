-- LineLaws: lines put together, and what stands of them in the output buffer where they fit.
use Rattle.std.proofs.lemmas.List.{take-replicate}
use mathlib.Core.Path.{◌≡◌, refl, ap, sym, subst, ◌∙◌}
use mathlib.Core.Bool.{Bool, true, false}
use mathlib.Core.List.{List, [], ◌∷◌, ◌++◌, append_assoc}
use Prim.Native.Nat.{ℕ, zero, suc, ◌+◌, ◌*◌, ◌-◌, ◌/◌, ◌%◌, ◌≤◌, min}
use native.Mathlib.Omega.{arith}
use lib.Dec.{ltb}
use lib.ListN.{length, take, drop, length-append, length-take, length-replicate, get_or-replicate}
use lib.Seq.{sets-eq, length-sets, take_at, drop_at}
use Rattle.foundation.specs.Tests.{choose}
use Rattle.model.specs.Answers.{Answer, admitted, judged, tree, pass, ran, written, refusal, stopped}
use Rattle.model.specs.WritingOut.{Written}
use Rattle.printing.specs.Decimals.{digits_onto, decimal}
use Rattle.printing.specs.Appending.{Appended, Appends}
use Rattle.printing.specs.declared.pages.Page.{Page}
use Rattle.printing.proofs.Texts.{appended_both}
use Rattle.lines.proofs.Listings.{spaced_next}
use Rattle.script.specs.Phrases as phrases
use Rattle.script.specs.Meaning.{line, spaced, untouched, answer_text, written_text}

-- sevens, one behind another
pub sevens_more : (i : ℕ) {a b c : Page} → Appends a b (spaced (untouched i)) → Appends b c (32 ∷ decimal 7) → Appends a c (spaced (untouched (i + 1)))
sevens_more i {a} {b} {c} first second =
    let all : List ℕ = untouched (i + 1) in
    let n : length all ≡ i + 1 = length-replicate {A = ℕ} (i + 1) 7 in
    let front : take i all ≡ untouched i = take-replicate i (i + 1) 7 (omega arith) in
    let whole : take (i + 1) all ≡ all = take-replicate (i + 1) (i + 1) 7 (omega arith) in
    subst (λ (l : List ℕ). Appends a c (spaced l)) whole
    (spaced_next all i 7 (omega arith) (sym (get_or-replicate {A = ℕ} (i + 1) i 7 0 (omega arith))) (subst (λ (l : List ℕ). Appends a b (spaced l)) (sym front) first) second)

-- a text that fits stands at the beginning of the buffer
module _ (entry text : List ℕ) {place : ℕ} {out : List ℕ} (a : Appended entry 0 text place out) (h : length text ≤ length entry) where
  pub appended_place : place ≡ length text
  appended_place = let e : place ≡ min (0 + length text) (length entry) = a.behind in omega arith

  appended_text : out ≡ text ++ drop (length text) entry
  appended_text =
      let z : 0 + length text ≡ length text = omega arith in
      a.stored ∙ sets-eq text entry 0 (omega arith) ∙ ap (λ (n : ℕ). text ++ drop n entry) z

  pub appended_first : take place out ≡ text
  appended_first = ap (take place) appended_text ∙ take_at text (drop (length text) entry) place (sym appended_place)

  pub appended_within : place ≤ length out
  appended_within =
      let l : length out ≡ length entry = ap length a.stored ∙ length-sets entry 0 text in
      let p : place ≡ length text = appended_place in
      omega arith

-- and so do two texts, one behind the other
pub record Both (x y : List ℕ) (n m : ℕ) (out : List ℕ) : Type 0 where
  pub front : take n out ≡ x
  pub back : take (m - n) (drop n out) ≡ y
  pub ordered : n ≤ m
  pub within : m ≤ length out

pub appended_two : (entry x y : List ℕ) {n m : ℕ} {mid out : List ℕ} → Appended entry 0 x n mid → Appended mid n y m out → length x + length y ≤ length entry → Both x y n m out
appended_two entry x y {n} {m} {mid} {out} a b h =
    let l : length (x ++ y) ≡ length x + length y = length-append x y in
    let c : Appended entry 0 (x ++ y) m out = appended_both entry 0 x y a b in
    let fits : length (x ++ y) ≤ length entry = omega arith in
    let p : n ≡ length x = appended_place entry x a (omega arith) in
    let q : m ≡ length (x ++ y) = appended_place entry (x ++ y) c fits in
    let rest : List ℕ = drop (length (x ++ y)) entry in
    let e : out ≡ x ++ (y ++ rest) = appended_text entry (x ++ y) c fits ∙ append_assoc x y rest in
    record {
      front = ap (take n) e ∙ take_at x (y ++ rest) n (sym p);
      back = ap (λ (o : List ℕ). take (m - n) (drop n o)) e ∙ ap (take (m - n)) (drop_at x (y ++ rest) n (sym p)) ∙ take_at y rest (m - n) (omega arith);
      ordered = omega arith;
      within = appended_within entry (x ++ y) c fits;
    }

-- how long the texts are
digits_short : (n value : ℕ) (rest : List ℕ) → length (digits_onto n value rest) ≤ n + length rest
unfolding digits_onto
digits_short zero value rest = omega arith
digits_short (suc n) value rest = go (ltb value 10) (digits_short n (value / 10) ((48 + value % 10) ∷ rest))
  where
    go : (b : Bool) → length (digits_onto n (value / 10) ((48 + value % 10) ∷ rest)) ≤ n + length ((48 + value % 10) ∷ rest)
        → length (choose b ((48 + value) ∷ rest) (digits_onto n (value / 10) ((48 + value % 10) ∷ rest))) ≤ suc n + length rest
    go true h = omega arith
    go false h = omega arith

pub decimal_short : (value : ℕ) → length (decimal value) ≤ 20
unfolding decimal
decimal_short value = omega (arith, digits_short 20 value [])

pub spaced_short : (numbers : List ℕ) → length (spaced numbers) ≤ 21 * length numbers
unfolding spaced
spaced_short [] = omega arith
spaced_short (n ∷ numbers) = omega (arith, spaced_short numbers, decimal_short n, length-append (decimal n) (spaced numbers))

pub sevens_short : (count : ℕ) → length (spaced (untouched count)) ≡ 2 * count
unfolding spaced decimal digits_onto
sevens_short zero = refl
sevens_short (suc count) = omega (arith, sevens_short count)

pub line_length : (text : List ℕ) → length (line text) ≡ 2 + length text
line_length text = omega (arith, length-append text (10 ∷ []))

one_short : (word : List ℕ) (value : ℕ) → length (word ++ decimal value) ≤ length word + 20
one_short word value = omega (arith, length-append word (decimal value), decimal_short value)

two_short : (word : List ℕ) (first second : ℕ) → length (word ++ decimal first ++ (32 ∷ decimal second)) ≤ length word + 41
two_short word first second =
    omega (arith, length-append (word ++ decimal first) (32 ∷ decimal second), length-append word (decimal first), decimal_short first, decimal_short second)

three_short : (word : List ℕ) (first second third : ℕ) → length (word ++ decimal first ++ (32 ∷ decimal second) ++ (32 ∷ decimal third)) ≤ length word + 62
three_short word first second third =
    omega (arith, length-append (word ++ decimal first ++ (32 ∷ decimal second)) (32 ∷ decimal third), two_short word first second, decimal_short third)

pub answer_short : (a : Answer) → length (answer_text a) ≤ 70
answer_short admitted = omega arith
answer_short (judged result taken) = omega (arith, two_short phrases.judged result taken)
answer_short (tree row) = omega (arith, one_short phrases.shown row)
answer_short (pass count) = omega (arith, one_short phrases.passed count)
answer_short (ran root used taken) = omega (arith, two_short phrases.ran root used)
answer_short (written count) = omega (arith, one_short phrases.wrote count)
answer_short (refusal number place) = omega (arith, two_short phrases.refused number place)
answer_short (stopped limit height) = omega (arith, three_short phrases.refused 10 limit height)

pub written_short : (w : Written) → length (written_text w) ≤ 71 + 21 * length w.numbers
written_short w = go w.answer
  where
    go : (a : Answer) → length (written_text (record { answer = a; numbers = w.numbers })) ≤ 71 + 21 * length w.numbers
    go admitted = omega (arith, answer_short admitted)
    go (judged result taken) = omega (arith, answer_short (judged result taken))
    go (tree row) = omega (arith, answer_short (tree row))
    go (pass count) = omega (arith, answer_short (pass count))
    go (ran root used taken) = omega (arith, answer_short (ran root used taken))
    go (written count) =
        let list : List ℕ = take count w.numbers in
        omega (arith, answer_short (written count), length-append (answer_text (written count)) (58 ∷ spaced list), spaced_short list, length-take count w.numbers)
    go (refusal number place) = omega (arith, answer_short (refusal number place))
    go (stopped limit height) = omega (arith, answer_short (stopped limit height))
