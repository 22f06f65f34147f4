-- TurnLaws: reading a statement and doing it is one unfolding of what the definition prints.
use mathlib.Core.Path.{◌≡◌, refl, ap, ap₂, sym, subst, ◌∙◌}
use mathlib.Core.Bool.{Bool, true, false}
use mathlib.Core.List.{List, [], ◌++◌}
use Prim.Native.Nat.{ℕ, suc, ◌+◌, ◌-◌, ◌≤◌}
use native.Mathlib.Omega.{arith}
use lib.Dec.{leb, ltb}
use lib.ListN.{length, take, drop, length-append, length-take, length-drop, drop_of_length-le}
use borrow.Author.Tests.{ltb-false}
use lib.Seq.{take_all, take_at, drop_at, length-take-le}
use Rattle.foundation.specs.Tests.{choose}
use Rattle.foundation.specs.Lists.{append-nil}
use Rattle.lexing.specs.Text.{newlines}
use Rattle.printing.specs.Decimals.{decimal}
use Rattle.script.specs.Phrases as phrases
use Rattle.script.specs.Spans.{bytes_of, overwritten}
use Rattle.script.specs.Statements.{Read, statement_at}
use Rattle.script.specs.Meaning.{State, Step, step, play_step, played, most_numbers, most_shown, most_bytes, token_text, standing_text, found_text, expected_text, fault_line}
use Rattle.script.specs.declared.spans.Span.{Span}
use Rattle.script.specs.declared.spans.Fault.{Fault}
use Rattle.script.specs.declared.spans.Expected.{Expected}
use Rattle.script.specs.declared.spans.Expected.TheVariants as expected
use Rattle.script.specs.declared.statements.Reading.{Reading}
use Rattle.script.specs.declared.statements.Misread.{Misread}
use Rattle.std.specs.Prelude.{Option, Some, None, Result, Ok, Err}
use Rattle.playing.specs.declared.desks.Desk.{Desk}
use Rattle.playing.specs.declared.showing.Printed.{Printed}
use Rattle.playing.specs.declared.showing.Printed.TheVariants as printed
use Rattle.playing.specs.declared.answering.Done.{Done}
use Rattle.playing.specs.Desks.{kept, stretch, span, label_of, state_of, LabelFits, InOrder}
use Rattle.playing.specs.Printed.{printed_text, PrintedFits}
use Rattle.playing.specs.Plays.{Plays, done, count_of, label_after}
use Rattle.playing.specs.Turns.{Turns}
use Rattle.playing.proofs.StateLaws.{state_agrees}
use Rattle.playing.proofs.LineLaws.{decimal_short}
use Rattle.playing.proofs.ReadLaws.{Known, sound}

-- a part behind a place, lent and given back
pub part_whole : (numbers : List ℕ) (used : ℕ) → take (length numbers - used) (drop used numbers) ≡ drop used numbers
part_whole numbers used = take_all (length numbers - used) (drop used numbers) (rw (length-drop used numbers) (omega arith))

pub read_back : (text : List ℕ) (cut : Bool) (at used : ℕ) (numbers : List ℕ) {r : Result (Option Reading) Misread} {part : List ℕ}
    → r ≡ (statement_at text cut (length (take (length numbers - used) (drop used numbers))) at).reading
    → part ≡ overwritten (statement_at text cut (length (take (length numbers - used) (drop used numbers))) at).values (take (length numbers - used) (drop used numbers))
    → (r ≡ (statement_at text cut (length numbers - used) at).reading)
    × (take used numbers ++ (part ++ drop (length numbers - used) (drop used numbers)) ≡ take used numbers ++ overwritten (statement_at text cut (length numbers - used) at).values (drop used numbers))
read_back text cut at used numbers {r} {part} er ep =
    let w : take (length numbers - used) (drop used numbers) ≡ drop used numbers = part_whole numbers used in
    let l : length (take (length numbers - used) (drop used numbers)) ≡ length numbers - used = ap length w ∙ length-drop used numbers in
    let none : drop (length numbers - used) (drop used numbers) ≡ [] =
    drop_of_length-le (drop used numbers) {i = length numbers - used} (rw (length-drop used numbers) (omega arith)) in (
      er ∙ ap (λ (n : ℕ). (statement_at text cut n at).reading) l,
      ap (λ (x : List ℕ). take used numbers ++ x)
          (ap (λ (x : List ℕ). part ++ x) none ∙ append-nil part ∙ ep ∙ ap₂ (λ (n : ℕ) (x : List ℕ). overwritten (statement_at text cut n at).values x) l w),
    )

-- the line of a fault is short
choose_short : (b : Bool) (x y : List ℕ) (n : ℕ) → length x ≤ n → length y ≤ n → length (choose b x y) ≤ n
choose_short true x y n h k = h
choose_short false x y n h k = k

token_short : (token : List ℕ) → length (token_text token) ≤ 40
token_short token = go (ltb most_shown (length token)) refl
  where
    go : (b : Bool) → ltb most_shown (length token) ≡ b → length (choose b (take most_shown token ++ phrases.dots) token) ≤ 40
    go true e = omega (arith, length-append (take most_shown token) phrases.dots, length-take most_shown token)
    go false e = omega (arith, ltb-false most_shown (length token) e)

standing_short : (text : List ℕ) (s : Span) → length (standing_text text s) ≤ 40
standing_short text s = choose_short (leb (length text) s.start) phrases.the_end (token_text (bytes_of text s)) 40 (omega arith) (token_short (bytes_of text s))

found_short : (text : List ℕ) (s : Span) (e : Expected) → length (found_text text (record { span = s; expected = e })) ≤ 40
found_short text s expected.Statement = standing_short text s
found_short text s expected.Number = standing_short text s
found_short text s expected.Name = standing_short text s
found_short text s expected.End =
    omega (arith, length-append (phrases.more_than ++ decimal most_bytes) phrases.bytes_text, length-append phrases.more_than (decimal most_bytes), decimal_short most_bytes)
found_short text s expected.Fewer = standing_short text s

expected_short : (e : Expected) → length (expected_text e) ≤ 24
expected_short expected.Statement = omega arith
expected_short expected.Number = omega arith
expected_short expected.Name = omega arith
expected_short expected.End = omega arith
expected_short expected.Fewer = omega arith

pub fault_short : (text : List ℕ) (f : Fault) → length (fault_line text f) ≤ 200
unfolding fault_line
fault_short text f =
    simp length-append
    (omega (arith, decimal_short (suc (newlines (take f.span.start text))), found_short text f.span f.expected, expected_short f.expected))

-- the numbers behind a reading: those used are as they were, and the list's numbers come next
module _ (numbers values : List ℕ) (used : ℕ) (h : used ≤ length numbers) where
  abbrev read : List ℕ
  read = take used numbers ++ overwritten values (drop used numbers)

  used_long : length (take used numbers) ≡ used
  used_long = length-take-le used numbers h

  read_used : take used read ≡ take used numbers
  read_used = take_at (take used numbers) (overwritten values (drop used numbers)) used used_long

  read_values : {count : ℕ} → count ≡ length values → stretch read (span used (used + count)) ≡ values
  read_values {count} e =
      let n : used + count - used ≡ length values = omega arith in
      ap (λ (l : List ℕ). take (used + count - used) l) (drop_at (take used numbers) (overwritten values (drop used numbers)) used used_long)
      ∙ take_at values (drop (length values) (drop used numbers)) (used + count - used) (sym n)

-- whether the script goes on behind what was read
abbrev pub goes_on_after : Result (Option Reading) Misread → Bool
goes_on_after (Ok (Some r)) = true
goes_on_after (Ok None) = false
goes_on_after (Err m) = false

-- what it prints where it stops
abbrev pub stop_text : List ℕ → Result (Option Reading) Misread → List ℕ
stop_text text (Ok (Some r)) = []
stop_text text (Ok None) = []
stop_text text (Err m) = fault_line text m.fault

-- and that is all that it then prints
stop_step : (text : List ℕ) (cut : Bool) (next : State → ℕ → List ℕ) (state : State) (values : List ℕ) (r : Result (Option Reading) Misread)
    → goes_on_after r ≡ false → play_step text cut next state values r ≡ stop_text text r
stop_step text cut next state values (Ok (Some r)) g = absurd (let z : ◌≡◌ {A = ℕ} 0 1 = cc in omega arith)
stop_step text cut next state values (Ok None) g = refl
stop_step text cut next state values (Err m) g = refl

-- a turn, by what is read and what is done with it
module _ (text : List ℕ) (cut : Bool) (at : ℕ) (label : Option Span) (d : Desk) (o : InOrder d) (numbers rows words : List ℕ) (full : length numbers ≡ kept + most_numbers) where
  abbrev before : State
  before = state_of (label_of text label) d numbers rows words

  abbrev pub found : Read (Option Reading)
  found = statement_at text cut (length numbers - d.used) at

  -- the room is the definition's
  room : most_numbers - before.used ≡ length numbers - d.used
  room = let l : kept ≤ d.used = o.least in let m : d.used ≤ kept + most_numbers = o.most in omega arith

  unfolds : (n : ℕ) → played text cut (suc n) before at ≡ play_step text cut (played text cut n) before found.values found.reading
  unfolding played
  unfolds n =
      ap (λ (k : ℕ). play_step text cut (played text cut n) before (statement_at text cut k at).values (statement_at text cut k at).reading) room

  -- what is printed where this is read
  by_reading : (n : ℕ) {r : Result (Option Reading) Misread} → r ≡ found.reading
      → played text cut (suc n) before at ≡ play_step text cut (played text cut n) before found.values r
  by_reading n er = unfolds n ∙ ap (play_step text cut (played text cut n) before found.values) (sym er)

  module _ {r : Reading} {numbers₁ : List ℕ} (er : Ok (Some r) ≡ found.reading) (en : numbers₁ ≡ take d.used numbers ++ overwritten found.values (drop d.used numbers)) where
    within : d.used ≤ length numbers
    within = let m : d.used ≤ kept + most_numbers = o.most in omega arith

    known : Known text found.values (Ok (Some r))
    known = subst (Known text found.values) (sym er) (sound text cut (length numbers - d.used) at).known

    pub count_fits : length numbers₁ ≡ length numbers → d.used + count_of r.statement ≤ length numbers₁
    count_fits l =
        let c : count_of r.statement ≡ length found.values = known.0 in
        let m : length found.values ≤ length numbers - d.used = (sound text cut (length numbers - d.used) at).most in
        let w : d.used ≤ length numbers = within in
        omega arith

    -- the statement is done
    pub turn_on : {x : Done} {numbers₂ rows₂ words₂ out₂ : List ℕ}
        → Plays (label_of text label) (label_of text x.label)
        (step (state_of (label_of text label) d numbers₁ rows words) text r.statement (stretch numbers₁ (span d.used (d.used + count_of r.statement))))
        x.desk
        numbers₂
        rows₂
        words₂
        out₂
        x.printed
        → LabelFits label (length text)
        → x.label ≡ label_after r.statement label
        → Turns text cut at label before (record { done = x; next = Some r.next }) numbers₂ rows₂ words₂ out₂
    turn_on {x} {numbers₂} {rows₂} {words₂} {out₂} p fit el =
        let s : Step = step before text r.statement found.values in
        let e₁ : state_of (label_of text label) d numbers₁ rows words ≡ before =
        state_agrees (label_of text label) d numbers₁ numbers rows words o (ap (take d.used) en ∙ read_used numbers found.values d.used within) in
        let e₂ : stretch numbers₁ (span d.used (d.used + count_of r.statement)) ≡ found.values =
        ap (λ (l : List ℕ). stretch l (span d.used (d.used + count_of r.statement))) en ∙ read_values numbers found.values d.used within known.0 in
        let e : step (state_of (label_of text label) d numbers₁ rows words) text r.statement (stretch numbers₁ (span d.used (d.used + count_of r.statement))) ≡ s =
        ap₂ (λ (a : State) (v : List ℕ). step a text r.statement v) e₁ e₂ in
        let q : Plays (label_of text label) (label_of text x.label) s x.desk numbers₂ rows₂ words₂ out₂ x.printed =
        subst (λ (t : Step). Plays (label_of text label) (label_of text x.label) t x.desk numbers₂ rows₂ words₂ out₂ x.printed) e p in
        record {
          plays = λ n. by_reading n er ∙ ap₂ (λ (l : List ℕ) (a : State). l ++ played text cut n a r.next) (sym q.text) (sym q.state);
          order = q.order;
          labelled = rw el (known.1 label fit);
          fits = q.fits;
        }

  -- there is no statement any more
  pub turn_end : {numbers₂ rows₂ words₂ out₂ : List ℕ} → Ok None ≡ found.reading → LabelFits label (length text)
      → Turns text cut at label before (record { done = done label d printed.Nothing; next = None }) numbers₂ rows₂ words₂ out₂
  turn_end er fit = record { plays = λ n. by_reading n er; order = o; labelled = fit; fits = tt }

  -- there is a fault
  pub turn_fault : {m : Misread} {place : ℕ} {numbers₂ rows₂ words₂ out₂ : List ℕ} → Err m ≡ found.reading → take place out₂ ≡ fault_line text m.fault → place ≤ length out₂
      → LabelFits label (length text)
      → Turns text cut at label before (record { done = done label d (printed.Bare place); next = None }) numbers₂ rows₂ words₂ out₂
  turn_fault {place = place} {out₂ = out₂} er shown fits fit =
      record { plays = λ n. by_reading n er ∙ sym shown ∙ sym (append-nil (take place out₂)); order = o; labelled = fit; fits = fits }

  -- the script stops
  pub turn_off : {r : Result (Option Reading) Misread} {p : Printed} {numbers₂ rows₂ words₂ out₂ : List ℕ} → r ≡ found.reading → goes_on_after r ≡ false
      → ((l : List ℕ) → printed_text l out₂ p ≡ stop_text text r) → PrintedFits p (length out₂) → LabelFits label (length text)
      → Turns text cut at label before (record { done = done label d p; next = None }) numbers₂ rows₂ words₂ out₂
  turn_off {r} {p} {out₂ = out₂} er g shown fits fit =
      record {
        plays =
            λ n.
            by_reading n er
            ∙ stop_step text cut (played text cut n) before found.values r g
            ∙ sym (shown (label_of text label))
            ∙ sym (append-nil (printed_text (label_of text label) out₂ p));
        order = o;
        labelled = fit;
        fits = fits;
      }
