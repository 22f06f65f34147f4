-- Readings: statements by the tests and the numbers that tell them.
use mathlib.Core.Path.{◌≡◌, ap, sym, subst, ◌∙◌}
use mathlib.Core.Bool.{Bool, true, false, ◌&&◌}
use mathlib.Core.List.{List}
use Prim.Native.Nat.{ℕ, ◌≤◌, ◌<◌}
use lib.Dec.{leb}
use lib.ListN.{length}
use borrow.Author.Tests.{le-leb, lt-leb}
use Rattle.std.specs.Prelude.{None, Result, Ok, Err}
use Rattle.lexing.specs.Words.{word_of}
use Rattle.script.specs.Spans.{span_at, whole, fault, bytes_of, due_at, overwritten}
use Rattle.script.specs.Statements.{Read, reading, misread, plain, found, name_from, name_at, list_at, run_at, word_at, statement_from, statement_at}
use Rattle.script.specs.declared.spans.Span.{Span}
use Rattle.script.specs.declared.spans.Fault.{Fault}
use Rattle.script.specs.declared.spans.Expected.TheVariants as expected
use Rattle.lexing.specs.declared.words.Word.{Word}
use Rattle.script.specs.declared.statements.Listed.TheVariants as listed
use Rattle.script.specs.declared.statements.Statement.TheVariants as statement
use Rattle.script.specs.declared.statements.Reading.{Reading}
use Rattle.script.specs.declared.statements.Misread.{Misread}

module _ (text : List ℕ) (cut : Bool) (room at : ℕ) where
  pub run_number : {rows next : ℕ} → due_at text cut at ≡ Ok (rows, next) → list_at text cut room next (listed.Run rows) ≡ run_at text cut room at
  unfolding run_at
  run_number e = rw e

  pub run_fault : {f : Fault} → due_at text cut at ≡ Err f → plain (Err (misread f at)) ≡ run_at text cut room at
  unfolding run_at
  run_fault e = rw e

module _ (text : List ℕ) (cut : Bool) (at : ℕ) (span : Span) (is : span ≡ span_at text at) where
  abbrev Cut : Bool → Type 0
  Cut t = (cut && leb (length text) span.end) ≡ t

  pub name_cut : Cut true → Err (misread (fault span expected.End) at) ≡ name_at text cut at
  unfolding name_at
  name_cut t = subst (λ (s : Span). Err (misread (fault span expected.End) at) ≡ name_from text cut at (whole text cut s)) is (rw t)

  pub name_none : Cut false → length text ≤ span.start → Err (misread (fault span expected.Name) at) ≡ name_at text cut at
  unfolding name_at
  name_none t l =
      subst (λ (s : Span). Err (misread (fault span expected.Name) at) ≡ name_from text cut at (whole text cut s)) is (rw (t, le-leb _ _ l))

  pub name_some : Cut false → span.start < length text → Ok (reading (statement.Case span) span.end) ≡ name_at text cut at
  unfolding name_at
  name_some t l = subst (λ (s : Span). Ok (reading (statement.Case span) span.end) ≡ name_from text cut at (whole text cut s)) is (rw (t, lt-leb _ _ l))

  module _ (room : ℕ) where
    pub statement_cut : Cut true → plain (Err (misread (fault span expected.End) at)) ≡ statement_at text cut room at
    unfolding statement_at
    statement_cut t =
        subst (λ (s : Span). plain (Err (misread (fault span expected.End) at)) ≡ statement_from text cut room at (whole text cut s)) is (rw t)

    pub statement_end : Cut false → length text ≤ span.start → plain (Ok None) ≡ statement_at text cut room at
    unfolding statement_at
    statement_end t l = subst (λ (s : Span). plain (Ok None) ≡ statement_from text cut room at (whole text cut s)) is (rw (t, le-leb _ _ l))

    pub statement_word : Cut false → span.start < length text → (w : Word) → w ≡ word_of (bytes_of text span) → found (word_at text cut room span w) ≡ statement_at text cut room at
    unfolding statement_at
    statement_word t l w e =
        subst (λ (s : Span). found (word_at text cut room span w) ≡ statement_from text cut room at (whole text cut s)) is (rw (t, lt-leb _ _ l) (ap (λ (x : Word). found (word_at text cut room span x)) e))

-- the answer and the closing buffer of the rest of a statement, by its word
pub word_answer : (text : List ℕ) (cut : Bool) (span : Span) (entry : List ℕ) {word w : Word} → word ≡ w → {r : Result Reading Misread} {buffer : List ℕ}
    → r ≡ (word_at text cut (length entry) span w).reading
    → buffer ≡ overwritten (word_at text cut (length entry) span w).values entry
    → (r ≡ (word_at text cut (length entry) span word).reading) × (buffer ≡ overwritten (word_at text cut (length entry) span word).values entry)
word_answer text cut span entry e p q = (
  p ∙ ap (λ (x : Word). (word_at text cut (length entry) span x).reading) (sym e),
  q ∙ ap (λ (x : Word). overwritten (word_at text cut (length entry) span x).values entry) (sym e),
)

-- and of a whole statement
pub read_answer : {A : Type 0} (entry : List ℕ) {x y : Read A} → x ≡ y → {r : Result A Misread} {buffer : List ℕ} → r ≡ x.reading → buffer ≡ overwritten x.values entry
    → (r ≡ y.reading) × (buffer ≡ overwritten y.values entry)
read_answer {A} entry e p q = (p ∙ ap (λ (z : Read A). z.reading) e, q ∙ ap (λ (z : Read A). overwritten z.values entry) e)
