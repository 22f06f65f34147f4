-- ReadLaws: what is read. The numbers of a statement are as many as its list counts and fit the room, and a label lies within the text.
use Rattle.std.proofs.Common.{◌≡◌, refl, Bool, true, false, ◌&&◌, List, ℕ, zero, suc, ◌≤◌, length, leb, leb-false, arith, Option, Some, None, Result, Ok, Err}
use Rattle.foundation.specs.Tests.{choose}
use Rattle.lexing.specs.Words.{word_of}
use Rattle.lexing.specs.declared.words.Word.{Word}
use Rattle.lexing.specs.declared.words.Word.TheVariants as word
use Rattle.script.specs.Spans.{span_at, bytes_of, fault, ahead_at, due_at, listing, listing_of, no_more, numbers_by, more}
use Rattle.script.specs.declared.spans.Span.{Span}
use Rattle.script.specs.declared.spans.Fault.{Fault}
use Rattle.script.specs.declared.spans.Ahead.{Ahead}
use Rattle.script.specs.declared.spans.Ahead.TheVariants as ahead
use Rattle.script.specs.declared.spans.Expected.TheVariants as expected
use Rattle.script.specs.declared.statements.Listed.{Listed}
use Rattle.script.specs.declared.statements.Listed.TheVariants as listed
use Rattle.script.specs.declared.statements.Statement.TheVariants as statement
use Rattle.script.specs.declared.statements.Reading.{Reading}
use Rattle.script.specs.declared.statements.Misread.{Misread}
use Rattle.script.proofs.Stretches.{span_within}
use Rattle.script.specs.Statements.{Read, reading, misread, plain, failed, found, name_from, name_at, size_at, check_at, write_at, list_at, run_at, word_at, statement_from, statement_at, with_number, list_by}
use Rattle.playing.specs.Desks.{LabelFits}
use Rattle.playing.specs.Plays.{count_of, label_after}

-- what is known of a statement, its numbers and the label behind it
abbrev pub Known : (text values : List ℕ) → Result (Option Reading) Misread → Type 0
Known text values (Ok (Some r)) =
    (count_of r.statement ≡ length values) × ((l : Option Span) → LabelFits l (length text) → LabelFits (label_after r.statement l) (length text))
Known text values (Ok None) = Unit {0}
Known text values (Err m) = Unit {0}

pub record Sound (text : List ℕ) (room : ℕ) (r : Read (Option Reading)) : Type 0 where
  pub most : length r.values ≤ room
  pub known : Known text r.values r.reading

-- a list fits its room
listing_short : (text : List ℕ) (cut : Bool) (room at : ℕ) → length (listing text cut room at).values ≤ room
unfolding listing
listing_short text cut zero at = go (ahead_at text cut at)
  where
    go : (a : Result Ahead Fault) → length (listing_of a at (λ value span. no_more (Err (fault span expected.Fewer)))).values ≤ 0
    go (Ok (ahead.Number value span)) = omega arith
    go (Ok (ahead.Other span)) = omega arith
    go (Err f) = omega arith
listing_short text cut (suc room) at = go (ahead_at text cut at) (λ next. listing_short text cut room next)
  where
    go : (a : Result Ahead Fault) → ((next : ℕ) → length (listing text cut room next).values ≤ room)
        → length (listing_of a at (λ value span. more value (listing text cut room span.end))).values ≤ suc room
    go (Ok (ahead.Number value span)) h = omega (arith, h span.end)
    go (Ok (ahead.Other span)) h = omega arith
    go (Err f) h = omega arith

module _ (text : List ℕ) (cut : Bool) (room : ℕ) where
  sound_fault : (m : Misread) → Sound text room (failed m)
  sound_fault m = record { most = omega arith; known = tt }

  -- a statement with no list and no label
  sound_plain : (r : Reading) → count_of r.statement ≡ 0 → ((l : Option Span) → label_after r.statement l ≡ l) → Sound text room (found (plain (Ok r)))
  sound_plain r e f = record { most = omega arith; known = (e, λ l fit. rw (f l) fit) }

  sound_list : (at : ℕ) (l : Listed) → Sound text room (found (list_at text cut room at l))
  unfolding list_at
  sound_list at l = go (listing text cut room at).ending
    where
      go : (e : Result ℕ Fault)
          → Sound text room
          (found (record { reading = list_by l at (numbers_by (length (listing text cut room at).values) e); values = (listing text cut room at).values }))
      go (Ok next) = record { most = listing_short text cut room at; known = (refl, λ k fit. fit) }
      go (Err f) = record { most = listing_short text cut room at; known = tt }

  sound_name : (at : ℕ) → Sound text room (found (plain (name_at text cut at)))
  unfolding name_at
  sound_name at = go (cut && leb (length text) (span_at text at).end) (leb (length text) (span_at text at).start) refl
    where
      go : (a b : Bool) → leb (length text) (span_at text at).start ≡ b
          → Sound text room (found (plain (name_from text cut at (choose a (Err (fault (span_at text at) expected.End)) (Ok (span_at text at))))))
      go true b e = sound_fault (misread (fault (span_at text at) expected.End) at)
      go false true e = rw e (sound_fault (misread (fault (span_at text at) expected.Name) at))
      go false false e =
          let h : (span_at text at).start ≤ length text = omega (arith, leb-false (length text) (span_at text at).start e) in
          let w = span_within text (span_at text at).start in
          rw e (record { most = omega arith; known = (refl, λ l fit. record { from = omega arith; ordered = w.0; up_to = w.1 h }) })

  sound_due : (at : ℕ) (d : Result (ℕ × ℕ) Fault) (then : ℕ → ℕ → Result Reading Misread) → ((value next : ℕ) → Sound text room (found (plain (then value next))))
      → Sound text room (found (plain (with_number Err at d then)))
  sound_due at (Ok number) then h = h number.0 number.1
  sound_due at (Err f) then h = sound_fault (misread f at)

  sound_run : (at : ℕ) → Sound text room (found (run_at text cut room at))
  unfolding run_at
  sound_run at = go (due_at text cut at)
    where
      go : (d : Result (ℕ × ℕ) Fault) → Sound text room (found (with_number failed at d (λ rows next. list_at text cut room next (listed.Run rows))))
      go (Ok number) = sound_list number.1 (listed.Run number.0)
      go (Err f) = sound_fault (misread f at)

  sound_word : (span : Span) (w : Word) → Sound text room (found (word_at text cut room span w))
  unfolding word_at size_at check_at write_at
  sound_word span word.Case = sound_name span.end
  sound_word span (word.Size z) =
      sound_due span.end (due_at text cut span.end) _ (λ value next. sound_plain (reading (statement.Size z value) next) refl (λ l. refl))
  sound_word span (word.Table t) = sound_list span.end (listed.Table t)
  sound_word span word.Rows = sound_list span.end listed.Rows
  sound_word span word.Admit = sound_plain (reading statement.Admit span.end) refl (λ l. refl)
  sound_word span word.Judge = sound_list span.end listed.Judge
  sound_word span word.Check = sound_due span.end (due_at text cut span.end) _ (λ limit next. sound_plain (reading (statement.Check limit) next) refl (λ l. refl))
  sound_word span word.Run = sound_run span.end
  sound_word span word.Write =
      sound_due span.end (due_at text cut span.end) _
      (λ row behind. sound_due behind (due_at text cut behind) _ (λ size next. sound_plain (reading (statement.Write row size) next) refl (λ l. refl)))
  sound_word span word.Show = sound_plain (reading statement.Show span.end) refl (λ l. refl)
  sound_word span word.Unknown = sound_fault (misread (fault span expected.Statement) span.start)

  pub sound : (at : ℕ) → Sound text room (statement_at text cut room at)
  unfolding statement_at
  sound at = go (cut && leb (length text) (span_at text at).end) (leb (length text) (span_at text at).start) refl
    where
      go : (a b : Bool) → leb (length text) (span_at text at).start ≡ b
          → Sound text room (statement_from text cut room at (choose a (Err (fault (span_at text at) expected.End)) (Ok (span_at text at))))
      go true b e = sound_fault (misread (fault (span_at text at) expected.End) at)
      go false true e = rw e (record { most = omega arith; known = tt })
      go false false e = rw e (sound_word (span_at text at) (word_of (bytes_of text (span_at text at))))
