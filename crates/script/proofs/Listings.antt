-- Listings: a list of numbers read one by one. What was read stands at the beginning of the buffer, and the whole list is
-- that followed by the list from the place reached.
use mathlib.Core.Path.{◌≡◌, refl, ap, sym, ◌∙◌}
use mathlib.Core.Bool.{Bool}
use mathlib.Core.List.{List, [], ◌∷◌, ◌++◌, append_assoc}
use Prim.Native.Nat.{ℕ, zero, suc, ◌+◌, ◌-◌, ◌≤◌, ◌<◌}
use native.Mathlib.Numerals.{add-one}
use native.Mathlib.Omega.{arith}
use lib.ListN.{length, take, drop, set, length-set, take-append-drop}
use lib.Seq.{length-take-le, take-suc-set, drop-set-lt, drop-drop}
use Rattle.foundation.specs.Lists.{append-nil}
use Rattle.script.specs.Spans.{fault, ahead_at, Listing, more, no_more, listing, numbers_by, numbers_of, overwritten}
use Rattle.script.specs.declared.spans.Span.{Span}
use Rattle.script.specs.declared.spans.Fault.{Fault}
use Rattle.script.specs.declared.spans.Expected.TheVariants as expected
use Rattle.script.specs.declared.spans.Ahead.TheVariants as ahead
use Rattle.std.specs.Prelude.{Result, Ok, Err}

-- a list behind numbers
abbrev pub behind : List ℕ → Listing → Listing
behind vs l = record { values = vs ++ l.values; ending = l.ending }

module _ (text : List ℕ) (cut : Bool) (room at : ℕ) where
  pub listing_number : {value : ℕ} {span : Span} → ahead_at text cut at ≡ Ok (ahead.Number value span)
      → listing text cut (suc room) at ≡ more value (listing text cut room span.end)
  unfolding listing
  listing_number e = rw e

  pub listing_full : {value : ℕ} {span : Span} → ahead_at text cut at ≡ Ok (ahead.Number value span)
      → listing text cut zero at ≡ no_more (Err (fault span expected.Fewer))
  unfolding listing
  listing_full e = rw e

pub listing_other : (text : List ℕ) (cut : Bool) (room at : ℕ) {span : Span} → ahead_at text cut at ≡ Ok (ahead.Other span) → listing text cut room at ≡ no_more (Ok at)
unfolding listing
listing_other text cut zero at e = rw e
listing_other text cut (suc room) at e = rw e

pub listing_fault : (text : List ℕ) (cut : Bool) (room at : ℕ) {f : Fault} → ahead_at text cut at ≡ Err f → listing text cut room at ≡ no_more (Err f)
unfolding listing
listing_fault text cut zero at e = rw e
listing_fault text cut (suc room) at e = rw e

-- `count` numbers are read and stand in the buffer, and the place behind them is reached
pub record Reached (text : List ℕ) (cut : Bool) (at : ℕ) (entry : List ℕ) (place count : ℕ) (buffer : List ℕ) : Type 0 where
  pub same : length buffer ≡ length entry
  pub within : count ≤ length entry
  pub rest : drop count buffer ≡ drop count entry
  pub so_far : listing text cut (length entry) at ≡ behind (take count buffer) (listing text cut (length entry - count) place)

pub reached_start : (text : List ℕ) (cut : Bool) (at : ℕ) (entry : List ℕ) → Reached text cut at entry at 0 entry
reached_start text cut at entry = record { same = refl; within = omega arith; rest = refl; so_far = ap (λ (n : ℕ). listing text cut n at) (omega arith) }

module _ {text : List ℕ} {cut : Bool} {at : ℕ} {entry : List ℕ} {place count : ℕ} {buffer : List ℕ} (r : Reached text cut at entry place count buffer) where
  pub reached_more : {value : ℕ} {span : Span} → count < length buffer → ahead_at text cut place ≡ Ok (ahead.Number value span)
      → Reached text cut at entry span.end (count + 1) (set buffer count value)
  reached_more {value} {span} h e =
      let s : length buffer ≡ length entry = r.same in
      let room : ℕ = length entry - (count + 1) in
      let left : length entry - count ≡ suc room = omega arith in
      let step : listing text cut (length entry - count) place ≡ more value (listing text cut room span.end) =
      ap (λ (n : ℕ). listing text cut n place) left ∙ listing_number text cut room place e in
      let taken : take (count + 1) (set buffer count value) ≡ take count buffer ++ (value ∷ []) =
      ap (λ (n : ℕ). take n (set buffer count value)) (add-one count) ∙ take-suc-set buffer count value h in
      record {
        same = length-set buffer count value ∙ s;
        within = omega arith;
        rest =
            drop-set-lt (count + 1) buffer count value (omega arith)
            ∙ sym (drop-drop 1 count buffer)
            ∙ ap (drop 1) r.rest
            ∙ drop-drop 1 count entry;
        so_far =
            r.so_far
            ∙ ap (behind (take count buffer)) step
            ∙ ap (λ (vs : List ℕ). record { values = vs; ending = (listing text cut room span.end).ending })
            (sym (append_assoc (take count buffer) (value ∷ []) (listing text cut room span.end).values) ∙ ap (λ (vs : List ℕ). vs ++ (listing text cut room span.end).values) (sym taken));
      }

  -- where the reading stops, the buffer holds the whole list
  pub reached_values : {e : Result ℕ Fault} → listing text cut (length entry - count) place ≡ no_more e → listing text cut (length entry) at ≡ record { values = take count buffer; ending = e }
  reached_values {e} stop = r.so_far ∙ ap (behind (take count buffer)) stop ∙ ap (λ (vs : List ℕ). record { values = vs; ending = e }) (append-nil (take count buffer))

  pub reached_count : length (take count buffer) ≡ count
  reached_count = length-take-le count buffer (let s : length buffer ≡ length entry = r.same in let w : count ≤ length entry = r.within in omega arith)

  pub reached_buffer : {e : Result ℕ Fault} → listing text cut (length entry - count) place ≡ no_more e → buffer ≡ overwritten (listing text cut (length entry) at).values entry
  reached_buffer {e} stop =
      sym (take-append-drop count buffer)
      ∙ ap (λ (l : List ℕ). take count buffer ++ l) (r.rest ∙ ap (λ (n : ℕ). drop n entry) (sym reached_count))
      ∙ ap (λ (l : Listing). overwritten l.values entry) (sym (reached_values stop))

  abbrev pub Stopped : Result ℕ Fault → Type 0
  Stopped e =
      (numbers_by count e ≡ numbers_of (listing text cut (length entry) at))
      × (buffer ≡ overwritten (listing text cut (length entry) at).values entry)

  reached_stopped : (e : Result ℕ Fault) → listing text cut (length entry - count) place ≡ no_more e → Stopped e
  reached_stopped e stop =
      (ap (λ (n : ℕ). numbers_by n e) (sym reached_count) ∙ ap numbers_of (sym (reached_values stop)), reached_buffer stop)

  -- the three ways to stop: no room, no number, a fault
  pub stopped_full : {value : ℕ} {span : Span} → length buffer ≤ count → ahead_at text cut place ≡ Ok (ahead.Number value span) → Stopped (Err (fault span expected.Fewer))
  stopped_full h e =
      let s : length buffer ≡ length entry = r.same in
      let none : length entry - count ≡ 0 = omega arith in
      reached_stopped _ (ap (λ (n : ℕ). listing text cut n place) none ∙ listing_full text cut 0 place e)

  pub stopped_other : {span : Span} → ahead_at text cut place ≡ Ok (ahead.Other span) → Stopped (Ok place)
  stopped_other e = reached_stopped _ (listing_other text cut (length entry - count) place e)

  pub stopped_fault : {f : Fault} → ahead_at text cut place ≡ Err f → Stopped (Err f)
  stopped_fault e = reached_stopped _ (listing_fault text cut (length entry - count) place e)
