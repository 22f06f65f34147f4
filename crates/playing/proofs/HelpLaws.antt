-- HelpLaws: when `help` is the only word of a script.
use mathlib.Core.Path.{◌≡◌, refl, ap, sym, ◌∙◌}
use mathlib.Core.Bool.{Bool, true, false, not, ◌&&◌}
use mathlib.Core.List.{List, []}
use Prim.Native.Nat.{ℕ, ◌-◌, ◌≤◌}
use lib.Dec.{leb}
use lib.ListN.{length, take, drop_of_length-le}
use lib.Seq.{take-nil}
use Rattle.foundation.specs.Lists.{same_list}
use Rattle.script.specs.Phrases as phrases
use Rattle.script.specs.Spans.{span_at, bytes_of}
use Rattle.script.specs.Meaning.{asks_help}
use Rattle.script.specs.declared.spans.Span.{Span}

and_none : (b : Bool) → (b && false) ≡ false
and_none true = refl
and_none false = refl

-- there is no word
pub help_none : (text : List ℕ) (cut : Bool) (w : Span) → w ≡ span_at text 0 → length text ≤ w.start → false ≡ asks_help text cut
unfolding same_list
help_none text cut w e h =
    let empty : bytes_of text (span_at text 0) ≡ [] =
    ap (bytes_of text) (sym e) ∙ ap (take (w.end - w.start)) (drop_of_length-le text {i = w.start} h) ∙ take-nil (w.end - w.start) in
    rw empty (sym (and_none (not cut)))

-- by the two first tokens
pub help_by : (text : List ℕ) (cut b : Bool) (w v : Span) → w ≡ span_at text 0 → v ≡ span_at text w.end → b ≡ same_list (bytes_of text w) phrases.help
    → (not cut && (b && leb (length text) v.start)) ≡ asks_help text cut
help_by text cut b w v ew ev eb = rw (eb, ev, ew)
