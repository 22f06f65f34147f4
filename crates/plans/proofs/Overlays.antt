-- Numbers written over a list from a place on: what stands there and below it.
use mathlib.Core.Path.{◌≡◌, ap, sym, ◌∙◌}
use mathlib.Core.List.{List, ◌++◌}
use Prim.Native.Nat.{ℕ, ◌+◌, ◌<◌, ◌≤◌}
use native.Mathlib.Omega.{arith}
use lib.ListN.{length, get_or, take, drop, length-take, get_or-append}
use lib.Seq.{length-paste, length_paste_head, get_or-append-add, get_or-take}
use Rattle.plans.specs.Plans.{overlaid}

module _ (l : List ℕ) (at : ℕ) (new : List ℕ) (fits : at + length new ≤ length l) where
  abbrev head : List ℕ
  head = take at l ++ take (length new) new

  abbrev tail : List ℕ
  tail = drop (at + length new) l

  head_length : length head ≡ at + length new
  head_length = length_paste_head l at new (length new) (omega arith) (omega arith)

  start_length : length (take at l) ≡ at
  start_length = omega (arith, length-take at l)

  pub length_overlaid : length (overlaid l at new) ≡ length l
  length_overlaid = length-paste l at new (length new) fits (omega arith)

  pub overlaid_in : (i : ℕ) → i < length new → get_or (overlaid l at new) (at + i) 0 ≡ get_or new i 0
  overlaid_in i h =
      get_or-append head tail 0 (at + i) (omega (arith, head_length))
      ∙ ap (λ (n : ℕ). get_or head (n + i) 0) (sym start_length)
      ∙ get_or-append-add (take at l) (take (length new) new) i 0
      ∙ get_or-take (length new) new i 0 h

  pub overlaid_below : (i : ℕ) → i < at → get_or (overlaid l at new) i 0 ≡ get_or l i 0
  overlaid_below i h =
      get_or-append head tail 0 i (omega (arith, head_length))
      ∙ get_or-append (take at l) (take (length new) new) 0 i (omega (arith, start_length))
      ∙ get_or-take at l i 0 h
