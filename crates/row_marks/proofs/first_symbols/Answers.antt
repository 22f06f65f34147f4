-- One symbol more.
use mathlib.Core.Path.{subst}
use mathlib.Core.List.{List}
use Prim.Native.Nat.{ℕ}
use Rattle.kind_slots.specs.Stored.{padded_kind}
use Rattle.row_marks.specs.Marks.{SomeEarlier}
use Rattle.row_marks.proofs.MarkBits.{marks_more}
use Rattle.row_marks.proofs.first_symbols.Goals as goal

pub loop-number-preserved : goal.loop-number-preserved
loop-number-preserved c =
    let a = c.args in (
      c.loop-number.invariant.0,
      marks_more (λ s. SomeEarlier a.words.now (padded_kind a.masks.now s) a.j) c.loop-number.marks c.bit_if-marks.result c.loop-number.number c.symbol_of-symbol.result.0 c.is_first.result
          c.symbol_of-symbol.ensures c.bit_if-marks.ensures (λ e. subst (λ (mask : List ℕ). SomeEarlier a.words.now mask a.j) c.kind_at-mask.ensures (c.is_first.ensures e)) c.loop-number.invariant.1,
    )
