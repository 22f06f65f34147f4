-- Each part that is set keeps the table's length and what stands below it, and `laid` puts the five and the two numbers behind them together.
use Rattle.std.proofs.Common.{◌≡◌, List, ℕ, length, drop, refl, arith, rules, length-take, length-drop}
use Rattle.std.proofs.lemmas.Slice.{put_mid-paste}
use borrow.Rule.Slice.PartMut.{put_mid}
use mir.Val.{bool_byte}
use Rattle.tables.specs.Handed.{handed}
use Rattle.plans.specs.Plans.{entries, sides_place, plan_length, overlaid, has_stay}
use Rattle.plans.proofs.Laying.{size_written, laid}
use Rattle.plans.proofs.Plan.fill.Goals as goal

pub returns : goal.returns
returns c =
    let s = c.args in
    let sides : List ℕ = c.set_sides.new.sides in
    let before : List ℕ = c.copy_in.new.table in
    let plan_long : length c.self.inside.numbers ≡ plan_length = search rules in
    let long : length before ≡ plan_length = size_written c.self.inside.numbers before s.contract.now.counts.now 0 c.copy_in.ensures plan_long (omega (arith, c.requires.counts_len_bound.0)) in
    let sides_long : length sides ≡ entries = omega (arith, c.set_sides.auto.sides, length-take entries (drop sides_place before), length-drop sides_place before) in
    let sides_set : put_mid sides_place entries before sides ≡ overlaid before sides_place sides = put_mid-paste sides_place entries before sides sides (length sides) refl (omega (arith, sides_long)) refl in
    let flagged : c.from.result ≡ bool_byte (has_stay s.contract.now.symbols s.contract.now.rules.now) = cc in
    let bounds = c.requires.counts_len_bound in
    laid (handed s.contract.now).transformation s.numbers.now s.ends.now sides
    bounds.0 sides_long bounds.1 bounds.2 bounds.3
    c.self.inside.numbers before (put_mid sides_place entries before sides) c.copy_in-2.new.table c.copy_in-3.new.table c.copy_in-4.new.table plan_long
    c.copy_in.ensures sides_set c.copy_in-2.ensures c.copy_in-3.ensures c.copy_in-4.ensures
    _ _ c.set_sides.ensures refl flagged
