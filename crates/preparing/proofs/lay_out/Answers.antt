-- The tables are packed, the lists written behind them leave them as they are.
use mathlib.Core.Path.{◌≡◌, ap, ◌∙◌}
use Prim.Native.Nat.{ℕ, ◌-◌, ◌≤◌}
use native.Mathlib.Omega.{arith}
use lib.ListN.{length}
use borrow.Rule.Slice.PartMut.{take_put, same_len_mid, put_mid, mid_of, post_of}
use Rattle.model.proofs.Laws.Established.{established_nodes}
use Rattle.layouts.specs.Counts.{small-counts, offsets_inside}
use Rattle.reaching.specs.Marks.{rules-good, rows_good}
use Rattle.prepared.specs.Parts.{part}
use Rattle.preparing.specs.Packing.{rounds_by, laid_out, part_put, length_part}
use Rattle.preparing.proofs.lay_out.Goals as goal

pub fill_lists-requires : goal.fill_lists-requires
fill_lists-requires c =
    let packs = c.pack-ends.ensures in
    let room = length_part c.pack-ends.result.rules c.pack-ends.new.table in
    (established_nodes _ c.requires.0, rules-good _ c.requires.0, rows_good _ c.requires.0, omega (arith, packs.end, packs.long, room, c.requires.1), omega (arith, packs.long, room, c.requires.2))

pub offsets_of-requires : goal.offsets_of-requires
offsets_of-requires c =
    (small-counts _ c.requires.0, offsets_inside _ c.requires.0)

pub returns : goal.returns
returns c =
    let packs = c.pack-ends.ensures in
    let g = c.pack-ends.result.rules in
    let t = c.pack-ends.new.table in
    let m = c.fill_lists.new.lists in
    let kept : length m ≡ length (mid_of g (length t - g) t) = c.fill_lists.auto.lists in
    let h : g ≤ length t = omega (arith, packs.end, packs.long, c.requires.1) in
    let long : length (put_mid g (length t - g) t m) ≡ length t = same_len_mid g (length t - g) t m kept in
    laid_out _ (put_mid g (length t - g) t m) m c.requires.0 c.layout_of.ensures c.offsets_of.ensures (c.stay_rounds.ensures ∙ ap (λ (s : ℕ). rounds_by c.args.contract.now.rules.now s) c.entry_of.ensures) c.verdicts_of.ensures packs h (take_put g (length t - g) t m h) long
    (ap (λ (x : ℕ). part (put_mid g (length t - g) t m) g x) long ∙ part_put g t m (post_of g (length t - g) t) h (kept ∙ length_part g t))
    c.fill_lists.ensures
