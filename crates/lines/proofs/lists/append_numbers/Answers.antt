-- One number more.
use Rattle.std.proofs.Common.{◌≡◌, sym, ap, ◌∙◌, ◌<◌, length, map, get_or, arith}
use Rattle.std.proofs.lemmas.List.{get_or-map}
use Rattle.std.proofs.lemmas.List.{length-map}
use Rattle.lines.proofs.Listings.{spaced_none, spaced_next}
use Rattle.lines.proofs.lists.append_numbers.Goals as goal

pub loop-n-init : goal.loop-n-init
loop-n-init g c = spaced_none c.clip.ensures

pub loop-n-preserved : goal.loop-n-preserved
loop-n-preserved g c =
    let l = c.args.numbers.now in
    let i = c.loop-n.n-index in
    let h : i < length (map g.N.Listed.value l) = rw length-map (omega arith) in
    let e : c.value.result ≡ get_or (map g.N.Listed.value l) i 0 = c.value.ensures ∙ ap g.N.Listed.value c.n-item.is ∙ sym (get_or-map g.N.Listed.value l i c.n-item.result 0 (omega arith)) in
    spaced_next (map g.N.Listed.value l) i _ h e c.loop-n.invariant c.append_behind_space.ensures
