-- At most four states and two parameters: lanes of at most sixteen bits. What is called gives the words of the layout.
use Rattle.std.proofs.Common.{refl, ◌∙◌, arith}
use Rattle.layouts.specs.LaneWords.{lanes_are, weight_some, sized_for, layout_fits}
use Rattle.layouts.proofs.layout_of.Goals as goal

pub starts_word-starts-requires : goal.starts_word-starts-requires
starts_word-starts-requires c = sized_for _ _ _ c.requires.0 c.requires.1.states≤ c.greatest_count-greatest.ensures.most c.assignments-width.ensures

pub parameter_word-first-requires : goal.parameter_word-first-requires
parameter_word-first-requires c = (
  sized_for _ _ _ c.requires.0 c.requires.1.states≤ c.greatest_count-greatest.ensures.most c.assignments-width.ensures,
  c.requires.0,
  rw c.first_weight.ensures (weight_some _ _ c.requires.0),
)

pub parameter_word-second-requires : goal.parameter_word-second-requires
parameter_word-second-requires c = (
  sized_for _ _ _ c.requires.0 c.requires.1.states≤ c.greatest_count-greatest.ensures.most c.assignments-width.ensures,
  c.requires.0,
  omega arith,
)

pub invariant_of-result : goal.invariant_of-result
invariant_of-result c = record {
  fits = layout_fits _ _ _ _ _ _ _ c.requires.0 c.requires.1.states≤ c.greatest_count-greatest.ensures.most c.assignments-width.ensures c.lane_of_ones-ones.ensures c.starts_word-starts.ensures;
}

pub returns : goal.returns
returns c = record {
  greatest = c.greatest_count-greatest.result;
  most = c.greatest_count-greatest.ensures.most;
  bound = c.greatest_count-greatest.ensures.bound;
  states = refl;
  width = c.assignments-width.ensures;
  lanes = lanes_are c.args.states c.requires.0 c.greatest_count-greatest.result _ _ _ _ c.assignments-width.result c.greatest_count-greatest.ensures.most c.assignments-width.ensures c.lane_of_ones-ones.ensures c.starts_word-starts.ensures (c.parameter_word-first.ensures ∙ rw c.first_weight.ensures) c.parameter_word-second.ensures;
}
