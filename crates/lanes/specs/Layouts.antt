-- The layout of the table form that the code's layout stands for: the same numbers.
use Rattle.kind_words.specs.Listed
use Rattle.lanes.specs.declared.Layout.{Layout}

abbrev pub layout_of : Layout → Listed.Layout
layout_of l =
    record { states = l.states; width = l.width; ones = l.ones; starts = l.starts; first = l.first; second = l.second }
