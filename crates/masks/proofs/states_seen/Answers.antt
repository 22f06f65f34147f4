-- Invariant: a walk along the symbol's chain has come to row k, and the word has the states of the rows before it. Measure: the
-- rows left.
use Rattle.std.proofs.Common.{◌≡◌, ◌/◌, ℕ, List, length, refl, ap, ◌∙◌, arith}
use Rattle.model.specs.Tables.{InputRow, input_row}
use Rattle.kind_words.specs.Fits.{RowsIn}
use Rattle.kind_words.specs.Chains.{walk_starts, walk_goes, walk_ends}
use Rattle.prepared.proofs.Known.{rows_in}
use Rattle.masks.specs.Seen.{state_bit, states_seen, seen_first, seen_next}
use Rattle.masks.proofs.states_seen.Goals as goal
use Rattle.masks.proofs.states_seen.Goals.{After-first_row-k}

chains : (c : After-first_row-k) → RowsIn c.rows-rows.result.now c.lists-lists.result.now c.nexts-nexts.result
chains c = rw (c.rows-rows.ensures, c.lists-lists.ensures) (rows_in c.args.prepared.now.ready _ c.nexts-nexts.ensures)

pub loop-k-init : goal.loop-k-init
loop-k-init c =
    let chains = chains (goal.at.loop-k-init c).After-first_row-k in
    (refl, walk_starts _ _ chains.chained c.args.symbol.0 _ c.requires c.first_row-k.ensures (λ t is. seen_first c.rows-rows.result.now t c.args.on_right c.first_row-k.result is))

pub row_after-k-requires : goal.row_after-k-requires
row_after-k-requires c = omega (arith, c.loop-k.invariant.0, (chains (goal.at.row_after-k-requires c).After-first_row-k).long)

pub loop-k-smaller : goal.loop-k-smaller
loop-k-smaller c =
    let chains = chains (goal.at.loop-k-smaller c).After-first_row-k in
    let next = chains.chained.next c.loop-k.k (omega arith) (omega (arith, c.loop-k.invariant.0)) in
    omega (arith, c.row_after-k.ensures, next.after)

pub loop-k-preserved : goal.loop-k-preserved
loop-k-preserved c =
    let chains = chains (goal.at.loop-k-preserved c).After-first_row-k in
    let bit = c.state_bit-word.ensures ∙ ap (λ (row : InputRow). state_bit row row.symbol c.args.on_right) c.input_row_at.ensures in (
      c.loop-k.invariant.0,
      walk_goes _ _ chains.chained _ c.loop-k.invariant.1 (omega arith) c.row_after-k.ensures
          (λ s own so_far next. seen_next c.rows-rows.result.now s c.args.on_right _ _ c.loop-k.k _ so_far (bit ∙ ap (λ (t : ℕ). state_bit (input_row c.rows-rows.result.now c.loop-k.k) t c.args.on_right) own) next),
    )

pub returns : goal.returns
unfolding states_seen
returns c =
    let chains = chains (goal.at.returns c).After-first_row-k in
    let e : c.loop-k.k ≡ length c.rows-rows.result.now / 4 = omega (arith, c.loop-k.invariant.0, c.loop-k.invariant.1.most) in
    (rw e at (walk_ends _ _ chains.chained c.loop-k.invariant.1 c.args.symbol.0 c.requires c.first_row-k.ensures))
    ∙ ap (λ (rows : List ℕ). states_seen rows c.args.symbol.0 c.args.on_right) c.rows-rows.ensures
