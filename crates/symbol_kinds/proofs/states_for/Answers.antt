-- Invariant: a walk along the symbol's chain has come to row r, and the word has the states of the rows before it. Measure: the
-- rows left.
use Rattle.std.proofs.Common.{◌≡◌, refl, arith}
use Rattle.model.specs.Tables
use Rattle.prepared.specs.Contract.{contract_of}
use Rattle.kind_words.specs.Chains.{walk_starts, walk_goes, walk_ends}
use Rattle.kind_words.specs.States.{states_first, states_next}
use Rattle.prepared.proofs.Known.{rows_in}
use Rattle.symbol_kinds.proofs.states_for.Goals as goal

pub loop-r-init : goal.loop-r-init
loop-r-init c =
    let chains = rows_in c.args.prepared.now.ready _ c.nexts-nexts.ensures in
    let first = rw c.lists-lists.ensures at c.first_row-r.ensures in
    (rw c.rows.ensures refl, walk_starts _ _ chains.chained c.args.symbol.0 _ c.requires first (λ t at. states_first _ t _ _ c.first_row-r.result at))

pub row_after-r-requires : goal.row_after-r-requires
row_after-r-requires c =
    rw c.lists-lists.ensures (omega (arith, c.loop-r.invariant.0, (rows_in c.args.prepared.now.ready _ c.nexts-nexts.ensures).long))

pub loop-r-smaller : goal.loop-r-smaller
loop-r-smaller c =
    let next = (rows_in c.args.prepared.now.ready _ c.nexts-nexts.ensures).chained.next c.loop-r.r (omega arith) (omega (arith, c.loop-r.invariant.0)) in
    omega (arith, rw c.lists-lists.ensures at c.row_after-r.ensures, next.after)

pub loop-r-preserved : goal.loop-r-preserved
loop-r-preserved c =
    let chains = rows_in c.args.prepared.now.ready _ c.nexts-nexts.ensures in
    let after = rw c.lists-lists.ensures at c.row_after-r.ensures in (
      c.loop-r.invariant.0,
      walk_goes _ _ chains.chained _ c.loop-r.invariant.1 (omega arith) after
          (λ s own so_far next. states_next _ s _ _ _ _ c.loop-r.r _ so_far (rw own at c.row_state-states.ensures) next),
    )

pub returns : goal.returns
returns c =
    let chains = rows_in c.args.prepared.now.ready _ c.nexts-nexts.ensures in
    let first = rw c.lists-lists.ensures at c.first_row-r.ensures in
    let all : c.loop-r.r ≡ Tables.input_row_count (contract_of c.args.prepared.now).input.rows = omega (arith, c.loop-r.invariant.0, c.loop-r.invariant.1.most) in
    rw all at (walk_ends _ _ chains.chained c.loop-r.invariant.1 c.args.symbol.0 c.requires first)
