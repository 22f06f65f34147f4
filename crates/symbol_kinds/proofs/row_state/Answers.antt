-- A row's states are few, so that its bits fit.
use Rattle.std.proofs.Common.{refl, ap, ◌∙◌}
use Rattle.model.specs.Tables
use Rattle.kind_words.specs.States.{row_taken}
use Rattle.symbol_kinds.proofs.row_state.Goals as goal

pub returns : goal.returns
returns c =
    let row = rw c.rows.ensures at c.input_row_at-row.ensures in
    let q = c.from-3.ensures ∙ ap (λ (x : Tables.InputRow). x.state) row in
    let x = c.from.ensures ∙ ap (λ (x : Tables.InputRow). x.left) row in
    let y = c.from-2.ensures ∙ ap (λ (x : Tables.InputRow). x.right) row in
    c.up.ensures ∙ row_taken _ _ c.args.left c.args.right c.args.r _ _ _ refl q x y
