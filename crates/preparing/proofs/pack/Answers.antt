-- Each table behind the ones before it.
use Rattle.preparing.specs.Packing.{packed}
use Rattle.preparing.proofs.pack.Goals as goal

pub returns : goal.returns
returns c =
    packed _ _ c.append-counts.ensures c.append-rows.ensures c.append-inputs.ensures c.append-output_table.ensures c.append-outputs.ensures
    c.append-nodes.ensures
    c.append-rules.ensures
    c.requires
