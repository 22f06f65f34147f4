use Rattle.running.proofs.Buffers.{cleared}
use Rattle.running.proofs.clear_from.Goals as goal

pub returns : goal.returns
returns c = cleared c.args.rows.now c.fill.new.self c.args.from c.min-kept.result c.min-kept.ensures (c.fill.ensures.after (λ y h. h))
