-- The kind is that of the document's tree; what it tells is the judgement.
use Rattle.judging.specs.Steps.{comes_judged}
use Rattle.judging.proofs.judge_prepared.Goals as goal

pub returns : goal.returns
returns c =
    let ready = c.args.prepared.now.ready in
    comes_judged _ _ _ _ _ _ _ ready.established ready.verdicts c.document_kind-words.ensures c.write_kind.ensures c.judgement_of.ensures
