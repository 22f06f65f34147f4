-- The empty kind is sought, then the list is seen to be closed, then a breaking kind is sought: the first that fails is the answer.
use Rattle.std.proofs.Common.{sym, ◌∙◌}
use Rattle.std.proofs.lemmas.Result.{err_from_is_err_and}
use Rattle.admission_tables.proofs.Found.{found_inside}
use Rattle.examining.proofs.Steps.{search_empty, refused_empty, refused_open, refused_breaking, accepted_list}
use Rattle.examining.proofs.examine_list.Goals as goal

pub returns-then-not-is_shown : goal.returns-then-not-is_shown
returns-then-not-is_shown c =
    let sent = c.args.sent.now in
    let known = sent.masked.now.prepared.ready.established in
    let told = search_empty _ known _ _ _ c.empty_of-empty.result sent.searchable c.empty_of-empty.ensures c.is_shown.ensures in
    (refused_empty _ _ (sym told ∙ c.if-not-is_shown.true), tt)

pub returns-in_err-closure_of : goal.returns-in_err-closure_of
returns-in_err-closure_of c =
    let sent = c.args.sent.now in
    let known = sent.masked.now.prepared.ready.established in
    let told = search_empty _ known _ _ _ c.empty_of-empty.result sent.searchable c.empty_of-empty.ensures c.is_shown.ensures in
    let e = err_from_is_err_and c.from_residual.result c.from_residual.ensures.1 in
    rw (e.1, e.2) (refused_open _ _ _ _ (sym told ∙ c.if-not-is_shown.false) c.in_err-closure_of.ensures.0, c.in_err-closure_of.ensures.1)

pub returns-in-Some : goal.returns-in-Some
returns-in-Some c =
    let sent = c.args.sent.now in
    let ready = sent.masked.now.prepared.ready in
    let told = search_empty _ ready.established _ _ _ c.empty_of-empty.result sent.searchable c.empty_of-empty.ensures c.is_shown.ensures in (
      refused_breaking _ _ ready.established _ ready.verdicts (sym told ∙ c.if-not-is_shown.false) c.in_ok-closure_of.ensures.0 c.in-Some.kind c.in-Some.ensures,
      found_inside _ _ c.in-Some.kind c.in-Some.ensures,
    )

pub returns-in-None : goal.returns-in-None
returns-in-None c =
    let sent = c.args.sent.now in
    let ready = sent.masked.now.prepared.ready in
    let told = search_empty _ ready.established _ _ _ c.empty_of-empty.result sent.searchable c.empty_of-empty.ensures c.is_shown.ensures in
    (accepted_list _ _ ready.established _ ready.verdicts (sym told ∙ c.if-not-is_shown.false) c.in_ok-closure_of.ensures.0 c.in-None.ensures, tt)
