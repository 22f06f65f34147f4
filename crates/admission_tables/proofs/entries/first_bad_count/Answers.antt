-- `first_bad_count`: the place found is one of at most sixteen.
use Rattle.std.proofs.Common.{rules, ◌≡◌, Some, length, arith}
use Rattle.foundation.specs.Search.{first_below}
use Rattle.model.specs.Admission.{count_wrong}
use Rattle.admission_tables.proofs.Found.{found_inside}
use Rattle.admission_tables.proofs.entries.first_bad_count.Goals as goal

pub overflow_cast-result : goal.overflow_cast-result
overflow_cast-result c =
    let counts = c.args.counts.now in
    let found : Some c.in_ok-place.place ≡ first_below (count_wrong counts) (length counts) = search rules in
    omega (arith, found_inside (count_wrong counts) _ _ found)
