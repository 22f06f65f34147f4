-- A procedure's lanes are at least one bit and at most the width, so that the step between the bits taken is not 0.
use mathlib.Core.Path.{◌≡◌}
use Prim.Native.Nat.{◌^◌, ◌≤◌, ◌<◌}
use native.Mathlib.Omega.{arith}
use Rattle.lanes.proofs.Room.{power_small, pow_some, quotient}
use Rattle.symbol_kinds.proofs.rule_block.Goals as goal

pub nonzero_div-layout : goal.nonzero_div-layout
nonzero_div-layout c =
    let args = c.args in
    let e : c.assignments-narrow.result ≡ args.layout.states ^ args.count = c.assignments-narrow.ensures in
    omega (arith, pow_some args.layout.states args.count c.args.layout.fits.some)

pub narrow_word-requires : goal.narrow_word-requires
narrow_word-requires c =
    let args = c.args in
    let e : c.assignments-narrow.result ≡ args.layout.states ^ args.count = c.assignments-narrow.ensures in
    let some : 0 < c.assignments-narrow.result = rw e (pow_some args.layout.states args.count c.args.layout.fits.some) in
    let most : c.assignments-narrow.result ≤ args.layout.width = rw e c.requires.1 in
    let q = quotient c.assignments-narrow.result args.layout.width some most in
    (c.args.layout.fits.laid.sized, some, omega (arith, power_small args.layout.states args.count c.args.layout.fits.some c.args.layout.fits.few c.requires.0), most, q.0, q.1)
