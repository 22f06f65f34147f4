-- Each test is that of its place, after those before it.
use native.Mathlib.Omega.{arith}
use Rattle.checking.proofs.Sizes.{limit_few, wrong_limit, wrong_rows, wrong_words, none-wrong}
use Rattle.checking.proofs.wrong_size.Goals as goal

pub returns-then-limit : goal.returns-then-limit
returns-then-limit c = λ C. wrong_limit C c.args.limit c.args.rows c.args.words c.if-limit.true

pub overflow_mul-limit : goal.overflow_mul-limit
overflow_mul-limit c = omega (arith, limit_few c.args.limit c.if-limit.false)

pub returns-then-rows-limit : goal.returns-then-rows-limit
returns-then-rows-limit c = λ C. wrong_rows C c.args.limit c.args.rows c.args.words c.if-limit.false c.if-rows-limit.true

pub overflow_mul-limit-2 : goal.overflow_mul-limit-2
overflow_mul-limit-2 c = omega (arith, limit_few c.args.limit c.if-limit.false)

pub returns-then-words-limit : goal.returns-then-words-limit
returns-then-words-limit c = λ C. wrong_words C c.args.limit c.args.rows c.args.words c.if-limit.false c.if-rows-limit.false c.if-words-limit.true

pub returns : goal.returns
returns c = λ C. none-wrong C c.args.limit c.args.rows c.args.words c.if-limit.false c.if-rows-limit.false c.if-words-limit.false
