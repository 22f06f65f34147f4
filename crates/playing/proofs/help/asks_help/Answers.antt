-- There is no word.
use Rattle.playing.proofs.HelpLaws.{help_none}
use Rattle.playing.proofs.help.asks_help.Goals as goal

pub returns-then-text-word : goal.returns-then-text-word
returns-then-text-word c = help_none c.args.text.now c.args.cut c.next_span-word.result c.next_span-word.ensures.value c.if-text-word.true
