-- Line behind line.
use Rattle.printing.proofs.Texts.{appends_both}
use Rattle.lines.specs.Help.{tables_help}
use Rattle.lines.proofs.help.append_tables.Goals as goal

pub returns : goal.returns
unfolding tables_help
returns c =
    appends_both
    (appends_both
    (appends_both (appends_both (appends_both (appends_both c.append.ensures c.append-2.ensures) c.append-3.ensures) c.append-4.ensures) c.append-5.ensures)
    c.append-6.ensures)
    c.append-7.ensures
