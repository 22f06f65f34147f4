-- From marks that are closed, with the nodes of the rules among them.
use Rattle.reaching.specs.Listing.{symbol_listed}
use Rattle.reaching.proofs.list_reached.Goals as goal

pub returns : goal.returns
returns g c = symbol_listed _ _ _ _ _ _ _ _ _ _ c.requires.0 c.requires.1 c.mark_rules.ensures c.mark_all_referred.ensures c.list_marked.ensures
