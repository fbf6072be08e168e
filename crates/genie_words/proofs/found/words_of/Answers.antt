use Rattle.genie_words.proofs.Parse.{always_wished, wished_so}
use Rattle.genie_words.proofs.found.words_of.Goals as goal

pub unreachable-requires : goal.unreachable-requires
unreachable-requires c = always_wished _ _ c.requires.plain c.in-Ok.ensures.ok c.in-Ok.ensures.found c.in-None.ensures

pub returns-in-Some-clause-ok : goal.returns-in-Some-clause-ok
returns-in-Some-clause-ok c = wished_so _ _ _ c.requires.plain c.in-Ok.ensures.ok c.in-Ok.ensures.found c.in-Some.ensures
