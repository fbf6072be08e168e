use Rattle.std.proofs.Common.{ap, ◌∙◌}
use Rattle.std.specs.Prelude.{count_by}
use Rattle.genie_hiding.specs.Hidden.{is_of}
use Rattle.genie_spaces.proofs.Discarding.{discarded, none_hidden}
use Rattle.genie_spaces.proofs.fork.drop_hidden.Goals as goal

pub returns-clause-clears : goal.returns-clause-clears
returns-clause-clears c = discarded c.args.kernel.now c.discard.new.memory c.discard.new.self c.args.pid c.requires c.discard.ensures.kept c.discard.ensures.gone c.discard.ensures.fits

pub returns-clause-none : goal.returns-clause-none
returns-clause-none c = ap (count_by (is_of c.args.pid)) c.discard.ensures.kept ∙ none_hidden c.args.pid c.args.kernel.now.hidden
