use Rattle.genie_changes.proofs.BuffersAlike.{buffers_show as lemma}
use Rattle.genie_changes.proofs.released.buffers_show.Goals as goal

pub returns : goal.returns
returns c = lemma
