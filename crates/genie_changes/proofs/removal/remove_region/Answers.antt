use Rattle.genie_changes.proofs.Forgetting.{object_there}
use Rattle.genie_changes.proofs.removal.remove_region.Goals as goal

pub remove_object-requires-clause-there : goal.remove_object-requires-clause-there
remove_object-requires-clause-there c = object_there c.args.kernel.now c.args.pid c.args.region c.requires.settled c.requires.there
