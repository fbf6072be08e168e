use Rattle.std.proofs.Common.{arith, refl, take}
use Rattle.std.specs.List.{list_any}
use Rattle.genie_sharing.specs.Regions.{has_object}
use Rattle.genie_sharing.proofs.Dropping.{discards_all, discards_next, discards_none, object_there}
use Rattle.genie_sharing.proofs.regions.drop_objects.Goals as goal

pub regions-init : goal.regions-init
regions-init c = discards_none (λ o. list_any (has_object o) (take 0 c.args.regions.now)) c.args.memory.now (λ o. refl) c.requires.sound

pub remove_object-requires-clause-there : goal.remove_object-requires-clause-there
remove_object-requires-clause-there c = object_there c.args.regions.now c.regions.i c.at.result c.args.memory.now c.regions.memory c.requires.there c.requires.differ c.at.ensures c.regions.invariant

pub regions-preserved : goal.regions-preserved
regions-preserved c = discards_next c.args.regions.now c.regions.i c.at.result c.args.memory.now c.regions.memory c.remove_object.new.memory c.at.ensures c.regions.invariant c.remove_object.ensures

pub returns : goal.returns
returns c = discards_all c.args.regions.now c.regions.i c.args.memory.now c.regions.memory (let n = c.len-i-end.ensures.length in let t = c.regions-test.false in omega (arith, n, t)) c.regions.invariant
