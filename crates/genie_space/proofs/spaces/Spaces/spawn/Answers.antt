use Rattle.std.proofs.Common.{ap}
use Rattle.std.specs.Prelude.{Some}
use Rattle.genie_space.proofs.Processes.{put}
use Rattle.genie_space.proofs.spaces.Spaces.spawn.Goals as goal

pub returns : goal.returns
returns c = put c.self.inside.page c.self.inside.spaces.items c.args.self.now c.args.pid _ _ c.self.view_is (ap Some c.new.ensures)
