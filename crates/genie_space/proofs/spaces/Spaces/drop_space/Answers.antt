use Rattle.std.proofs.Common.{refl}
use Rattle.genie_space.proofs.Processes.{put}
use Rattle.genie_space.proofs.spaces.Spaces.drop_space.Goals as goal

pub returns : goal.returns
returns c = put c.self.inside.page c.self.inside.spaces.items c.args.self.now c.args.pid (record { alive = _; regions = c.index_mut-space.result.now.regions }) _ c.self.view_is refl
