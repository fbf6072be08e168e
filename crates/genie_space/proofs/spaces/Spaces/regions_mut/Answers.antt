use Rattle.std.proofs.Common.{refl, ap, ◌∙◌}
use Rattle.std.specs.Prelude.{Some, None}
use Rattle.std.proofs.lemmas.Bool.{cond-true}
use Rattle.genie_space.specs.declared.space.Space.{Space}
use Rattle.genie_space.specs.Spaces.{is_alive, regions_of}
use Rattle.genie_space.proofs.Processes.{put, alive_at, regions_at}
use Rattle.genie_space.proofs.spaces.Spaces.regions_mut.Goals as goal

pub returns : goal.returns
returns c =
    let there = ap (is_alive c.args.pid) c.self.view_is ∙ c.requires in
    let alive = ap (λ (s : Space). s.alive) c.index_mut.ensures.value ∙ alive_at c.self.inside.spaces.items c.args.pid c.index_mut.result.now there in
    ((refl, λ w. put c.self.inside.page c.self.inside.spaces.items c.args.self.now c.args.pid (record { alive = c.index_mut.result.now.alive; regions = w }) (Some w) c.self.view_is (cond-true c.index_mut.result.now.alive (Some w) None alive)), record { writes_back = tt; value = ap (λ (s : Space). s.regions) c.index_mut.ensures.value ∙ regions_at c.self.inside.spaces.items c.args.pid c.index_mut.result.now there ∙ ap (regions_of c.args.pid) c.self.view_is })
