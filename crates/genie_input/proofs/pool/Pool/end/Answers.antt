use Rattle.std.proofs.Common.{ap, subst, ◌∙◌}
use Rattle.genie_plan.specs.Plans.{input_frames}
use Rattle.genie_input.specs.Pools.{PoolState, AreFreed}
use Rattle.genie_input.proofs.Pools.{freed_sound}
use Rattle.genie_input.proofs.pool.Pool.end.Goals as goal

pub returns-clause-sound : goal.returns-clause-sound
returns-clause-sound c = freed_sound c.args.memory.now c.end_loans.new.frames c.args.dev _ c.requires.sound c.requires.pooled (subst (λ xs. AreFreed (input_frames xs) c.args.memory.now.frames c.end_loans.new.frames) (c.as_slice.ensures.value ∙ ap (λ (p : PoolState). p.loans) c.self.view_is) c.end_loans.ensures.freed) c.len.ensures.shaped c.len.ensures.lent
