use Rattle.genie_tcow.specs.Ranges.{is_of_range}
use Rattle.genie_plan.specs.Loans as kind
use Rattle.genie_plan.specs.Loans.{output_loans}
use Rattle.genie_outputs.proofs.Narrowed.{back_narrowed, lent_narrowed, there_still}
use Rattle.genie_outputs.proofs.Rising.{rises_weak}
use Rattle.genie_outputs.proofs.lending.lend_weak.Goals as goal

pub guard-requires : goal.guard-requires
guard-requires g c = there_still c.args.memory.now.objects c.prepare_weak.new.memory.objects c.args.range.now.object.0 c.in-Ok.ensures.lent.lent.keeps.entries c.requires.there

pub guard-requires-in-Err : goal.guard-requires-in-Err
guard-requires-in-Err g c = there_still c.args.memory.now.objects c.prepare_weak.new.memory.objects c.args.range.now.object.0 c.in-Err.ensures.failed.keeps.entries c.requires.there

pub returns-in-Ok-clause-lent : goal.returns-in-Ok-clause-lent
returns-in-Ok-clause-lent g c = lent_narrowed c.args.memory.now c.prepare_weak.new.memory c.guard.new.objects (g.S.Store.view c.args.store.now) (g.S.Store.view c.prepare_weak.new.store) (is_of_range c.args.memory.now.frames.page c.args.range.now) c.guard.ensures.all kind.Weak 0 (output_loans c.in-Ok.plan.loans.items) c.in-Ok.ensures.lent.lent

pub returns-in-Err-clause-failed : goal.returns-in-Err-clause-failed
returns-in-Err-clause-failed g c = back_narrowed c.args.memory.now c.prepare_weak.new.memory c.guard-in-Err.new.objects (g.S.Store.view c.args.store.now) (g.S.Store.view c.prepare_weak.new.store) (is_of_range c.args.memory.now.frames.page c.args.range.now) c.guard-in-Err.ensures.all c.in-Err.ensures.failed

pub returns-in-Ok-clause-copies : goal.returns-in-Ok-clause-copies
returns-in-Ok-clause-copies g c = c.prepare_weak.ensures.spends.work

pub returns-in-Err-clause-copies : goal.returns-in-Err-clause-copies
returns-in-Err-clause-copies g c = c.prepare_weak.ensures.spends.work

pub returns-in-Ok-clause-rises : goal.returns-in-Ok-clause-rises
returns-in-Ok-clause-rises g c = rises_weak c.args.memory.now c.prepare_weak.new.memory c.args.range.now c.requires.sound c.requires.range c.in-Ok.ensures.lent.lent.landed c.prepare_weak.ensures.spends

pub returns-in-Err-clause-rises : goal.returns-in-Err-clause-rises
returns-in-Err-clause-rises g c = rises_weak c.args.memory.now c.prepare_weak.new.memory c.args.range.now c.requires.sound c.requires.range c.in-Err.ensures.failed.landed c.prepare_weak.ensures.spends

pub returns-in-Ok-clause-gets : goal.returns-in-Ok-clause-gets
returns-in-Ok-clause-gets g c = c.prepare_weak.ensures.spends.most_gets

pub returns-in-Err-clause-gets : goal.returns-in-Err-clause-gets
returns-in-Err-clause-gets g c = c.prepare_weak.ensures.spends.most_gets
