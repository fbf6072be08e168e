use Rattle.std.proofs.Common.{◌<◌, subst, sym}
use Rattle.genie_tcow.proofs.LentStrongly.{can_copy, failed_spends, same_costs}
use Rattle.genie_tcow.proofs.strong.bring.Goals as goal

pub returns-in-Ok-clause-brought : goal.returns-in-Ok-clause-brought
returns-in-Ok-clause-brought g c = record {
  before = c.requires.sound;
  moves = c.resolve_read.ensures.moves;
  takes = c.resolve_read.ensures.takes;
  there = subst (λ n. c.args.at.index < n) (sym (c.resolve_read.ensures.moves.keeps.entries c.args.at.object.0)) c.requires.there;
  framed = c.in-Ok.ensures.framed;
  brings = c.in-Ok.ensures.brings;
  spends = c.resolve_read.ensures.meters;
}

pub returns-in-Ok-clause-meters : goal.returns-in-Ok-clause-meters
returns-in-Ok-clause-meters g c = can_copy c.args.memory.now c.resolve_read.new.memory c.args.at.object.0 c.args.at.index c.requires.sound c.resolve_read.ensures.moves.keeps.page c.requires.meters c.resolve_read.ensures.meters

pub returns-in-Err-clause-spends : goal.returns-in-Err-clause-spends
returns-in-Err-clause-spends g c = failed_spends c.args.memory.now c.resolve_read.new.memory c.args.at.object.0 c.args.at.index c.resolve_read.ensures.meters

pub returns-in-Err-clause-costs : goal.returns-in-Err-clause-costs
returns-in-Err-clause-costs g c = same_costs c.args.memory.now c.resolve_read.new.memory c.args.at.object.0 c.args.at.index c.in-Err.ensures.unchanged
