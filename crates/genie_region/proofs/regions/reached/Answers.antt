use Rattle.std.proofs.Common.{◌∙◌, sym, arith}
use Rattle.std.proofs.lemmas.Bool.{cond-true, cond-false}
use Rattle.genie_region.proofs.Orders.{blank, reach_none, reach_started}
use Rattle.genie_region.proofs.regions.reached.Goals as goal

pub returns-then-started-eq0 : goal.returns-then-started-eq0
returns-then-started-eq0 c = sym (reach_none _ _ _ _ blank (λ i l. c.count_started-started.ensures.point.1 i blank (omega arith) l))

pub returns-then-reaches : goal.returns-then-reaches
returns-then-reaches c =
    let found = reach_started _ _ c.args.len _ _ c.requires (omega arith) (omega arith) c.count_started-started.ensures.point in
    sym (found ∙ cond-true _ _ _ (sym c.reaches.ensures ∙ c.if-reaches.true))

pub returns-else-reaches : goal.returns-else-reaches
returns-else-reaches c =
    let found = reach_started _ _ c.args.len _ _ c.requires (omega arith) (omega arith) c.count_started-started.ensures.point in
    sym (found ∙ cond-false _ _ _ (sym c.reaches.ensures ∙ c.if-reaches.false))
