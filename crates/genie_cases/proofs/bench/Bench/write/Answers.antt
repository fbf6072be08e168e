use Rattle.std.proofs.Common.{arith, ◌+◌, ◌∙◌, ap, sym, subst}
use Rattle.genie_cases.specs.Benches.{IsWell, IsIdle}
use Rattle.genie_cases.proofs.Written.{written_well, written_idle, moved_well, moved_idle}
use Rattle.genie_cases.proofs.bench.Bench.write.Goals as goal

pub returns-clause-well : goal.returns-clause-well
returns-clause-well g c =
    let e = c.resolve_write.ensures in
    let m = c.resolve_write.new.memory in
    let w = moved_well c.args.self.now.memory m _ _ _ _ _ _ _ 1 c.requires.well e.moves e.takes.added in
    subst (λ t. IsWell (record m { frames = t }) (g.S.Store.view c.resolve_write.new.store) c.args.self.now.object.0 c.args.self.now.entries (c.args.self.now.pages + 1) c.args.self.now.most) (sym c.write.ensures) (written_well m _ _ _ _ _ c.in-Ok.frame.0 0 _ w (omega (arith, c.if-frame-len.false, c.len.ensures.number)))

pub returns-clause-idle : goal.returns-clause-idle
returns-clause-idle g c = λ x.
    let m = c.resolve_write.new.memory in
    subst (λ t. IsIdle (record m { frames = t })) (sym c.write.ensures) (written_idle m c.in-Ok.frame.0 0 _ (moved_idle c.args.self.now.memory m _ _ _ c.resolve_write.ensures.moves x))

pub returns-clause-counts : goal.returns-clause-counts
returns-clause-counts g c = ap (λ t. t.counts) c.write.ensures ∙ c.resolve_write.ensures.moves.counts
