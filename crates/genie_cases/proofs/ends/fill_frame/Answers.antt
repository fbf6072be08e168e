use Rattle.std.proofs.Common.{arith, sym, subst}
use Rattle.genie_input.specs.Buffers.{AreBuffers}
use Rattle.genie_plan.specs.Plans.{input_frames}
use Rattle.genie_cases.specs.Benches.{IsWell}
use Rattle.genie_cases.proofs.Written.{written_well, still_buffers}
use Rattle.genie_cases.proofs.ends.fill_frame.Goals as goal

pub returns-clause-well : goal.returns-clause-well
returns-clause-well g c =
    let b = c.args.bench.now in
    subst (λ t. IsWell (record (b.memory) { frames = t }) (g.S.Store.view b.store) b.object.0 b.entries b.pages b.most) (sym c.write.ensures) (written_well b.memory _ _ _ _ _ _ 0 _ c.requires.well (omega (arith, c.if-frame-len.false, c.len.ensures.number)))

pub returns-clause-buffers : goal.returns-clause-buffers
returns-clause-buffers g c = subst (λ t. AreBuffers t (input_frames c.args.loans.now)) (sym c.write.ensures) (still_buffers c.args.bench.now.memory.frames _ 0 _ (input_frames c.args.loans.now) c.requires.buffers)
