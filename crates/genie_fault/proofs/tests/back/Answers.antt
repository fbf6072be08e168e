use Rattle.std.proofs.Common.{arith, sym, ap, ◌∙◌}
use Rattle.genie_frame.specs.declared.frame.Counts.{Counts}
use Rattle.genie_frame.specs.FrameTable.{counts_at, is_held}
use Rattle.genie_frame.specs.Frames.{loan_ended, one_output_less}
use Rattle.genie_fault.proofs.Benches.{bench_ended}
use Rattle.genie_fault.proofs.tests.back.Goals as goal

pub returns : goal.returns
returns g c =
    let m = c.args.memory.now in
    let f = c.args.loan.frame.0 in
    let free = sym (ap is_held c.counts-counts.ensures) ∙ sym c.is_held.ensures ∙ c.if-is_held.false in
    let ended = c.back_out.ensures.frames ∙ ap (λ b. loan_ended m.frames f (one_output_less b (counts_at m.frames f))) c.requires.strong in
    record { bench = bench_ended c.args.at.object.0 c.args.left f c.in-Page.field-0 m c.back_out.new.self (g.S.Store.view c.args.store.now) c.requires.bench (sym c.owner.ensures ∙ c.in-Page.is) free (omega (arith, c.if-counts-eq0.false, ap (λ (x : Counts). x.strong) c.counts-counts.ensures)) ended }
