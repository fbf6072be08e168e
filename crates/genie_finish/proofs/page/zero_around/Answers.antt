use Rattle.std.proofs.Common.{refl, arith, [], ap, ◌-◌, ◌+◌}
use Rattle.genie_finish.proofs.Completed.{zeroed_bytes, zeroed_frames}
use Rattle.genie_finish.proofs.page.zero_around.Goals as goal

pub returns-clause-frames : goal.returns-clause-frames
returns-clause-frames c = zeroed_frames c.args.frames.now c.zero.new.self c.zero-2.new.self c.args.frame.0 c.args.off c.args.n _ _ (omega (arith, c.len.ensures.shaped.filled, c.requires.there)) (c.len.ensures.shaped.paged c.args.frame.0 [] (omega (arith, c.len.ensures.shaped.filled, c.requires.there))) c.requires.range refl (ap (λ p. p - (c.args.off + c.args.n)) c.page-page.ensures.size) c.zero.ensures c.zero-2.ensures

pub returns-clause-bytes : goal.returns-clause-bytes
returns-clause-bytes c = zeroed_bytes c.args.frames.now c.zero.new.self c.zero-2.new.self c.args.frame.0 c.args.off c.args.n _ _ (omega (arith, c.len.ensures.shaped.filled, c.requires.there)) (c.len.ensures.shaped.paged c.args.frame.0 [] (omega (arith, c.len.ensures.shaped.filled, c.requires.there))) c.requires.range refl (ap (λ p. p - (c.args.off + c.args.n)) c.page-page.ensures.size) c.zero.ensures c.zero-2.ensures
