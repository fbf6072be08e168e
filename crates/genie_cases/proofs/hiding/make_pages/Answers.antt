use Rattle.std.proofs.Common.{arith, ap, length}
use Rattle.genie_base.specs.declared.numbers.ObjectId.{ObjectId}
use Rattle.genie_object.specs.Objects.{object_at}
use Rattle.genie_cases.proofs.Sharing.{shared_idle}
use Rattle.genie_cases.proofs.hiding.make_pages.Goals as goal

pub lend-requires-clause-idle : goal.lend-requires-clause-idle
lend-requires-clause-idle g c = shared_idle _ _ c.share_page.ensures (c.write-5.ensures.idle (c.write-4.ensures.idle (c.write-3.ensures.idle (c.make_room.ensures.idle (c.write-2.ensures.idle (c.write.ensures.idle c.requires.idle))))))

pub returns-clause-there : goal.returns-clause-there
returns-clause-there g c e =
    let o = c.write-5.new.self.object.0 in
    let d = ap (λ (x : ObjectId). length (object_at c.lend.new.self.memory.objects x.0)) c.lend.ensures.object in
    omega (arith, ap length e, d, c.lend.ensures.sizes o, c.share_page.ensures.sizes o, c.write-5.ensures.well.size, c.if-bench-lt6.false)
