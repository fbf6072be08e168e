use Rattle.std.proofs.Common.{◌∙◌, arith}
use Rattle.genie_object.specs.Lemmas.Spending.{spends_more, spends_on}
use Rattle.genie_hiding.specs.Hidden.{objects_of}
use Rattle.genie_hiding.specs.Lemmas.Making.{rooms_on, all_kept}
use Rattle.genie_pageout.proofs.Swept.{swept_more}
use Rattle.genie_pageout.proofs.Rounds.{set_on}
use Rattle.genie_pageout.proofs.room.sweep.Goals as goal

pub returns-in-Err-clause-room : goal.returns-in-Err-clause-room
returns-in-Err-clause-room g c = rooms_on _ _ _ _ _ _ _ c.frames.invariant.room c.in-Err.ensures.room

pub frames-preserved : goal.frames-preserved
frames-preserved g c =
    let v = c.frames.invariant in
    let e = c.in-Ok.ensures in
    record {
      room = rooms_on _ _ _ _ _ _ _ v.room e.room;
      shed = all_kept (objects_of c.args.hidden.now) c.frames.memory c.visit.new.memory e.room.sweeps e.room.counts v.shed;
      faults = e.cause.kept ∙ v.faults;
      swept = swept_more _ _ _ _ v.swept e.room.sweeps e.room.counts e.gone;
      clock = c.set.ensures ∙ set_on _ _ _ v.order;
      order = omega (arith, v.order);
      idle = λ l. absurd (omega (arith, l, v.room.sweeps.free, c.if-free-k.false, c.free.ensures));
      puts = omega (arith, v.puts, e.meters.most_puts);
      meters = spends_on _ _ _ _ _ _ _ _ _ _ _ v.meters e.meters;
    }

pub returns-clause-meters : goal.returns-clause-meters
returns-clause-meters g c = spends_more _ _ _ _ _ _ _ _ _ _ c.frames.invariant.meters (omega arith) (omega arith) (omega (arith, c.requires.sound.shaped.most)) (omega arith)
