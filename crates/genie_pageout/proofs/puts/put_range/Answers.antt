use Rattle.std.proofs.Common.{arith, ◌∙◌}
use Rattle.genie_object.specs.Lemmas.Spending.{spends_more, spends_on}
use Rattle.genie_hiding.specs.Hidden.{objects_of}
use Rattle.genie_hiding.specs.Lemmas.Making.{rooms_on}
use Rattle.genie_pageout.proofs.Swept.{gone_more}
use Rattle.genie_pageout.proofs.Rounds.{set_on}
use Rattle.genie_pageout.proofs.puts.put_range.Goals as goal

pub returns-in-Err-clause-room : goal.returns-in-Err-clause-room
returns-in-Err-clause-room g c = rooms_on _ _ _ _ _ _ _ c.frames.invariant.room c.in-Err.ensures.room

pub frames-preserved : goal.frames-preserved
frames-preserved g c =
    let v = c.frames.invariant in
    let e = c.in-Ok.ensures in
    record {
      room = rooms_on _ _ _ _ _ _ _ v.room e.room;
      faults = e.cause.kept ∙ v.faults;
      marks = e.marks;
      went = omega (arith, v.went, e.went);
      few = omega (arith, v.few, e.small);
      fits = omega (arith, v.fits, e.small);
      here = gone_more (objects_of c.args.hidden.now) _ _ _ _ v.here e.gone e.here;
      gone = λ f h. e.gone f (v.gone f h);
      puts = omega (arith, v.puts, e.puts);
      clock = c.set.ensures ∙ set_on _ _ _ v.order;
      order = omega (arith, v.order);
      idle = λ l. absurd (omega (arith, l, c.if-done-n.false, v.few));
      since = omega (arith, v.since, e.small);
      meters = spends_on _ _ _ _ _ _ _ _ _ _ _ v.meters e.meters;
    }

pub returns-clause-meters : goal.returns-clause-meters
returns-clause-meters g c = spends_more _ _ _ _ _ _ _ _ _ _ c.frames.invariant.meters (omega arith) (omega arith) (omega (arith, c.requires.sound.shaped.most)) (omega arith)
