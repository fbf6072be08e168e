use Rattle.std.proofs.Common.{◌≢◌, ◌<◌, [], arith, sym, ap, ◌∙◌, inr, length, subst}
use Rattle.std.specs.Prelude.{count_by}
use Rattle.genie_frame.specs.FrameTable.{is_free}
use Rattle.genie_object.specs.declared.memory.Memory.{Memory}
use Rattle.genie_object.specs.Objects.{object_at}
use Rattle.genie_hiding.specs.Hidden.{objects_of}
use Rattle.genie_hiding.specs.Rooms.{IsShed}
use Rattle.genie_hiding.specs.Lemmas.Searching.{hidden_length}
use Rattle.genie_hiding.specs.Lemmas.Naming.{kept_there}
use Rattle.genie_hiding.specs.Lemmas.Making.{rooms_on, no_store, shed_more, all_shed}
use Rattle.genie_hiding.proofs.hidden.HiddenCache.shed_until.Goals as goal

pub shed_object-requires-clause-sound : goal.shed_object-requires-clause-sound
shed_object-requires-clause-sound c = (c.regions.invariant.room no_store).sound

pub shed_object-requires-clause-fits : goal.shed_object-requires-clause-fits
shed_object-requires-clause-fits c = (c.regions.invariant.room no_store).fits

pub shed_object-requires-clause-there : goal.shed_object-requires-clause-there
shed_object-requires-clause-there c =
    let l : c.regions.at < length (objects_of c.args.self.now) = omega (arith, ap length c.self.view_is, hidden_length c.args.self.now, c.regions-test.true, c.len-at-end.ensures) in
    subst (λ o. object_at c.regions.memory.objects o ≢ []) (sym c.object.ensures) (kept_there (objects_of c.args.self.now) c.regions.memory c.regions.at (c.regions.invariant.room no_store).fits l)

pub regions-preserved : goal.regions-preserved
regions-preserved c =
    let v = c.regions.invariant in
    let e = c.shed_object.ensures in
    let r = e.room no_store in
    let hidden = objects_of c.args.self.now in
    record {
      room = λ w. rooms_on hidden c.args.memory.now c.regions.memory c.shed_object.new.memory w w w (v.room w) (e.room w);
      idle = λ h. absurd (omega (arith, h, ap (λ (m : Memory). count_by is_free m.frames.owners) (v.idle h), c.if-free-k.false, c.free.ensures));
      shed = shed_more hidden c.regions.memory c.shed_object.new.memory c.regions.at r.sweeps r.counts (λ i. subst (λ o. IsShed c.shed_object.new.memory o i) c.object.ensures (e.shed i)) v.shed;
      meters = e.meters ∙ v.meters;
    }

pub returns-clause-end : goal.returns-clause-end
returns-clause-end c = inr (all_shed c.regions.memory (objects_of c.args.self.now) c.regions.at (omega (arith, ap length c.self.view_is, hidden_length c.args.self.now, c.regions-test.false, c.len-at-end.ensures, c.regions.auto.at-end)) c.regions.invariant.shed)
