use Rattle.std.proofs.Common.{◌<◌, arith, ap, ◌∙◌, length, subst}
use Rattle.genie_object.specs.Objects.{object_at}
use Rattle.genie_hiding.specs.Hidden.{objects_of}
use Rattle.genie_hiding.specs.Marking.{MarksObject}
use Rattle.genie_hiding.specs.Lemmas.Searching.{hidden_length}
use Rattle.genie_hiding.proofs.Marking.{marked_more, marked_all}
use Rattle.genie_hiding.proofs.hidden.HiddenCache.mark.Goals as goal

pub regions-preserved : goal.regions-preserved
regions-preserved c =
    let v = c.regions.invariant in
    let e = c.mark_object.ensures in
    let m = c.args.memory.now in
    let l : c.regions.at < length (objects_of c.args.self.now) = omega (arith, ap length c.self.view_is, hidden_length c.args.self.now, c.regions-test.true, c.len-at-end.ensures) in
    record {
      size = e.size ∙ v.size;
      marks = marked_more m (objects_of c.args.self.now) c.regions.at (length (object_at m.objects c.object.result.0)) c.regions.marks c.mark_object.new.marks c.requires.sound l (ap (λ o. length (object_at m.objects o)) c.object.ensures) (subst (λ o. MarksObject m o (length (object_at m.objects c.object.result.0)) c.regions.marks c.mark_object.new.marks) c.object.ensures e.marks) v.marks;
    }

pub returns-clause-marks : goal.returns-clause-marks
returns-clause-marks c = marked_all c.args.memory.now (objects_of c.args.self.now) c.regions.at c.regions.marks c.requires.sound (omega (arith, ap length c.self.view_is, hidden_length c.args.self.now, c.regions-test.false, c.len-at-end.ensures, c.regions.auto.at-end)) c.regions.invariant.marks
