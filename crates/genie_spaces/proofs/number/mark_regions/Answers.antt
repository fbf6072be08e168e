use Rattle.std.proofs.Common.{subst, sym, arith}
use Rattle.genie_region.specs.declared.region.Region.{Region}
use Rattle.genie_kernel.specs.Regions.{has_id}
use Rattle.genie_spaces.specs.Marks.{Marks}
use Rattle.genie_spaces.proofs.Marking.{marks_begin, marks_next, marks_all, got_at}
use Rattle.genie_spaces.proofs.number.mark_regions.Goals as goal

pub regions-init : goal.regions-init
regions-init c = marks_begin has_id c.args.regions.now c.args.marks.now

pub regions-preserved : goal.regions-preserved
regions-preserved c =
    let at = got_at c.args.regions.now c.regions.i c.at.result c.at.result c.at.ensures in
    marks_next has_id c.args.regions.now c.regions.i c.at.result c.args.marks.now c.regions.marks c.mark.new.marks at.0 c.regions.invariant (subst (λ (r : Region). Marks (λ n. has_id n r) c.regions.marks c.mark.new.marks) (sym at.1) c.mark.ensures)

pub returns : goal.returns
returns c = marks_all has_id c.args.regions.now c.regions.i c.args.marks.now c.regions.marks (let size = c.len-i-end.ensures.length in omega (arith, size, c.regions-test.false)) c.regions.invariant
