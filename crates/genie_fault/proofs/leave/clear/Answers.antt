use Rattle.std.proofs.Common.{arith}
use Rattle.genie_object.specs.Touching.{is_entry}
use Rattle.genie_object.specs.Leaving.{is_object}
use Rattle.genie_object.specs.Lemmas.Emptied.{empties_on, empties_more, entry_object}
use Rattle.genie_object.specs.Lemmas.Removed.{empty_more}
use Rattle.genie_fault.proofs.leave.clear.Goals as goal

pub loop-index-preserved : goal.loop-index-preserved
loop-index-preserved c =
    let v = c.loop-index.invariant in
    let e = c.empty_entry.ensures in
    let o = c.args.object.0 in
    record {
      empties = empties_on (is_object o) c.args.memory.now c.loop-index.memory c.empty_entry.new.memory v.empties (empties_more (is_entry o c.loop-index.index) (is_object o) c.loop-index.memory c.empty_entry.new.memory (entry_object o c.loop-index.index) e.empties);
      empty = empty_more c.loop-index.memory c.empty_entry.new.memory o c.loop-index.index e.empties.touches e.empty v.empty;
    }

pub returns-clause-empty : goal.returns-clause-empty
returns-clause-empty c = λ i l. c.loop-index.invariant.empty i (omega (arith, l, c.pages-pages.ensures.number))
