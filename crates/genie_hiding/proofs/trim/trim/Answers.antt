use Rattle.std.proofs.Common.{arith}
use Rattle.genie_object.specs.Touching.{is_entry}
use Rattle.genie_object.specs.Leaving.{is_object}
use Rattle.genie_object.specs.Lemmas.Emptied.{empties_on, empties_more, entry_object}
use Rattle.genie_hiding.proofs.Trimmed.{trimmed_more, stays_more}
use Rattle.genie_hiding.proofs.trim.trim.Goals as goal

pub loop-index-preserved : goal.loop-index-preserved
loop-index-preserved c =
    let v = c.loop-index.invariant in
    let e = c.trim_entry.ensures in
    let o = c.args.object.0 in
    record {
      empties = empties_on (is_object o) c.args.memory.now c.loop-index.memory c.trim_entry.new.memory v.empties (empties_more (is_entry o c.loop-index.index) (is_object o) c.loop-index.memory c.trim_entry.new.memory (entry_object o c.loop-index.index) e.empties);
      stays = stays_more c.args.memory.now c.loop-index.memory c.trim_entry.new.memory o c.loop-index.index v.empties.sound e.empties.touches e.stays v.stays;
      trimmed = trimmed_more c.loop-index.memory c.trim_entry.new.memory o c.loop-index.index v.empties.sound e.empties.touches e.trimmed v.trimmed;
    }

pub returns-clause-trimmed : goal.returns-clause-trimmed
returns-clause-trimmed c = λ i l. c.loop-index.invariant.trimmed i (omega (arith, l, c.pages-pages.ensures.number))
