use Rattle.std.proofs.Common.{arith, ◌∙◌, inl, inr}
use Rattle.std.proofs.lemmas.Bool.{cases_lt}
use Rattle.genie_hiding.specs.Hidden.{objects_of}
use Rattle.genie_hiding.specs.Lemmas.Making.{rooms_on, no_store, shed_entries, shed_past}
use Rattle.genie_hiding.proofs.hidden.HiddenCache.shed_object.Goals as goal

pub shed_entry-requires-clause-sound : goal.shed_entry-requires-clause-sound
shed_entry-requires-clause-sound c = (c.entries.invariant.room no_store).sound

pub shed_entry-requires-clause-fits : goal.shed_entry-requires-clause-fits
shed_entry-requires-clause-fits c = (c.entries.invariant.room no_store).fits

pub shed_entry-requires-clause-there : goal.shed_entry-requires-clause-there
shed_entry-requires-clause-there c = let r = c.entries.invariant.room no_store in let size = r.keeps.entries c.args.object.0 in omega (arith, size, c.pages-pages.ensures.number)

pub entries-preserved : goal.entries-preserved
entries-preserved c =
    let v = c.entries.invariant in
    let e = c.shed_entry.ensures in
    let r = e.room no_store in
    record {
      room = λ w. rooms_on (objects_of c.args.self.now) c.args.memory.now c.entries.memory c.shed_entry.new.memory w w w (v.room w) (e.room w);
      shed = shed_entries c.entries.memory c.shed_entry.new.memory c.args.object.0 c.entries.index r.sweeps r.counts e.shed v.shed;
      meters = e.meters ∙ v.meters;
    }

pub returns-clause-shed : goal.returns-clause-shed
returns-clause-shed c = λ i. elim (cases_lt i c.entries.index) [
  | inl h ↦ c.entries.invariant.shed i h
  | inr h ↦ let size = (c.entries.invariant.room no_store).keeps.entries c.args.object.0 in shed_past c.entries.memory c.args.object.0 i (omega (arith, h, size, c.pages-pages.ensures.number))
]
