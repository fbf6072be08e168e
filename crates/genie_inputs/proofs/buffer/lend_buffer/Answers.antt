use Rattle.std.proofs.Common.{refl, sym, ap, arith, subst}
use Rattle.genie_frame.specs.declared.frame.Meters.{Meters}
use Rattle.genie_frame.specs.declared.frame.Owner.TheVariants.{System}
use Rattle.genie_kernel.specs.declared.transfer.Loans.TheVariants.{Nothing, Inward}
use Rattle.genie_plan.specs.Lemmas.Fresh.{fresh_none}
use Rattle.genie_inputs.specs.Buffers.{LendsBuffer}
use Rattle.genie_inputs.proofs.buffer.lend_buffer.Goals as goal

pub returns-then-early : goal.returns-then-early
returns-then-early c =
    let a = c.args in
    let e = c.aligned_buffer.ensures in
    let new = c.aligned_buffer.new.memory in
    let count = ap (λ (q : Meters). q.taken) e.fresh.meters in
    subst (λ b. LendsBuffer a.id.0 a.at a.len b a.memory.now new (Inward c.aligned_buffer.result)) (sym c.if-early.true) (record {
      sound = e.sound;
      lends = record { pages = e.number; begins = e.first; length_kept = e.len };
      count = new.frames.meters.taken;
      fresh = e.fresh;
      taken = omega (arith, count);
      low = omega (arith, count);
      shows = e.seen;
      pages = e.pages;
      objects = e.objects;
      slots = e.slots;
    })

pub returns-else-early : goal.returns-else-early
returns-else-early c =
    let a = c.args in
    let m = a.memory.now in
    subst (λ b. LendsBuffer a.id.0 a.at a.len b m m Nothing) (sym c.if-early.false) (record {
      sound = c.requires.sound;
      lends = refl;
      count = m.frames.meters.taken;
      fresh = fresh_none (System a.id.0) m.frames;
      taken = omega arith;
      low = omega arith;
      shows = record { entries = λ slots. refl; others = λ slots f z. refl };
      pages = refl;
      objects = refl;
      slots = refl;
    })
