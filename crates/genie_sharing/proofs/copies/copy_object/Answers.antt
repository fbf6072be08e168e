use Rattle.std.proofs.Common.{arith}
use Rattle.genie_object.specs.Leaving.{is_object}
use Rattle.genie_sharing.proofs.Looping.{copied_all, copying_failed, copying_more, copying_none, below_next, cause_later, other_object, roomy_next, spent_failed, work_kept}
use Rattle.genie_sharing.proofs.copies.copy_object.Goals as goal

pub entries-init : goal.entries-init
entries-init g c = copying_none c.args.hidden.now c.args.from.0 c.args.to.0 c.args.memory.now (g.S.Store.view c.args.store.now) c.requires.sound c.requires.sized c.requires.fits c.requires.empty

pub copy_entry-requires-clause-room : goal.copy_entry-requires-clause-room
copy_entry-requires-clause-room g c = roomy_next c.args.hidden.now c.entries.hidden (is_object c.args.to.0) c.args.memory.now c.entries.memory (g.S.Store.view c.args.store.now) (g.S.Store.view c.entries.store) c.entries.invariant.cache c.entries.invariant.copies c.requires.room

pub returns-in-Err-clause-failed : goal.returns-in-Err-clause-failed
returns-in-Err-clause-failed g c = copying_failed c.args.hidden.now c.entries.hidden c.args.from.0 c.args.to.0 c.entries.index c.args.memory.now c.entries.memory c.copy_entry.new.memory (g.S.Store.view c.args.store.now) (g.S.Store.view c.entries.store) (g.S.Store.view c.copy_entry.new.store) c.entries.invariant c.in-Err.ensures.failed

pub returns-in-Err-clause-cause : goal.returns-in-Err-clause-cause
returns-in-Err-clause-cause g c = cause_later _ _ _ _ c.entries.invariant.steady c.in-Err.ensures.cause

pub entries-preserved : goal.entries-preserved
entries-preserved g c = copying_more c.args.hidden.now c.entries.hidden c.copy_entry.new.hidden c.args.from.0 c.args.to.0 c.entries.index c.args.memory.now c.entries.memory c.copy_entry.new.memory (g.S.Store.view c.args.store.now) (g.S.Store.view c.entries.store) (g.S.Store.view c.copy_entry.new.store) c.requires.apart c.requires.page c.requires.to_owned c.requires.from_owned c.requires.sound c.entries.invariant c.copy_entry.ensures.hidden c.in-Ok.ensures.copies c.in-Ok.ensures.cause.kept c.copy_entry.ensures.meters

pub returns-clause-copies : goal.returns-clause-copies
returns-clause-copies g c = copied_all c.args.hidden.now c.entries.hidden c.args.from.0 c.args.to.0 c.entries.index c.args.memory.now c.entries.memory (g.S.Store.view c.args.store.now) (g.S.Store.view c.entries.store) (let n = c.pages-pages.ensures.number in let t = c.entries-test.false in omega (arith, n, t, c.entries.auto)) c.entries.invariant

pub returns-clause-cause : goal.returns-clause-cause
returns-clause-cause g c = record { later = omega (arith, c.entries.invariant.steady); failed = tt; kept = c.entries.invariant.steady }

pub copy_entry-requires-clause-meters : goal.copy_entry-requires-clause-meters
copy_entry-requires-clause-meters g c = below_next c.entries.index c.args.memory.now c.args.from.0 c.entries.memory.frames.meters (let t = c.entries-test.true in let n = c.pages-pages.ensures.most in omega (arith, t, n)) c.requires.page c.requires.meters c.entries.invariant.meters

pub returns-in-Err-clause-meters : goal.returns-in-Err-clause-meters
returns-in-Err-clause-meters g c =
    let x = c.entries.invariant.copies in
    let less = work_kept c.args.memory.now c.entries.memory c.args.from.0 c.entries.index c.requires.sound x.sound x.keeps x.counts (x.pages c.args.from.0 c.entries.index c.requires.from_owned (other_object c.args.from.0 c.args.to.0 c.entries.index c.requires.apart)) in
    spent_failed c.entries.index c.args.memory.now c.entries.memory c.args.from.0 c.copy_entry.new.memory.frames.meters (let t = c.entries-test.true in let n = c.pages-pages.ensures.number in omega (arith, t, n)) (let n = c.pages-pages.ensures.number in let m = c.pages-pages.ensures.most in omega (arith, n, m)) less c.entries.invariant.meters c.copy_entry.ensures.meters
