use Rattle.std.proofs.Common.{◌<◌, arith, subst, sym}
use Rattle.std.specs.Prelude.{count_by}
use Rattle.genie_frame.specs.declared.frame.InLoan.{InLoan}
use Rattle.genie_frame.specs.FrameTable.{is_free}
use Rattle.genie_object.specs.declared.memory.Memory.{Memory}
use Rattle.genie_inputs.specs.Claiming.{claimed, LendsEntry}
use Rattle.genie_inputs.proofs.Claimed.{claimed_lends, free_emptied}
use Rattle.genie_inputs.proofs.claim.lend_entry.Goals as goal

pub lend_free-requires-clause-free : goal.lend_free-requires-clause-free
lend_free-requires-clause-free c =
    let more = free_emptied c.args.memory.now c.requires.sound c.args.at.object.0 c.args.at.index in
    let free = c.requires.free in
    subst (λ (z : Memory). 0 < count_by is_free z.frames.owners) (sym c.empty_entry.ensures.emptied) (omega (arith, more, free))

pub returns-in-Some : goal.returns-in-Some
returns-in-Some c =
    let m = c.args.memory.now in
    let o = c.args.at.object.0 in
    let i = c.args.at.index in
    let n = c.args.id.0 in
    let u = c.in-Some.unlent in
    let found = c.in-Some.ensures in
    subst (λ (z : Memory). LendsEntry n o i m z c.claim.result.frame.0) (sym c.claim.ensures.claimed)
    (subst (λ (l : InLoan). LendsEntry n o i m (claimed m o i u n) l.frame.0) (sym c.claim.ensures.loan) (claimed_lends m o i n u c.requires.sound found (c.requires.own u.page found.is_page)))
