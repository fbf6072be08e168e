use Rattle.std.proofs.Common.{ap, sym, ◌∙◌, arith, subst, length, set}
use Rattle.genie_frame.specs.FrameTable.{FrameTable, AreLentKept, owner_at}
use Rattle.genie_frame.proofs.Kept.{last_in, last_owner, kept_taken, lent_taken_one}
use Rattle.genie_frame.proofs.frames.Frames.take.Goals as goal

pub index_mut-requires : goal.index_mut-requires
index_mut-requires c = omega (arith, last_in _ _ _ _ c.self.invariant.list c.take-f.ensures.list)

pub invariant_of-self : goal.invariant_of-self
invariant_of-self c = rw c.take-f.ensures.room (kept_taken _ _ _ _ _ _ _ _ c.args.owner c.self.invariant c.take-f.ensures.list c.requires.owner)

pub returns-clause-there : goal.returns-clause-there
returns-clause-there c = omega (arith, last_in _ _ _ _ c.self.invariant.list c.take-f.ensures.list, ap (λ (t : FrameTable). length t.owners) c.self.view_is)

pub returns-clause-was_free : goal.returns-clause-was_free
returns-clause-was_free c = ap (λ (t : FrameTable). owner_at t c.take-f.result) (sym c.self.view_is) ∙ last_owner _ _ _ _ c.self.invariant.list c.take-f.ensures.list

pub returns-clause-lent : goal.returns-clause-lent
returns-clause-lent c =
    let owners = c.self.inside.owners.items in
    let counts = c.self.inside.counts.items in
    let f = c.take-f.result in
    let there = last_in _ _ _ _ c.self.invariant.list c.take-f.ensures.list in
    let none = (c.self.invariant.loans f).free (last_owner _ _ _ _ c.self.invariant.list c.take-f.ensures.list) in
    subst (λ (t : FrameTable). AreLentKept t.owners t.counts (set owners f c.args.owner) counts) c.self.view_is (lent_taken_one owners counts f c.args.owner there none)
