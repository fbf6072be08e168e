use Rattle.std.proofs.Common.{◌≡◌, ◌<◌, ap, ◌∙◌, arith, subst, length}
use Rattle.genie_frame.specs.FrameTable.{FrameTable, Agree, owner_at, counts_at}
use Rattle.genie_frame.specs.declared.frame.Owner.TheVariants.{Free}
use Rattle.genie_frame.specs.Frames.{left_to}
use Rattle.genie_base.specs.Lemmas.Places.{any_default}
use Rattle.genie_frame.proofs.Kept.{lent_taken, left_agrees, lent_set, lent_left}
use Rattle.genie_frame.proofs.frames.Frames.end_loan.Goals as goal

pub settle-requires-clause-taken : goal.settle-requires-clause-taken
settle-requires-clause-taken c =
    let agree = subst (λ (t : FrameTable). Agree (owner_at t c.args.f.0) (counts_at t c.args.f.0)) c.self.view_is (c.self.invariant.loans c.args.f.0) in
    lent_taken _ _ c.requires.lent agree

pub settle-requires-clause-agree : goal.settle-requires-clause-agree
settle-requires-clause-agree c =
    let agree = subst (λ (t : FrameTable). Agree (owner_at t c.args.f.0) (counts_at t c.args.f.0)) c.self.view_is (c.self.invariant.loans c.args.f.0) in
    let there : c.args.f.0 < length c.self.inside.owners.items = omega (arith, ap (λ (t : FrameTable). length t.owners) c.self.view_is) in
    let is : c.after_loan-owner.result ≡ left_to (owner_at c.args.self.now c.args.f.0) c.args.left = c.after_loan-owner.ensures ∙ ap (λ o. left_to o c.args.left) (c.index.ensures ∙ any_default c.self.inside.owners.items c.args.f.0 c.index.result.now Free there ∙ ap (λ (t : FrameTable). owner_at t c.args.f.0) c.self.view_is) in
    rw is (left_agrees _ _ c.args.left c.requires.lent agree)

pub returns-clause-lent : goal.returns-clause-lent
returns-clause-lent c =
    let there : c.args.f.0 < length c.self.inside.owners.items = omega (arith, ap (λ (t : FrameTable). length t.owners) c.self.view_is) in
    let is : c.after_loan-owner.result ≡ left_to (owner_at c.args.self.now c.args.f.0) c.args.left = c.after_loan-owner.ensures ∙ ap (λ o. left_to o c.args.left) (c.index.ensures ∙ any_default c.self.inside.owners.items c.args.f.0 c.index.result.now Free there ∙ ap (λ (t : FrameTable). owner_at t c.args.f.0) c.self.view_is) in
    rw (c.settle.ensures, is) (lent_set c.args.self.now.owners c.args.self.now.counts c.args.f.0 _ c.args.left c.requires.there (λ l m. lent_left (owner_at c.args.self.now c.args.f.0) c.args.left m))
