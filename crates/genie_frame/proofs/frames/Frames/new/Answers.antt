use Rattle.std.proofs.Common.{refl, ap, arith, subst, sym}
use Rattle.std.specs.Prelude.{replicate}
use Rattle.genie_base.specs.FreeLists.{FreeNumbers, IsFreeList}
use Rattle.genie_base.specs.Lemmas.FreeLists.{all_listed}
use Rattle.genie_frame.specs.declared.frame.Owner.TheVariants.{Free, Nobody}
use Rattle.genie_frame.specs.FrameTable.{is_free}
use Rattle.genie_frame.proofs.Kept.{kept_new}
use Rattle.genie_frame.proofs.frames.Frames.new.Goals as goal

pub invariant_of-result : goal.invariant_of-result
invariant_of-result c =
    let list = subst (λ xs. IsFreeList is_free Nobody (replicate c.args.n Free) xs) (sym (ap (λ (x : FreeNumbers). x.list) c.in_ok-below.ensures)) (all_listed is_free Nobody Free refl refl c.args.n) in
    kept_new c.args.n _ _ _ _ _ _ c.requires.some c.requires.most c.requires.size (c.in_ok-vec.ensures.items_if_clones_equal (λ y e. e)) (c.in_ok-vec-2.ensures.items_if_clones_equal (λ y e. e)) c.in_ok-blank.ensures list (omega (arith, ap (λ (x : FreeNumbers). x.room) c.in_ok-below.ensures))
