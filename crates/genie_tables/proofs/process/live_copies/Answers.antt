use Rattle.std.proofs.Common.{◌≡◌, List, [], ◌∷◌, ◌++◌, true, false, refl, ap, ◌∙◌, arith}
use Rattle.std.specs.Prelude.{map, cond}
use Rattle.genie_base.specs.Regions.{is_accessible}
use Rattle.genie_base.specs.declared.region.RegionState.TheVariants.{Live}
use Rattle.genie_model.specs.State.{Region}
use Rattle.genie_tables.specs.Changes.{live_copy}
use Rattle.genie_model.specs.Regions.{with_state}
use Rattle.genie_model.specs.Space.{accessible}
use Rattle.genie_tables.proofs.Collected.{collected_more}
use Rattle.genie_tables.proofs.process.live_copies.Goals as goal

split : (r : Region) (rest : List Region) → map (with_state Live) (accessible (r ∷ rest)) ≡ live_copy r ++ map (with_state Live) (accessible rest)
split r rest =
    let others = accessible rest in
    elim (is_accessible r.state) as (λ b. map (with_state Live) (cond b (r ∷ others) others) ≡ cond b (with_state Live r ∷ []) [] ++ map (with_state Live) others) [ true ↦ refl | false ↦ refl ]

pub loop-region-preserved : goal.loop-region-preserved
loop-region-preserved c =
    let here = c.in_ok-push_copy.ensures.copies ∙ ap (λ r. c.loop-region.copies.items ++ live_copy r) c.region-item.is in
    record {
      so_far = collected_more (λ rs. map (with_state Live) (accessible rs)) live_copy split c.args.regions.now c.loop-region.region-index c.region-item.result c.loop-region.copies.items _ _ c.loop-region-test.true c.loop-region.invariant.so_far here;
      few = omega (arith, c.in_ok-push_copy.ensures.few, c.loop-region.invariant.few);
    }
