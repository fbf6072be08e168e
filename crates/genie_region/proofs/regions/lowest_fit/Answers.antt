use Rattle.std.proofs.Common.{arith, sym}
use Rattle.genie_region.proofs.Orders.{blank}
use Rattle.genie_region.proofs.Fits.{free_before, free_after}
use Rattle.genie_region.proofs.regions.lowest_fit.Goals as goal

pub returns-then-start-pages-clause-fits : goal.returns-then-start-pages-clause-fits
returns-then-start-pages-clause-fits c =
    let loop = c.loop-region.invariant in
    record {
      low = loop.low;
      free = free_before _ blank _ _ c.loop-region.region-index c.requires.ordered (λ i lt. loop.behind i _ lt) (omega arith) (rw (sym c.from.ensures) c.if-start-pages.true);
      taken = loop.taken;
    }

pub returns-clause-fits : goal.returns-clause-fits
returns-clause-fits c =
    let loop = c.loop-region.invariant in
    record {
      low = loop.low;
      free = free_after _ blank _ _ (λ i l. loop.behind i _ (omega arith));
      taken = loop.taken;
    }
