use Rattle.std.proofs.Common.{sym, arith}
use Rattle.genie_region.specs.Layouts.{IsLowestFit}
use Rattle.genie_region.proofs.Fits.{place_at, no_place}
use Rattle.genie_region.proofs.regions.Regions.place.Goals as goal

pub returns-then-start-pages-le-SYSTEM_END : goal.returns-then-start-pages-le-SYSTEM_END
returns-then-start-pages-le-SYSTEM_END c =
    let fits : IsLowestFit c.args.n c.args.self.now c.lowest_fit-start.result = rw (← c.from-pages.ensures, ← c.self.view_is, ← c.as_slice.ensures.value) c.lowest_fit-start.ensures.fits in
    sym (place_at _ _ _ fits (omega arith))

pub returns-else-start-pages-le-SYSTEM_END : goal.returns-else-start-pages-le-SYSTEM_END
returns-else-start-pages-le-SYSTEM_END c =
    let fits : IsLowestFit c.args.n c.args.self.now c.lowest_fit-start.result = rw (← c.from-pages.ensures, ← c.self.view_is, ← c.as_slice.ensures.value) c.lowest_fit-start.ensures.fits in
    sym (no_place _ _ _ fits (omega arith))
