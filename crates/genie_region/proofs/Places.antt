-- The laws of placement and order.
use Rattle.std.proofs.Common.{◌-◌, arith}
use Rattle.genie_base.specs.Regions.{is_free}
use Rattle.genie_region.specs.Laws.{PlaceIsLowest, NoPlaceIsFull, OrderStays}
use Rattle.genie_region.specs.Layouts.{extent}
use Rattle.genie_base.specs.Lemmas.Searches.{least_found, none_found}
use Rattle.genie_region.proofs.Orders.{order_kept}

pub place_is_lowest : PlaceIsLowest
place_is_lowest rs pages start e =
    let least = least_found (λ s. is_free extent s pages rs) 512 (513 - pages) start e in
    (record { low = least.low; free = least.passes; taken = least.least }, omega (arith, least.low, least.high))

pub no_place_is_full : NoPlaceIsFull
no_place_is_full rs pages start e l m = none_found (λ s. is_free extent s pages rs) 512 (513 - pages) start e l (omega arith)

pub order_stays : OrderStays
order_stays rs new o free = order_kept new rs o free
