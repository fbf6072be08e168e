-- What the causes of refusal see of a region that was found.
use Rattle.genie_model.specs.State.{Region}
use Rattle.genie_refusal.specs.declared.tables.FoundRegion.{FoundRegion}

abbrev pub found : Region → FoundRegion
found r = record { number = r.number; area = r.area; state = r.state; writable = r.writable }
