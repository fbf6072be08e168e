-- The bytes that pending weak transfers cover.
use Rattle.genie_laws.proofs.Covered.Stores.{covered_bytes_stay}
use Rattle.genie_laws.proofs.laws.covered_bytes_stay.Goals as goal

pub returns : goal.returns
returns c = covered_bytes_stay c.steps_stay_orderly.ensures
