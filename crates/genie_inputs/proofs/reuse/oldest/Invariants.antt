use Rattle.std.proofs.Common.{◌≡◌, ℕ, ◌<◌, false, get_or}
use Rattle.genie_kernel.specs.Asked.{is_reusable}
use Rattle.genie_inputs.proofs.reuse.oldest.Given as goal

abbrev pub invariant-each : goal.invariant-each
invariant-each l = (j : ℕ) (d : ℕ) → j < l.i → is_reusable l.regions l.transfers l.pages (get_or l.queue j d) ≡ false
