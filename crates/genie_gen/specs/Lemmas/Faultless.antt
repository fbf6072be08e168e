-- Nothing ever fails on the host of a made run.
use Rattle.std.proofs.Common.{◌≡◌, ℕ, ◌-◌, refl}
use Rattle.std.specs.Prelude.{Option, Some, None, true, false, ◌==◌, slice_get, if◌then◌else◌}
use Rattle.genie_host.specs.Handles.{state_in}
use Rattle.genie_gen.specs.declared.opened.Opened.{Opened}
use Rattle.genie_gen.specs.declared.opened.Opened.TheVariants.{Reading, Writing}
use Rattle.genie_gen.specs.GenView.{GenView, host_of, output_state, state_of}

in_table : (place : Option Opened) → (state_in state_of place).faults ≡ 0
in_table None = refl
in_table (Some (Reading left)) = refl
in_table (Some (Writing written)) = refl

-- each count of faults is 0
pub faultless : (g : GenView) (k : ℕ) → ((host_of g).handle k).faults ≡ 0
faultless g k = elim (k == 0) as (λ b. (if b then output_state g.replies else state_in state_of (slice_get g.opened (k - 1))).faults ≡ 0) [ true ↦ refl | false ↦ in_table (slice_get g.opened (k - 1)) ]
