-- The state once a region is removed.
use Rattle.std.proofs.Common.{◌≡◌, ℕ, ◌<◌, ◌≤◌, List, ◌∙◌}
use Rattle.genie_object.specs.declared.memory.Memory.{Memory}
use Rattle.genie_region.specs.declared.region.Region.{Region}
use Rattle.genie_space.specs.Spaces.{AddressSpaces}
use Rattle.genie_model.specs.Space.{remove, tidy}
use Rattle.genie_kernel.specs.declared.kernel.Kernel.{Kernel}
use Rattle.genie_kernel.specs.Calls.{receiver}
use Rattle.genie_kernel.specs.Devices.{devices_view}
use Rattle.genie_kernel.specs.Held.{PageOf}
use Rattle.genie_kernel.specs.Regions.{owned_regions, region_view}
use Rattle.genie_kernel.specs.Same.{SameNeeded}
use Rattle.genie_kernel.specs.View.{Bytes, state_of}
use Rattle.genie_kernel.specs.Lemmas.Alike.{transfers_alike, devices_alike}
use Rattle.genie_changes.specs.Orphans.{IsWithout, LeavesPages}
use Rattle.genie_changes.specs.States.{ProcessesLose}
use Rattle.genie_changes.proofs.Gained.{orphans_grow}

pub removed_state : (k : Kernel) (m : Memory) (spaces : AddressSpaces) (queues : List (List ℕ)) (old new : Bytes) (frame_of : PageOf → ℕ) (r : Region) → 0 < k.config.page → r.pages ≤ 64 → r.id.0 < 577 → new.rests ≡ old.rests → new.sents ≡ old.sents
    → IsWithout r (owned_regions k.spaces.processes) (owned_regions spaces.processes)
    → ProcessesLose r.id.0 k old spaces queues new
    → SameNeeded (owned_regions k.spaces.processes) k.transfers k.pools old.seen.kept_bytes new.seen.kept_bytes
    → LeavesPages k.config.page old.seen.entry_bytes new.seen.kept_bytes frame_of r k.transfers
    → state_of (record k { memory = m; spaces = spaces; queues = queues }) new ≡ tidy (remove (state_of k old) (region_view old.seen.entry_bytes r))
removed_state k m spaces queues old new frame_of r some few low rests sents less lose same leaves =
    let a = old.seen.kept_bytes in
    let b = new.seen.kept_bytes in
    let rs : List Region = owned_regions k.spaces.processes in
    let orphans = orphans_grow k.config.page old.seen.entry_bytes a b k.devices k.pools frame_of r rs (owned_regions spaces.processes) k.transfers some few low less same.orphans leaves in
    let transfers = transfers_alike rs k.transfers k.pools a b same k.devices in
    let devices = (λ i. devices_view b 0 (rests i) (sents i) k.pools (receiver k.transfers) k.devices) ∙ devices_alike rs k.transfers k.pools a b same 0 old.rests old.sents (receiver k.transfers) k.devices in
    λ i. record (state_of k old) { processes = lose i; orphans = orphans i; transfers = transfers i; devices = devices i }
