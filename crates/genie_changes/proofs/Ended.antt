-- The state once a transfer is pending no more.
use Rattle.std.proofs.Common.{◌≡◌, ℕ, ◌<◌, false, List, refl, ap, ◌∙◌, map, filter}
use Rattle.std.specs.Prelude.{Some, find, ◌&&◌, ◌==◌}
use Rattle.genie_demux.specs.declared.input.Input.{Input}
use Rattle.genie_object.specs.declared.memory.Memory.{Memory}
use Rattle.genie_region.specs.declared.region.Region.{Region}
use Rattle.genie_model.specs.Pending.{is_queued, is_moving, is_numbered}
use Rattle.genie_model.specs.Ending.{without_transfer}
use Rattle.genie_model.specs.Space.{cut, is_named, tidy}
use Rattle.genie_model.specs.Tables.{without}
use Rattle.genie_kernel.specs.declared.kernel.Kernel.{Kernel}
use Rattle.genie_kernel.specs.declared.transfer.Transfer.{Transfer}
use Rattle.genie_kernel.specs.Calls.{has_number, waits_for, receives_from, first_waiting, receiver}
use Rattle.genie_kernel.specs.Devices.{devices_view}
use Rattle.genie_kernel.specs.Held.{PageOf}
use Rattle.genie_kernel.specs.Orphans.{orphans_view}
use Rattle.genie_kernel.specs.Regions.{owned_regions, processes_view}
use Rattle.genie_kernel.specs.Same.{SameNeeded}
use Rattle.genie_kernel.specs.Transfers.{transfer_view, transfers_view}
use Rattle.genie_kernel.specs.View.{Bytes, state_of}
use Rattle.genie_kernel.specs.Lemmas.Alike.{transfers_alike, orphans_alike, devices_alike}
use Rattle.genie_kernel.specs.Lemmas.Beside.{find_beside, map_without}
use Rattle.genie_changes.specs.Orphans.{OrphansLie}
use Rattle.genie_changes.proofs.Left.{orphans_shrink}

pub left_state : (k : Kernel) (m : Memory) (n : ℕ) (t : Transfer) (posted : List Input) (old new : Bytes) (frame_of : PageOf → ℕ) → 0 < k.config.page → find (has_number n) k.transfers ≡ Some t → is_queued t.phase ≡ false → is_moving t.phase ≡ false
    → new.seen.entry_bytes ≡ old.seen.entry_bytes → new.rests ≡ old.rests → new.sents ≡ old.sents
    → SameNeeded (owned_regions k.spaces.processes) (without (has_number n) k.transfers) k.pools old.seen.kept_bytes new.seen.kept_bytes
    → OrphansLie k.config.page old.seen.kept_bytes frame_of (owned_regions k.spaces.processes) k.transfers
    → OrphansLie k.config.page old.seen.kept_bytes frame_of (owned_regions k.spaces.processes) (without (has_number n) k.transfers)
    → state_of (record k { memory = m; transfers = without (has_number n) k.transfers; posted = posted }) new ≡ tidy (without_transfer (state_of k old) n)
left_state k m n t posted old new frame_of some found unqueued unmoved entries rests sents same lie lie_left =
    let a = old.seen.kept_bytes in
    let b = new.seen.kept_bytes in
    let rs : List Region = owned_regions k.spaces.processes in
    let us : List Transfer = without (has_number n) k.transfers in
    let page = k.config.page in
    let waiting : (d : ℕ) → first_waiting us d ≡ first_waiting k.transfers d = λ d. find_beside (has_number n) t (waits_for d) k.transfers found (ap (λ c. c && (t.dev == d)) unqueued) in
    let receivers : (d : ℕ) → receiver us d ≡ receiver k.transfers d = λ d. find_beside (has_number n) t (receives_from d) k.transfers found (ap (λ c. c && (t.dev == d)) unmoved) in
    let views : transfers_view a k.devices k.pools us ≡ without (is_numbered n) (transfers_view a k.devices k.pools k.transfers) =
    (λ i. map (transfer_view a k.devices k.pools (λ d. waiting d i)) us) ∙ map_without (has_number n) (is_numbered n) (transfer_view a k.devices k.pools (first_waiting k.transfers)) (λ x. refl) k.transfers in
    let transfers = transfers_alike rs us k.pools a b same k.devices ∙ views in
    let orphans = orphans_alike rs us k.pools a b same page ∙ orphans_shrink page a k.devices k.pools frame_of (has_number n) rs k.transfers some lie lie_left ∙ (λ i. map (cut (views i)) (filter (is_named (views i)) (orphans_view page a rs k.transfers))) in
    let devices = (λ i. devices_view b 0 (rests i) (sents i) k.pools (λ d. receivers d i) k.devices) ∙ devices_alike rs us k.pools a b same 0 old.rests old.sents (receiver k.transfers) k.devices in
    λ i. record (state_of k old) { processes = processes_view (entries i) k.spaces.processes k.queues; orphans = orphans i; transfers = transfers i; devices = devices i }
