-- The flat state that a kernel stands for.
use Rattle.std.specs.Prelude.{ℕ, List, [], replicate, Option, None, Some}
use Rattle.std.specs.Option.{option_map}
use Rattle.genie_base.specs.Configs.{config_of}
use Rattle.genie_host.specs.Host.{HostView}
use Rattle.genie_store.specs.StoreView.{StoreView}
use Rattle.genie_object.specs.Memory.{Seen, seen_with}
use Rattle.genie_model.specs.State.{State}
use Rattle.genie_kernel.specs.declared.kernel.Kernel.{Kernel}
use Rattle.genie_kernel.specs.Regions.{processes_view, owned_regions}
use Rattle.genie_kernel.specs.Orphans.{orphans_view}
use Rattle.genie_kernel.specs.Transfers.{transfers_view}
use Rattle.genie_kernel.specs.Devices.{devices_view}
use Rattle.genie_kernel.specs.Calls.{receiver}
use Rattle.genie_kernel.specs.Told.{rests_of, sents_of}

-- the bytes behind it: what is seen of the memory, and of each device what is left of its input and what was sent
pub record Bytes : Type 0 where
  pub seen : Seen
  pub rests : ℕ → List ℕ
  pub sents : ℕ → List ℕ

abbrev pub state_of : Kernel → Bytes → State
state_of k b = record {
  config = config_of k.config;
  processes = processes_view b.seen.entry_bytes k.spaces.processes k.queues;
  orphans = orphans_view k.config.page b.seen.kept_bytes (owned_regions k.spaces.processes) k.transfers;
  transfers = transfers_view b.seen.kept_bytes k.devices k.pools k.transfers;
  devices = devices_view b.seen.kept_bytes 0 b.rests b.sents k.pools (receiver k.transfers) k.devices;
  next = k.next;
}

-- the bytes, where the host and the store tell theirs
abbrev pub bytes_with : Option Seen → Option (ℕ → List ℕ) → Option (ℕ → List ℕ) → Option Bytes
bytes_with (Some seen) (Some rests) (Some sents) = Some (record { seen = seen; rests = rests; sents = sents })
bytes_with (Some seen) (Some rests) None = None
bytes_with (Some seen) None sents = None
bytes_with None rests sents = None

abbrev pub bytes_of : Kernel → HostView → StoreView → Option Bytes
bytes_of k host store = bytes_with (seen_with k.memory store) (rests_of host k.config) (sents_of host k.config)

-- the flat state, where the host and the store tell their bytes
abbrev pub view : Kernel → HostView → StoreView → Option State
view k host store = option_map (state_of k) (bytes_of k host store)

-- zeros everywhere, and nothing left or sent
abbrev pub no_bytes : ℕ → Bytes
no_bytes page = record { seen = record { entry_bytes = λ o i. replicate page 0; kept_bytes = λ f. replicate page 0 }; rests = λ d. []; sents = λ d. [] }

-- the flat state without its bytes: what of it is so whatever the host and the store tell
abbrev pub outline : Kernel → State
outline k = state_of k (no_bytes k.config.page)
