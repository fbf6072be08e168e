-- The state once a device has sent or staged more of the first output that waits for it.
use Rattle.std.proofs.Common.{◌≡◌, ℕ, ◌+◌, ◌<◌, true, false, List, [], ◌++◌, refl, sym, ap, arith, rules, ◌∙◌, set, length}
use Rattle.std.specs.Prelude.{Some, AllPairs, nat_lt, ◌==◌, ◌&&◌, ◌≢◌, if◌then◌else◌}
use Rattle.std.specs.Option.{option_map}
use Rattle.genie_base.specs.Records.{header_len}
use Rattle.genie_base.specs.declared.config.Kind.{Kind}
use Rattle.genie_base.specs.declared.config.Kind.TheVariants.{Early, Pooled, Outboard}
use Rattle.genie_device.specs.Device.{DeviceView, is_outboard as is_outboard_kind, stages}
use Rattle.genie_model.specs.Pending as pending
use Rattle.genie_model.specs.Sending.{after_sending, after_staging, change_device, must_stage, next_part, send_bytes, stage_bytes, staged_now, unsent, with_sent}
use Rattle.genie_model.specs.State as flat
use Rattle.genie_model.specs.Tables.{entry}
use Rattle.genie_model.specs.declared.phase.Phase.TheVariants.{Ready}
use Rattle.genie_kernel.specs.declared.kernel.Kernel.{Kernel}
use Rattle.genie_kernel.specs.declared.transfer.Transfer.{Transfer}
use Rattle.genie_kernel.specs.Calls.{has_number, first_waiting, receiver}
use Rattle.genie_kernel.specs.Devices.{device_view, devices_view}
use Rattle.genie_kernel.specs.Regions.{owned_regions}
use Rattle.genie_kernel.specs.Transfers.{transfer_view}
use Rattle.genie_kernel.specs.View.{Bytes, state_of}
use Rattle.genie_kernel.specs.Lemmas.DeviceViews.{entry_view}
use Rattle.genie_kernel.specs.Lemmas.Processes.{find_map}
use Rattle.genie_changes.specs.Working.{OrphansWorked, TransfersSent, ReceiverWorked, worked}
use Rattle.genie_sending.specs.Sending.{sent_whole}
use Rattle.genie_sending.proofs.Devices.{with_output, more_at, more_sent, device_same, devices_changed}
use Rattle.genie_sending.proofs.Ended.{whole_view, found_by_number}
use Rattle.genie_sending.proofs.Outputs.{IsFirstOutput, sending_view, first_view, going_on, queued, queued_unmoved}
use Rattle.genie_sending.proofs.Places.{put_same}
use Rattle.genie_model.specs.Lemmas.Lists.{find_has}
use Rattle.genie_kernel.specs.Calls.{waits_for}

pub kinds_same : (kind : Kind) → pending.is_outboard kind ≡ is_outboard_kind kind
kinds_same Early = refl
kinds_same Pooled = refl
kinds_same Outboard = refl

more_here : (sents : ℕ → List ℕ) (d : ℕ) (new : List ℕ) → more_at sents d new d ≡ sents d ++ new
more_here sents d new = let same : (d == d) ≡ true = grind (arith, rules) in ap (λ b. if b then sents d ++ new else sents d) same

more_else : (sents : ℕ → List ℕ) (d : ℕ) (new : List ℕ) (j : ℕ) → j ≢ d → more_at sents d new j ≡ sents j
more_else sents d new j ne = let other : (j == d) ≡ false = grind (arith, rules, ne) in ap (λ b. if b then sents j ++ new else sents j) other

module _ (k : Kernel) (b : Bytes) (d : ℕ) (t : Transfer) (v : DeviceView) (there : entry k.devices d ≡ Some v) (is : IsFirstOutput k.transfers d t) where
  abbrev s : flat.State
  s = state_of k b

  abbrev kept : ℕ → List ℕ
  kept = b.seen.kept_bytes

  abbrev x : flat.Transfer
  x = sending_view kept t v

  abbrev seen_device : flat.Device
  seen_device = device_view kept (b.rests d) (b.sents d) (entry k.pools d) (receiver k.transfers d) v

  pub first_is : pending.first_queued s d ≡ Some x
  first_is =
      let see : Transfer → flat.Transfer = transfer_view kept k.devices k.pools (first_waiting k.transfers) in
      find_map (pending.waits_for d) see k.transfers ∙ ap (option_map see) is.waits ∙ ap Some (first_view k.transfers d t is kept k.devices k.pools v there)

  device_is : entry s.devices d ≡ Some seen_device
  device_is = entry_view kept b.rests b.sents k.pools (receiver k.transfers) k.devices d ∙ ap (option_map (device_view kept (b.rests d) (b.sents d) (entry k.pools d) (receiver k.transfers d))) there

  pub outboard_is : pending.is_outboard_at s d ≡ pending.is_outboard v.config.kind
  outboard_is = ap pending.outboard_device device_is

  pub must_stage_is : must_stage s d x ≡ stages v.config.kind v.staged t.len
  must_stage_is = ap (λ o. o && nat_lt (length v.staged) t.len) (outboard_is ∙ kinds_same v.config.kind)

  -- the devices, of which this one has sent more
  sent_devices : (staged : List ℕ) (sent : ℕ) (new : List ℕ) → devices_view kept 0 b.rests (more_at b.sents d new) k.pools (receiver k.transfers) (set k.devices d (Some (with_output staged sent v))) ≡ set s.devices d (change_device (with_sent new) (entry s.devices d))
  sent_devices staged sent new =
      let w : DeviceView = with_output staged sent v in
      let put : device_view kept (b.rests d) (more_at b.sents d new d) (entry k.pools d) (receiver k.transfers d) w ≡ with_sent new seen_device = ap (λ l. device_view kept (b.rests d) l (entry k.pools d) (receiver k.transfers d) w) (more_here b.sents d new) ∙ device_same kept staged sent v (b.rests d) (b.sents d ++ new) (entry k.pools d) (receiver k.transfers d) in
      devices_changed kept d b.rests b.sents (more_at b.sents d new) k.pools (receiver k.transfers) k.devices w (more_else b.sents d new)
      ∙ ap (λ o. set s.devices d o) (ap Some put ∙ sym (ap (change_device (with_sent new)) device_is))

  -- more of the record is sent, and not yet all
  pub sent_state : AllPairs (λ (x y : Transfer). x.id.0 < y.id.0) k.transfers → (m : ℕ) → (m == unsent x) ≡ false
      → state_of (record k { devices = set k.devices d (Some (with_output v.staged (v.sent + m) v)) }) (more_sent b d (next_part s m x)) ≡ send_bytes s d x m
  sent_state order m some =
      let more : after_sending m x ≡ record x { moved = v.sent + m } = ap (λ c. if c then record x { moved = x.moved + m; phase = Ready; payload = [] } else record x { moved = x.moved + m }) some in
      let transfers = going_on k.transfers d t is kept k.devices k.pools v there v.staged (v.sent + m) (after_sending m) order (sym more) in
      let devices = sent_devices v.staged (v.sent + m) (next_part s m x) in
      λ i. record s { transfers = transfers i; devices = devices i }

  -- all of it is sent
  pub whole_state : OrphansWorked → TransfersSent → ReceiverWorked → AllPairs (λ (x y : Transfer). x.id.0 < y.id.0) k.transfers → (m : ℕ) → (m == unsent x) ≡ true → (if pending.is_outboard v.config.kind then t.len else 0) ≡ length v.staged → header_len t.flow + t.len ≡ v.sent + m
      → state_of (record k { devices = set k.devices d (Some (with_output [] 0 v)); transfers = worked (has_number t.id.0) (sent_whole t) k.transfers }) (more_sent b d (next_part s m x)) ≡ send_bytes s d x m
  whole_state shown law receives order m all staged moved =
      let more : after_sending m x ≡ record x { moved = v.sent + m; phase = Ready; payload = [] } = ap (λ c. if c then record x { moved = x.moved + m; phase = Ready; payload = [] } else record x { moved = x.moved + m }) all in
      let found = found_by_number t k.transfers order (find_has (waits_for d) k.transfers t is.waits).0 in
      let transfers = whole_view k.transfers d t is kept k.devices k.pools v there law order (after_sending m) m staged moved more in
      let orphans = shown k.config.page kept (owned_regions k.spaces.processes) (has_number t.id.0) (sent_whole t) k.transfers in
      let receivers : (j : ℕ) → receiver (worked (has_number t.id.0) (sent_whole t) k.transfers) j ≡ receiver k.transfers j = λ j. receives (has_number t.id.0) (sent_whole t) t k.transfers j found (queued_unmoved t.phase (queued k.transfers d t is)) refl in
      let devices = (λ i. devices_view kept 0 b.rests (more_at b.sents d (next_part s m x)) k.pools (λ j. receivers j i) (set k.devices d (Some (with_output [] 0 v)))) ∙ sent_devices [] 0 (next_part s m x) in
      λ i. record s { orphans = orphans i; transfers = transfers i; devices = devices i }

  -- the devices show nothing of what is staged
  pub same_devices : (staged : List ℕ) → devices_view kept 0 b.rests b.sents k.pools (receiver k.transfers) (set k.devices d (Some (with_output staged v.sent v))) ≡ s.devices
  same_devices staged =
      let w : DeviceView = with_output staged v.sent v in
      let put : device_view kept (b.rests d) (b.sents d) (entry k.pools d) (receiver k.transfers d) w ≡ seen_device = device_same kept staged v.sent v (b.rests d) (b.sents d) (entry k.pools d) (receiver k.transfers d) in
      devices_changed kept d b.rests b.sents b.sents k.pools (receiver k.transfers) k.devices w (λ j ne. refl) ∙ ap (λ o. set s.devices d (Some o)) put ∙ put_same s.devices d seen_device device_is

  -- more of its payload is staged
  pub staged_state : AllPairs (λ (x y : Transfer). x.id.0 < y.id.0) k.transfers → (m : ℕ) (more : List ℕ) → sending_view kept t (with_output (v.staged ++ more) v.sent v) ≡ after_staging m (staged_now s m x) x
      → state_of (record k { devices = set k.devices d (Some (with_output (v.staged ++ more) v.sent v)) }) b ≡ stage_bytes s d x m
  staged_state order m more here =
      let transfers = going_on k.transfers d t is kept k.devices k.pools v there (v.staged ++ more) v.sent (after_staging m (staged_now s m x)) order here in
      let devices = same_devices (v.staged ++ more) in
      λ i. record s { transfers = transfers i; devices = devices i }
