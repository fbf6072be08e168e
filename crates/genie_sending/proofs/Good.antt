-- The kernel is good once a device has gone on with the record of an output.
use Rattle.std.proofs.Common.{◌≡◌, ℕ, ◌≤◌, Bool, true, false, not, List, refl, sym, ap, subst, arith, rules, ◌∙◌, set, get_or}
use Rattle.std.specs.Prelude.{Option, Some, None, IfSome, find, is_some, ◌&&◌, ◌==◌, ◌≢◌, if◌then◌else◌}
use Rattle.std.proofs.Math.Bool.{and-false}
use Rattle.std.proofs.lemmas.List.{length-set}
use Rattle.genie_base.specs.declared.config.DeviceConfig.{DeviceConfig}
use Rattle.genie_device.specs.Device.{DeviceView}
use Rattle.genie_device.specs.declared.present.Present.{Present}
use Rattle.genie_input.specs.Pools.{PoolState}
use Rattle.genie_orderly.specs.Orderly.{IsOrderly}
use Rattle.genie_model.specs.Pending as pending
use Rattle.genie_model.specs.Tables.{entry}
use Rattle.genie_model.specs.declared.phase.Phase.{Phase}
use Rattle.genie_model.specs.Lemmas.Lists.{Has, find_has, all_has}
use Rattle.genie_kernel.specs.declared.kernel.Kernel.{Kernel}
use Rattle.genie_kernel.specs.declared.transfer.Transfer.{Transfer}
use Rattle.genie_kernel.specs.Calls.{first_waiting, has_arrived, has_number, receiver, waits_for}
use Rattle.genie_kernel.specs.Counted.{AreCounted}
use Rattle.genie_kernel.specs.Good.{IsGood}
use Rattle.genie_kernel.specs.Held.{AreHeldPages}
use Rattle.genie_kernel.specs.Matching.{ArePosted, AreReceiving, AreSending, HaveArrived, IsSending, IsSendingFor, IsStored, has_buffer, has_waiting, is_filling_pool, room_in}
use Rattle.genie_kernel.specs.Owners.{AreOwned}
use Rattle.genie_kernel.specs.Planned.{ArePlanned, FitDevices, FitsDevice, Lends, is_early_device}
use Rattle.genie_kernel.specs.Regions.{owned_regions}
use Rattle.genie_kernel.specs.Sizes.{AreSizedDevices, IsEquipped}
use Rattle.genie_kernel.specs.View.{outline}
use Rattle.genie_changes.specs.Working.{GetsBuffer, worked}
use Rattle.genie_sending.specs.Sending.{sent_whole}
use Rattle.genie_sending.specs.WorkLaws.{WorkLaws}
use Rattle.genie_sending.proofs.Devices.{with_output}
use Rattle.genie_sending.proofs.Ended.{found_by_number}
use Rattle.genie_sending.proofs.Outputs.{IsFirstOutput, its_device, queued, queued_unmoved}
use Rattle.genie_sending.proofs.Places.{carried_at, elsewhere, same_at, so_at, within}

queued_unposted : (p : Phase) → pending.is_queued p ≡ true → pending.is_posted p ≡ false
queued_unposted p e = grind (arith, rules, e)

no_buffer : (o : Option ℕ) → is_some o ≡ false → o ≡ None
no_buffer None e = refl
no_buffer (Some b) e = absurd (cc)

module _ (k : Kernel) (g : IsGood k) (d : ℕ) (t : Transfer) (is : IsFirstOutput k.transfers d t) (v : DeviceView) (there : entry k.devices d ≡ Some v) (staged : List ℕ) (sent : ℕ) where
  abbrev vs : List (Option DeviceView)
  vs = k.devices

  abbrev w : DeviceView
  w = with_output staged sent v

  abbrev us : List (Option DeviceView)
  us = set vs d (Some w)

  still_of : (page : ℕ) (c : Option DeviceConfig) (p : Option PoolState) → IsEquipped page c (Some v) p → IsEquipped page c (Some w) p
  still_of page None p h = h
  still_of page (Some c) p h = (record { config = h.0.config; limit = h.0.limit }, h.1)

  equipped : AreSizedDevices k.config us k.pools
  equipped = record {
    device_places = length-set vs d (Some w) ∙ g.equipped.device_places;
    pool_places = g.equipped.pool_places;
    each = so_at (λ j o. IsEquipped k.config.page (entry k.config.devices j) o (entry k.pools j)) vs d v w there (still_of k.config.page (entry k.config.devices d) (entry k.pools d)) g.equipped.each;
  }

  early_same : (j : ℕ) → is_early_device (entry us j) ≡ is_early_device (entry vs j)
  early_same j = same_at is_early_device vs d j v w there refl

  waiting_one : (p : Option PoolState) (b : ℕ) → has_waiting (Some w) p b ≡ has_waiting (Some v) p b
  waiting_one None b = refl
  waiting_one (Some p) b = refl

  waiting_same : (j b : ℕ) → has_waiting (entry us j) (entry k.pools j) b ≡ has_waiting (entry vs j) (entry k.pools j) b
  waiting_same j b = same_at (λ o. has_waiting o (entry k.pools j) b) vs d j v w there (waiting_one (entry k.pools j) b)

  room_one : (p : Option PoolState) (b : ℕ) → room_in (Some w) p b ≡ room_in (Some v) p b
  room_one None b = refl
  room_one (Some p) b = refl

  room_same : (j b : ℕ) → room_in (entry us j) (entry k.pools j) b ≡ room_in (entry vs j) (entry k.pools j) b
  room_same j b = same_at (λ o. room_in o (entry k.pools j) b) vs d j v w there (room_one (entry k.pools j) b)

  filling_same : (j : ℕ) → is_filling_pool (entry us j) (entry k.pools j) ≡ is_filling_pool (entry vs j) (entry k.pools j)
  filling_same j = same_at (λ o. is_filling_pool o (entry k.pools j)) vs d j v w there refl

  room_still : (u : Transfer) (o : Option ℕ) → IfSome o (λ b. u.stored ≤ room_in (entry vs u.dev) (entry k.pools u.dev) b) → IfSome o (λ b. u.stored ≤ room_in (entry us u.dev) (entry k.pools u.dev) b)
  room_still u None h = h
  room_still u (Some b) h = subst (λ n. u.stored ≤ n) (sym (room_same u.dev b)) h

  -- the transfers as they were, where a device is at another point
  planned_over : (ts : List Transfer) → ArePlanned k.config.page k.memory.frames.owners vs ts → ArePlanned k.config.page k.memory.frames.owners us ts
  planned_over ts h i e l = let u : Transfer = get_or ts i e in subst (λ b. Lends k.config.page k.memory.frames.owners b u u.dir) (sym (early_same u.dev)) (h i e l)

  fitting_over : (ts : List Transfer) → FitDevices vs ts → FitDevices us ts
  fitting_over ts h i e l = let u : Transfer = get_or ts i e in carried_at (FitsDevice u.len) vs d u.dev v w there (λ f. f) (h i e l)

  pub record Rest (ts : List Transfer) : Type 0 where
    pub counted : AreCounted k.memory.frames.counts ts k.pools
    pub owners : AreOwned k.memory.frames.owners ts k.pools
    pub held : AreHeldPages k.config.page k.memory (owned_regions k.spaces.processes) ts
    pub planned : ArePlanned k.config.page k.memory.frames.owners vs ts
    pub fitting : FitDevices vs ts
    pub posted : ArePosted k.posted ts
    pub sending : AreSending us ts
    pub receiving : AreReceiving us ts
    pub arrived : HaveArrived us k.pools ts

  pub good_with : (ts : List Transfer) → Rest ts → IsOrderly (outline (record k { devices = us; transfers = ts })) → IsGood (record k { devices = us; transfers = ts })
  good_with ts r orderly = record {
    fits = g.fits;
    sized = g.sized;
    spaced = g.spaced;
    equipped = equipped;
    orderly = orderly;
    sound = g.sound;
    cached = g.cached;
    few = g.few;
    backed = g.backed;
    guarded = g.guarded;
    counted = r.counted;
    owners = r.owners;
    held = r.held;
    planned = planned_over ts r.planned;
    fitting = fitting_over ts r.fitting;
    posted = r.posted;
    sending = r.sending;
    receiving = r.receiving;
    arrived = r.arrived;
  }

  -- the device goes on
  pub going_rest : IsSendingFor w t → Rest k.transfers
  going_rest goes = record {
    counted = g.counted;
    owners = g.owners;
    held = g.held;
    planned = g.planned;
    fitting = g.fitting;
    posted = g.posted;
    sending = so_at (λ j o. IfSome o (λ (z : DeviceView). IsSending z (first_waiting k.transfers j))) vs d v w there (λ h. subst (IsSending w) (sym is.waits) goes) g.sending;
    receiving = so_at (λ j o. IfSome o (λ (z : DeviceView). IfSome z.present (λ (p : Present). IfSome (receiver k.transfers j) (IsStored p)))) vs d v w there (λ h. h) g.receiving;
    arrived = record {
      buffers = λ j b. g.arrived.buffers j b ∙ ap (λ c. if c then 1 else 0) (sym (waiting_same j b));
      inputs = λ i e l. g.arrived.inputs i e l ∙ ap (λ c. has_arrived (get_or k.transfers i e).dev (get_or k.transfers i e) && not c) (sym (early_same (get_or k.transfers i e).dev));
      stored = λ i e l. room_still (get_or k.transfers i e) (get_or k.transfers i e).buffer (g.arrived.stored i e l);
      filling = λ j. g.arrived.filling j ∙ sym (filling_same j);
    };
  }

  -- the record is ended
  module _ (laws : WorkLaws) (idle : (o : Option Transfer) → IsSending w o) where
    abbrev later : List Transfer
    later = worked (has_number t.id.0) (sent_whole t) k.transfers

    there_is : Has t k.transfers
    there_is = (find_has (waits_for d) k.transfers t is.waits).0

    found : find (has_number t.id.0) k.transfers ≡ Some t
    found = found_by_number t k.transfers (laws.rise k g).order there_is

    at : entry us t.dev ≡ Some w
    at = ap (entry us) (its_device k.transfers d t is) ∙ within vs d v (Some w) there

    others : (j : ℕ) → j ≢ t.dev → entry us j ≡ entry vs j
    others j ne = elsewhere vs d j (Some w) (λ e. ne (e ∙ sym (its_device k.transfers d t is)))

    outward : pending.is_inward t.dir ≡ false
    outward = ap pending.is_inward is.outward

    unarrived : (j : ℕ) (r q : Bool) → (pending.is_inward t.dir && r && q) ≡ false
    unarrived j r q = ap (λ b. b && r && q) outward

    empty : t.buffer ≡ None
    empty = no_buffer t.buffer (all_has (λ (u : Transfer). is_some u.buffer ≡ (has_arrived u.dev u && not (is_early_device (entry vs u.dev)))) k.transfers g.arrived.inputs t there_is ∙ ap (λ b. b && not (is_early_device (entry vs t.dev))) (unarrived t.dev (pending.is_ready t.phase) (t.dev == t.dev)))

    none_of : (j b : ℕ) → has_buffer j b t ≡ false
    none_of j b = ap (λ o. (t.dev == j) && pending.is_just o b) empty ∙ and-false (t.dev == j)

    gets : GetsBuffer (sent_whole t) t vs us k.pools k.pools
    gets = record {
      had = empty;
      arrives = ap is_some empty ∙ sym (ap (λ b. b && not (is_early_device (entry us t.dev))) (unarrived t.dev true (t.dev == t.dev)));
      stored = subst (λ o. IfSome o (λ b. t.stored ≤ room_in (entry us t.dev) (entry k.pools t.dev) b)) (sym empty) tt;
      others = λ j b e. waiting_same j b;
      was = λ j b e. let never : true ≡ false = sym e ∙ none_of j b in absurd (cc);
      waits = λ j b e. let never : true ≡ false = sym e ∙ none_of j b in absurd (cc);
      room = λ j b e. room_same j b;
      early = early_same;
      filling = λ j. g.arrived.filling j ∙ sym (filling_same j);
    }

    receivers : receiver later t.dev ≡ receiver k.transfers t.dev
    receivers = laws.receiver (has_number t.id.0) (sent_whole t) t k.transfers t.dev found (queued_unmoved t.phase (queued k.transfers d t is)) refl

    receives : IfSome (entry us t.dev) (λ (z : DeviceView). IfSome z.present (λ (p : Present). IfSome (receiver later t.dev) (IsStored p)))
    receives = subst (λ (r : Option Transfer). IfSome (entry us t.dev) (λ (z : DeviceView). IfSome z.present (λ (p : Present). IfSome r (IsStored p)))) (sym receivers)
        (carried_at (λ o. IfSome o (λ (z : DeviceView). IfSome z.present (λ (p : Present). IfSome (receiver k.transfers t.dev) (IsStored p)))) vs d t.dev v w there (λ h. h) (g.receiving t.dev))

    sends : IfSome (entry us t.dev) (λ (z : DeviceView). IsSending z (first_waiting later t.dev))
    sends = subst (λ o. IfSome o (λ (z : DeviceView). IsSending z (first_waiting later t.dev))) (sym at) (idle (first_waiting later t.dev))

    pub ended_rest : Rest later
    ended_rest = record {
      counted = laws.counted (has_number t.id.0) (sent_whole t) k.transfers k.memory.frames.counts k.pools g.counted;
      owners = laws.owned (has_number t.id.0) (sent_whole t) k.transfers k.memory.frames.owners k.pools g.owners;
      held = laws.held (has_number t.id.0) (sent_whole t) k.transfers k.config.page k.memory (owned_regions k.spaces.processes) g.held;
      planned = laws.planned (has_number t.id.0) (sent_whole t) k.transfers k.config.page k.memory.frames.owners vs g.planned;
      fitting = laws.fitting (has_number t.id.0) (sent_whole t) k.transfers vs g.fitting;
      posted = laws.posted (has_number t.id.0) (sent_whole t) t k.transfers k.posted found (queued_unposted t.phase (queued k.transfers d t is)) refl g.posted;
      sending = laws.sending (has_number t.id.0) (sent_whole t) t k.transfers vs us found others sends g.sending;
      receiving = laws.receiving (has_number t.id.0) (sent_whole t) t k.transfers vs us found others receives g.receiving;
      arrived = laws.arrived (has_number t.id.0) (sent_whole t) t k.transfers vs us k.pools k.pools found gets g.arrived;
    }
