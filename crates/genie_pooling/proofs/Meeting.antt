-- The input that a datagram of a pooled device meets, and none that it moves into.
use Rattle.std.proofs.Common.{◌≡◌, ℕ, true, List, [], refl, sym, ap, subst, arith, rules, ◌∙◌, eqb-true}
use Rattle.std.specs.Prelude.{Option, Some, None, IfSome, find, ◌==◌, ◌&&◌}
use Rattle.std.specs.Option.{option_map}
use Rattle.genie_base.specs.Posted.{first, meets}
use Rattle.genie_base.specs.declared.config.Kind.{Kind}
use Rattle.genie_base.specs.declared.config.Kind.TheVariants.{Early, Pooled, Outboard}
use Rattle.genie_demux.specs.Posted.{address, number_of as posted_number}
use Rattle.genie_demux.specs.declared.input.Input.{Input}
use Rattle.genie_device.specs.Device.{DeviceView}
use Rattle.genie_device.specs.declared.present.Present.{Present}
use Rattle.genie_input.specs.Pools.{PoolState}
use Rattle.genie_orderly.specs.Orderly.{receives_for}
use Rattle.genie_model.specs.Pending.{is_moving, is_posted, is_ready}
use Rattle.genie_model.specs.State as flat
use Rattle.genie_model.specs.Tables.{entry}
use Rattle.genie_model.specs.Lemmas.Lists.{all_has, find_has, has_map}
use Rattle.genie_model.specs.declared.phase.Phase.TheVariants.{Posted}
use Rattle.genie_kernel.specs.declared.kernel.Kernel.{Kernel}
use Rattle.genie_kernel.specs.declared.transfer.Transfer.{Transfer}
use Rattle.genie_kernel.specs.Calls.{first_waiting, has_number, receiver, receives_from}
use Rattle.genie_kernel.specs.Devices.{device_view}
use Rattle.genie_kernel.specs.Good.{IsGood}
use Rattle.genie_kernel.specs.Matching.{posted_as}
use Rattle.genie_kernel.specs.Transfers.{transfer_view}
use Rattle.genie_kernel.specs.View.{no_bytes, outline}
use Rattle.genie_kernel.specs.Lemmas.DeviceViews.{entry_view}
use Rattle.genie_receiving.specs.Laws.{ReceiveLaws}
use Rattle.genie_receiving.specs.Lemmas.Gathered.{found_posted}
use Rattle.genie_receiving.specs.Lemmas.Inputs.{found_numbered, no_buffer, phase_posted, phased, posted_inward, some_found}
use Rattle.genie_receiving.specs.Lemmas.Payloads.{IsInputOf}

-- an input that is met
pub record IsMetAt (k : Kernel) (d n : ℕ) (t : Transfer) : Type 0 where
  pub input : IsInputOf k d n t
  pub posted : t.phase ≡ Posted

pub met_at : ReceiveLaws → (k : Kernel) (d n port : ℕ) (flow : Option ℕ) → IsGood k → posted_number (first address d port flow k.posted) ≡ Some n → (t : Transfer) × IsMetAt k d n t
met_at laws k d n port flow g met =
    let found = some_found (find (λ (t : Transfer). is_posted t.phase && meets d port flow (address (posted_as t))) k.transfers) n (sym (found_posted (λ (i : Input). meets d port flow (address i)) k.transfers) ∙ sym (ap (λ ps. posted_number (first address d port flow ps)) g.posted.listed) ∙ met) in
    let t : Transfer = found.0 in
    let has = find_has (λ (u : Transfer). is_posted u.phase && meets d port flow (address (posted_as u))) k.transfers t found.1 in
    let both : (is_posted t.phase && meets d port flow (address (posted_as t))) ≡ true = has.1 in
    let is : is_posted t.phase ≡ true = grind (arith, rules, both) in
    let posted : t.phase ≡ Posted = phase_posted t.phase is in
    let dev : t.dev ≡ d = eqb-true t.dev d (grind (arith, rules, both)) in (
      t,
      record {
        input = record {
          found = subst (λ m. find (has_number m) k.transfers ≡ Some t) found.2 (found_numbered k.transfers t (laws.rise k g).order has.0);
          dev = dev;
          inward = posted_inward t.dir t.phase posted (phased k t g has.0);
          unbuffered = no_buffer k t g has.0 (ap is_ready posted);
        };
        posted = posted;
      },
    )

-- what it meets, or nothing
pub record Encounter (k : Kernel) (d : ℕ) (o : Option ℕ) : Type 0 where
  pub met : Option (ℕ × Transfer)
  pub is : o ≡ option_map (λ (x : ℕ × Transfer). x.0) met
  pub input : IfSome met (λ (x : ℕ × Transfer). IsMetAt k d x.0 x.1)

pub encounter : ReceiveLaws → (k : Kernel) (d port : ℕ) (flow : Option ℕ) → IsGood k → (o : Option ℕ) → posted_number (first address d port flow k.posted) ≡ o → Encounter k d o
encounter laws k d port flow g None e = record { met = None; is = refl; input = tt }
encounter laws k d port flow g (Some n) e = let t = met_at laws k d n port flow g e in record { met = Some (n, t.0); is = refl; input = t.1 }

gathered_for : (s : ℕ → List ℕ) (rest sent : List ℕ) (p : Option PoolState) (r : Option Transfer) (v : DeviceView) (n : ℕ) → v.config.kind ≡ Pooled → receives_for (Some (device_view s rest sent p r v)) ≡ Some n → ⊥
gathered_for s rest sent p r v n kind e = by v.config.kind v.present kind e
  where
    by : (c : Kind) (o : Option Present) → c ≡ Pooled → receives_for (Some (device_view s rest sent p r (record v { config = record (v.config) { kind = c }; present = o }))) ≡ Some n → ⊥
    by Early o k h = absurd (cc)
    by Outboard o k h = absurd (cc)
    by Pooled None k h = absurd (cc)
    by Pooled (Some g) k h = absurd (cc)

-- no input is moved into by a pooled device
pub none_moved : (k : Kernel) (d : ℕ) (v : DeviceView) → IsGood k → entry k.devices d ≡ Some v → v.config.kind ≡ Pooled → receiver k.transfers d ≡ None
none_moved k d v g there kind = by (receiver k.transfers d) refl
  where
    by : (o : Option Transfer) → receiver k.transfers d ≡ o → o ≡ None
    by None e = refl
    by (Some u) e =
        let has = find_has (receives_from d) k.transfers u e in
        let both : (is_moving u.phase && (u.dev == d)) ≡ true = has.1 in
        let moving : is_moving u.phase ≡ true = grind (arith, rules, both) in
        let at : u.dev ≡ d = eqb-true u.dev d (grind (arith, rules, both)) in
        let tv : Transfer → flat.Transfer = transfer_view (no_bytes k.config.page).seen.kept_bytes k.devices k.pools (first_waiting k.transfers) in
        let receives : receives_for (entry (outline k).devices u.dev) ≡ Some u.id.0 = all_has (λ (t : flat.Transfer). is_moving t.phase ≡ true → receives_for (entry (outline k).devices t.device) ≡ Some t.number) (outline k).transfers g.orderly.moving (tv u) (has_map tv u k.transfers has.0) moving in
        let is : entry (outline k).devices d ≡ Some (device_view (no_bytes k.config.page).seen.kept_bytes [] [] (entry k.pools d) (receiver k.transfers d) v) = entry_view (no_bytes k.config.page).seen.kept_bytes (λ j. []) (λ j. []) k.pools (receiver k.transfers) k.devices d ∙ ap (option_map (device_view (no_bytes k.config.page).seen.kept_bytes [] [] (entry k.pools d) (receiver k.transfers d))) there in
        absurd (gathered_for (no_bytes k.config.page).seen.kept_bytes [] [] (entry k.pools d) (receiver k.transfers d) v u.id.0 kind (sym (ap receives_for (ap (entry (outline k).devices) at ∙ is)) ∙ receives))
