-- The input into which a device moves a datagram, and the one that a record meets.
use Rattle.std.proofs.Common.{◌≡◌, ℕ, ◌<◌, Bool, true, false, not, cond, List, [], ◌∷◌, refl, sym, ap, subst, arith, rules, ◌∙◌, inl, inr, eqb-true, eq-eqb}
use Rattle.std.specs.Prelude.{Option, Some, None, IfSome, IsTrue, AllPairs, find, min, is_some, ◌==◌, ◌&&◌}
use Rattle.std.specs.Option.{option_map}
use Rattle.std.proofs.lemmas.Bool.{ne_eqb}
use Rattle.genie_base.specs.Posted.{meets, first}
use Rattle.genie_base.specs.declared.semantics.Direction.{Direction}
use Rattle.genie_base.specs.declared.semantics.Direction.TheVariants.{Outward, Inward}
use Rattle.genie_demux.specs.declared.input.Input.{Input}
use Rattle.genie_demux.specs.Posted.{address, number_of as posted_number}
use Rattle.genie_device.specs.Device.{DeviceView}
use Rattle.genie_device.specs.declared.present.Present.{Present}
use Rattle.genie_orderly.specs.Orderly.{IsTransfer, has_phase}
use Rattle.genie_model.specs.Pending.{is_early, is_inward, is_moving, is_posted, is_ready}
use Rattle.genie_model.specs.State as flat
use Rattle.genie_model.specs.Tables.{entry}
use Rattle.genie_model.specs.Lemmas.Lists.{Has, find_has, all_has, has_map, pairs_head, pairs_tail}
use Rattle.genie_model.specs.declared.phase.Phase.{Phase}
use Rattle.genie_model.specs.declared.phase.Phase.TheVariants.{Queued, Posted, Moving, Ready}
use Rattle.genie_kernel.specs.declared.kernel.Kernel.{Kernel}
use Rattle.genie_kernel.specs.declared.transfer.Transfer.{Transfer}
use Rattle.genie_kernel.specs.Calls.{has_number, number_of, first_waiting, receiver, receives_from, has_arrived}
use Rattle.genie_kernel.specs.Good.{IsGood}
use Rattle.genie_kernel.specs.Matching.{IsStored, posted_as, is_posted_call}
use Rattle.genie_kernel.specs.Planned.{is_early_device}
use Rattle.genie_kernel.specs.Transfers.{transfer_view}
use Rattle.genie_kernel.specs.View.{outline, no_bytes}
use Rattle.genie_receiving.specs.Laws.{ReceiveLaws}
use Rattle.genie_receiving.specs.Lemmas.Gathered.{found_posted}
use Rattle.genie_receiving.specs.Lemmas.Payloads.{IsInputOf}
use Rattle.genie_receiving.specs.Lemmas.Ready.{IsEarlyInput}

phase_moving : (p : Phase) → is_moving p ≡ true → p ≡ Moving
phase_moving Queued e = absurd (cc)
phase_moving Posted e = absurd (cc)
phase_moving Moving e = refl
phase_moving Ready e = absurd (cc)

pub phase_posted : (p : Phase) → is_posted p ≡ true → p ≡ Posted
phase_posted Queued e = absurd (cc)
phase_posted Posted e = refl
phase_posted Moving e = absurd (cc)
phase_posted Ready e = absurd (cc)

-- only an input is posted or receives
moving_inward : (d : Direction) (p : Phase) → p ≡ Moving → IsTrue (has_phase d p) → d ≡ Inward
moving_inward Outward p e h = let clash : false ≡ true = subst (λ q. IsTrue (has_phase Outward q)) e h in absurd (cc)
moving_inward Inward p e h = refl

pub posted_inward : (d : Direction) (p : Phase) → p ≡ Posted → IsTrue (has_phase d p) → d ≡ Inward
posted_inward Outward p e h = let clash : false ≡ true = subst (λ q. IsTrue (has_phase Outward q)) e h in absurd (cc)
posted_inward Inward p e h = refl

pub phased : (k : Kernel) (t : Transfer) → IsGood k → Has t k.transfers → IsTrue (has_phase t.dir t.phase)
phased k t g i =
    let tv : Transfer → flat.Transfer = transfer_view (no_bytes k.config.page).seen.kept_bytes k.devices k.pools (first_waiting k.transfers) in
    let h : IsTransfer (tv t) = all_has IsTransfer (outline k).transfers g.orderly.calls (tv t) (has_map tv t k.transfers i) in h.phase

no_some : (o : Option ℕ) → is_some o ≡ false → o ≡ None
no_some None e = refl
no_some (Some x) e = absurd (cc)

unready : (d : ℕ) (t : Transfer) → is_ready t.phase ≡ false → has_arrived d t ≡ false
unready d t e = ap (λ b. is_inward t.dir && b && (t.dev == d)) e ∙ by (is_inward t.dir)
  where
    by : (a : Bool) → (a && false && (t.dev == d)) ≡ false
    by true = refl
    by false = refl

-- one that isn't ready has no buffer
pub no_buffer : (k : Kernel) (t : Transfer) → IsGood k → Has t k.transfers → is_ready t.phase ≡ false → t.buffer ≡ None
no_buffer k t g i e =
    let h : is_some t.buffer ≡ (has_arrived t.dev t && not (is_early_device (entry k.devices t.dev))) = all_has (λ (u : Transfer). is_some u.buffer ≡ (has_arrived u.dev u && not (is_early_device (entry k.devices u.dev)))) k.transfers g.arrived.inputs t i in
    no_some t.buffer (h ∙ ap (λ b. b && not (is_early_device (entry k.devices t.dev))) (unready t.dev t e))

-- a transfer is found by its number
pub found_numbered : (ts : List Transfer) (t : Transfer) → AllPairs (λ (x y : Transfer). x.id.0 < y.id.0) ts → Has t ts → find (has_number (number_of t)) ts ≡ Some t
found_numbered [] t pairs i = absurd i
found_numbered (x ∷ ts) t pairs (inl e) = ap (λ b. cond b (Some x) (find (has_number (number_of t)) ts)) (eq-eqb x.id.0 t.id.0 (ap number_of e)) ∙ ap Some e
found_numbered (x ∷ ts) t pairs (inr i) =
    let less : x.id.0 < t.id.0 = pairs_head (λ (y z : Transfer). y.id.0 < z.id.0) x ts pairs t i in
    ap (λ b. cond b (Some x) (find (has_number (number_of t)) ts)) (ne_eqb x.id.0 t.id.0 (λ e. absurd (omega (arith, less, e)))) ∙ found_numbered ts t (pairs_tail (λ (y z : Transfer). y.id.0 < z.id.0) x ts pairs) i

-- the receiver of a device
pub record IsReceiver (k : Kernel) (d : ℕ) (v : DeviceView) (t : Transfer) : Type 0 where
  pub input : IsInputOf k d (number_of t) t
  pub early : IsEarlyInput k d v t
  pub moving : t.phase ≡ Moving

pub is_receiver : ReceiveLaws → (k : Kernel) (d : ℕ) (v : DeviceView) (t : Transfer) → IsGood k → entry k.devices d ≡ Some v → is_early v.config.kind ≡ true → receiver k.transfers d ≡ Some t → IsReceiver k d v t
is_receiver laws k d v t g there early is =
    let has = find_has (receives_from d) k.transfers t is in
    let both : (is_moving t.phase && (t.dev == d)) ≡ true = has.1 in
    let moving : t.phase ≡ Moving = phase_moving t.phase (grind (arith, rules, both)) in
    let dev : t.dev ≡ d = eqb-true t.dev d (grind (arith, rules, both)) in
    let inward : t.dir ≡ Inward = moving_inward t.dir t.phase moving (phased k t g has.0) in
    record {
      input = record { found = found_numbered k.transfers t (laws.rise k g).order has.0; dev = dev; inward = inward; unbuffered = no_buffer k t g has.0 (ap is_ready moving) };
      early = record { there = there; early = early; pends = has.0; dev = dev; inward = inward };
      moving = moving;
    }

-- what has come of its datagram is stored
pub is_stored : (k : Kernel) (d : ℕ) (v : DeviceView) (g : Present) (t : Transfer) → IsGood k → entry k.devices d ≡ Some v → v.present ≡ Some g → receiver k.transfers d ≡ Some t → t.stored ≡ min g.moved t.len
is_stored k d v g t good there present is =
    let a : IfSome v.present (λ (p : Present). IfSome (receiver k.transfers d) (IsStored p)) = subst (λ o. IfSome o (λ (x : DeviceView). IfSome x.present (λ (p : Present). IfSome (receiver k.transfers d) (IsStored p)))) there (good.receiving d) in
    let b : IfSome (receiver k.transfers d) (IsStored g) = subst (λ o. IfSome o (λ (p : Present). IfSome (receiver k.transfers d) (IsStored p))) present a in
    subst (λ o. IfSome o (IsStored g)) is b

-- the input that a record meets
pub record IsMet (k : Kernel) (d n : ℕ) (v : DeviceView) : Type 0 where
  pub transfer : Transfer
  pub input : IsInputOf k d n transfer
  pub early : IsEarlyInput k d v transfer
  pub posted : transfer.phase ≡ Posted
  pub unstored : transfer.stored ≡ 0

pub some_found : (o : Option Transfer) (n : ℕ) → option_map number_of o ≡ Some n → (t : Transfer) × (o ≡ Some t) × (number_of t ≡ n)
some_found None n e = absurd (cc)
some_found (Some t) n e = (t, refl, cc)

pub is_met : ReceiveLaws → (k : Kernel) (d n port : ℕ) (flow : Option ℕ) (v : DeviceView) → IsGood k → entry k.devices d ≡ Some v → is_early v.config.kind ≡ true → posted_number (first address d port flow k.posted) ≡ Some n → IsMet k d n v
is_met laws k d n port flow v g there early met =
    let q : Input → Bool = λ i. meets d port flow (address i) in
    let found = some_found (find (λ (t : Transfer). is_posted t.phase && meets d port flow (address (posted_as t))) k.transfers) n (sym (found_posted (λ (i : Input). meets d port flow (address i)) k.transfers) ∙ sym (ap (λ ps. posted_number (first address d port flow ps)) g.posted.listed) ∙ met) in
    let t : Transfer = found.0 in
    let has = find_has (λ (u : Transfer). is_posted u.phase && meets d port flow (address (posted_as u))) k.transfers t found.1 in
    let both : (is_posted t.phase && meets d port flow (address (posted_as t))) ≡ true = has.1 in
    let is : is_posted t.phase ≡ true = grind (arith, rules, both) in
    let posted : t.phase ≡ Posted = phase_posted t.phase is in
    let dev : t.dev ≡ d = eqb-true t.dev d (grind (arith, rules, both)) in
    let inward : t.dir ≡ Inward = posted_inward t.dir t.phase posted (phased k t g has.0) in
    record {
      transfer = t;
      input = record {
        found = subst (λ m. find (has_number m) k.transfers ≡ Some t) found.2 (found_numbered k.transfers t (laws.rise k g).order has.0);
        dev = dev;
        inward = inward;
        unbuffered = no_buffer k t g has.0 (ap is_ready posted);
      };
      early = record { there = there; early = early; pends = has.0; dev = dev; inward = inward };
      posted = posted;
      unstored = all_has (λ (u : Transfer). is_posted_call u ≡ true → u.stored ≡ 0) k.transfers g.posted.unstored t has.0 is;
    }
