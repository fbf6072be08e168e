-- What is so of devices of a kind, and of the transfers on them.
use Rattle.std.proofs.Common.{◌≡◌, ℕ, ◌<◌, zero, suc, true, false, not, List, [], ◌∷◌, refl, sym, ap, subst, ◌∙◌, arith, length}
use Rattle.std.specs.Prelude.{◌&&◌, Option, Some, None, IfSome, IsSome, find, is_some}
use Rattle.std.specs.Option.{option_map}
use Rattle.std.proofs.lemmas.Bool.{not-false}
use Rattle.genie_base.specs.Configs.{config_of, device_config}
use Rattle.genie_base.specs.Transfers.{class_of}
use Rattle.genie_base.specs.declared.config.DeviceConfig.{DeviceConfig}
use Rattle.genie_base.specs.declared.config.Kind.{Kind}
use Rattle.genie_base.specs.declared.config.Kind.TheVariants.{Early, Outboard, Pooled}
use Rattle.genie_base.specs.declared.event.Event.TheVariants.{Finish, Recv}
use Rattle.genie_base.specs.declared.refusal.Refusal.TheVariants as cause
use Rattle.genie_base.specs.declared.semantics.Class.{Class}
use Rattle.genie_base.specs.declared.semantics.Direction.{Direction}
use Rattle.genie_base.specs.declared.semantics.Direction.TheVariants.{Inward}
use Rattle.genie_device.specs.Device.{DeviceView}
use Rattle.genie_input.specs.Pools.{PoolState}
use Rattle.genie_model.specs.Lemmas.Causes.{first_none}
use Rattle.genie_model.specs.Lemmas.Lists.{all_has, find_has}
use Rattle.genie_model.specs.Pending.{is_early, is_inward, is_numbered, is_outboard, pending}
use Rattle.genie_model.specs.Refusing.{has_input, is_finished, is_within, refuse}
use Rattle.genie_model.specs.State as flat
use Rattle.genie_model.specs.Tables.{entry}
use Rattle.genie_kernel.specs.declared.kernel.Kernel.{Kernel}
use Rattle.genie_kernel.specs.declared.transfer.Transfer.{Transfer}
use Rattle.genie_kernel.specs.Calls.{first_waiting, has_number}
use Rattle.genie_kernel.specs.Good.{IsGood}
use Rattle.genie_kernel.specs.Planned.{FitsDevice, is_early_device}
use Rattle.genie_kernel.specs.Sizes.{IsEquipped, is_pooled}
use Rattle.genie_kernel.specs.Transfers.{is_outboard_device, transfer_view}
use Rattle.genie_kernel.specs.View.{Bytes, no_bytes, outline}
use Rattle.genie_kernel.specs.Lemmas.Processes.{find_map}
use Rattle.genie_arrivals.specs.Cases.{IsOnEarly}
use Rattle.genie_arrivals.specs.Outboard.{IsLateOutboard}
use Rattle.genie_arrivals.specs.Pooled.{IsPooledInput, IsPooledOf}
use Rattle.genie_arrivals.specs.Pooled as arrivals
use Rattle.genie_pooling.specs.Pooled.{is_pooled_device, is_pooled_kind}
use Rattle.genie_calls.specs.Kinds.{EndsOn, HasKind, IsInputOn, IsOfKind}
use Rattle.genie_calls.proofs.Handles.{configured}
use Rattle.genie_base.specs.declared.config.Config.{Config}
use Rattle.genie_base.specs.declared.reply.Reply.{Reply}
use Rattle.genie_base.specs.declared.semantics.Class.TheVariants.{Move}
use Rattle.genie_base.specs.declared.semantics.Semantics.{Semantics}
use Rattle.genie_base.specs.declared.semantics.Semantics.TheVariants as semantics
use Rattle.genie_copying.specs.Bounds.{KeepsToBound, is_pooled_at}
use Rattle.genie_copying.specs.Bounds as copying
use Rattle.genie_arrivals.specs.LateCosts.{is_exchanged, is_exchanged_by}

-- a device of the table has one of its places
pub place_below : {X : Type 0} (xs : List (Option X)) (d : ℕ) → is_some (entry xs d) ≡ true → d < length xs
place_below [] d e = absurd (cc)
place_below (x ∷ xs) zero e = omega arith
place_below (x ∷ xs) (suc d) e = let l = place_below xs d e in omega (arith, l)

input_some : (o : Option DeviceConfig) → has_input (option_map device_config o) ≡ true → is_some o ≡ true
input_some None e = absurd (cc)
input_some (Some c) e = refl

-- a device that may receive is there
pub receives_there : (k : Kernel) (d n : ℕ) → refuse (outline k) (Recv d n) ≡ None → is_some (entry k.config.devices d) ≡ true
receives_there k d n accepted =
    let c = entry (config_of k.config).devices d in
    let a = first_none (not (has_input c), cause.Dev) ((not (is_within 1 65536 n), cause.Range) ∷ []) accepted in
    input_some (entry k.config.devices d) (ap has_input (sym (configured k.config.devices d)) ∙ not-false (has_input c) a.0)

-- the device is of the kind that the configuration says
same_kind : (page : ℕ) (kind : Kind) (c : Option DeviceConfig) (v : Option DeviceView) (p : Option PoolState) → IsEquipped page c v p → HasKind kind c → IsOfKind kind v
same_kind page kind None v p h is = absurd is
same_kind page kind (Some c) None p h is = absurd h
same_kind page kind (Some c) (Some v) p h is = ap (λ (x : DeviceConfig). x.kind) h.0.config ∙ is

pub kind_same : (k : Kernel) (d : ℕ) (kind : Kind) → IsGood k → HasKind kind (entry k.config.devices d) → IsOfKind kind (entry k.devices d)
kind_same k d kind g is = same_kind k.config.page kind (entry k.config.devices d) (entry k.devices d) (entry k.pools d) (g.equipped.each d) is

pub kind_early : (v : Option DeviceView) → IsOfKind Early v → is_early_device v ≡ true
kind_early None h = absurd h
kind_early (Some v) h = ap is_early h

pub kind_outboard : (v : Option DeviceView) → IsOfKind Outboard v → is_outboard_device v ≡ true
kind_outboard None h = absurd h
kind_outboard (Some v) h = ap is_outboard h

pub kind_pooled : (v : Option DeviceView) → IsOfKind Pooled v → is_pooled_device v ≡ true
kind_pooled None h = absurd h
kind_pooled (Some v) h = ap is_pooled_kind h

pooled_for_inputs : (v : Option DeviceView) → IsOfKind Pooled v → arrivals.is_pooled_device v
pooled_for_inputs None h = absurd h
pooled_for_inputs (Some v) h = ap is_pooled h

-- a device that is there is in the configuration
there_too : (page len : ℕ) (c : Option DeviceConfig) (v : Option DeviceView) (p : Option PoolState) → IsEquipped page c v p → FitsDevice len v → is_some c ≡ true
there_too page len c None p h fits = absurd fits
there_too page len None (Some v) p h fits = absurd h
there_too page len (Some c) (Some v) p h fits = refl

-- so the device of a pending transfer is, at one of the eight places
pub pending_there : (k : Kernel) (n : ℕ) (t : Transfer) → IsGood k → find (has_number n) k.transfers ≡ Some t → is_some (entry k.config.devices t.dev) ≡ true
pending_there k n t g found =
    let fits = all_has (λ (x : Transfer). FitsDevice x.len (entry k.devices x.dev)) k.transfers g.fitting t (find_has (has_number n) k.transfers t found).0 in
    there_too k.config.page t.len (entry k.config.devices t.dev) (entry k.devices t.dev) (entry k.pools t.dev) (g.equipped.each t.dev) fits

equipped_too : (page : ℕ) (c : Option DeviceConfig) (v : Option DeviceView) (p : Option PoolState) → IsEquipped page c v p → is_some c ≡ true → is_some v ≡ true
equipped_too page None v p h e = absurd (cc)
equipped_too page (Some c) None p h e = absurd h
equipped_too page (Some c) (Some v) p h e = refl

pub device_below : (k : Kernel) (d : ℕ) → IsGood k → is_some (entry k.config.devices d) ≡ true → d < 8
device_below k d g there = subst (λ x. d < x) g.equipped.device_places (place_below k.devices d (equipped_too k.config.page (entry k.config.devices d) (entry k.devices d) (entry k.pools d) (g.equipped.each d) there))

pub kind_pending : (k : Kernel) (n : ℕ) (t : Transfer) (kind : Kind) → IsGood k → find (has_number n) k.transfers ≡ Some t → HasKind kind (entry k.config.devices t.dev) → IfSome (find (has_number n) k.transfers) (λ (x : Transfer). IsOfKind kind (entry k.devices x.dev))
kind_pending k n t kind g found is = subst (λ o. IfSome o (λ (x : Transfer). IsOfKind kind (entry k.devices x.dev))) (sym found) (kind_same k t.dev kind g is)

finished_some : (v : Transfer → flat.Transfer) → (o : Option Transfer) → is_finished (option_map v o) ≡ true → is_some o ≡ true
finished_some v None e = absurd (cc)
finished_some v (Some t) e = refl

-- a transfer that may end is pending
pub finish_pending : (k : Kernel) (n : ℕ) → refuse (outline k) (Finish n) ≡ None → IsSome (find (has_number n) k.transfers)
finish_pending k n h =
    let b : Bytes = no_bytes k.config.page in
    let seen : Transfer → flat.Transfer = transfer_view b.seen.kept_bytes k.devices k.pools (first_waiting k.transfers) in
    let one = first_none (not (is_finished (pending (outline k) n)), cause.State) [] h in
    let finished = not-false (is_finished (pending (outline k) n)) one.0 in
    let same : pending (outline k) n ≡ option_map seen (find (has_number n) k.transfers) = find_map (is_numbered n) seen k.transfers in
    finished_some seen (find (has_number n) k.transfers) (sym (ap is_finished same) ∙ finished)

both : {P Q R : Transfer → Type 0} → ((t : Transfer) → P t → Q t → R t) → (o : Option Transfer) → IfSome o P → IfSome o Q → IfSome o R
both f None h l = tt
both f (Some t) h l = f t h l

-- an input on a device of a kind, of a class
pub ends_on : (k : Kernel) (n : ℕ) (kind : Kind) → IfSome (find (has_number n) k.transfers) (λ (t : Transfer). t.dir ≡ Inward) → IfSome (find (has_number n) k.transfers) (λ (t : Transfer). IsOfKind kind (entry k.devices t.dev)) → EndsOn kind k n
ends_on k n kind dir device = both (λ t d v. record { inward = d; device = v }) (find (has_number n) k.transfers) dir device

pub ends_early : (k : Kernel) (n : ℕ) → IfSome (find (has_number n) k.transfers) (λ (t : Transfer). t.dir ≡ Inward) → IfSome (find (has_number n) k.transfers) (λ (t : Transfer). IsOfKind Early (entry k.devices t.dev)) → IsOnEarly k n
ends_early k n dir device = both (λ t d v. record { inward = d; early = kind_early (entry k.devices t.dev) v }) (find (has_number n) k.transfers) dir device

pub ends_pooled : (k : Kernel) (n : ℕ) (class : Class) → EndsOn Pooled k n → IfSome (find (has_number n) k.transfers) (λ (t : Transfer). class_of t.sem ≡ class) → IsPooledInput class k n
ends_pooled k n class on is = both (λ (t : Transfer) (o : IsInputOn Pooled k.devices t) e. record { inward = o.inward; class_is = e; pooled = pooled_for_inputs (entry k.devices t.dev) o.device }) (find (has_number n) k.transfers) on is

pub ends_outboard : (k : Kernel) (n : ℕ) (class : Class) → EndsOn Outboard k n → IfSome (find (has_number n) k.transfers) (λ (t : Transfer). class_of t.sem ≡ class) → IsLateOutboard class k n
ends_outboard k n class on is = both (λ (t : Transfer) (o : IsInputOn Outboard k.devices t) e. record { inward = o.inward; class_is = e; outboard = kind_outboard (entry k.devices t.dev) o.device }) (find (has_number n) k.transfers) on is

-- a move on a pooled device is one whose pages the table has exchanged
pooled_alike : (kind : Kind) → kind ≡ Pooled → copying.is_pooled kind ≡ true
pooled_alike kind e = ap copying.is_pooled e

pooled_with : (page : ℕ) (c : Option DeviceConfig) (v : Option DeviceView) (p : Option PoolState) → IsEquipped page c v p → IsOfKind Pooled v → (elim c [ None ↦ false | Some device ↦ copying.is_pooled device.kind ]) ≡ true
pooled_with page c None p x e = absurd e
pooled_with page None (Some v) p x e = absurd x
pooled_with page (Some c) (Some v) p x e = pooled_alike c.kind (ap (λ (z : DeviceConfig). z.kind) (sym x.0.config) ∙ e)

move_by : (c : Config) (sem : Semantics) (d addr : ℕ) → class_of sem ≡ Move → is_pooled_at c d ≡ true → is_exchanged_by c sem d addr ≡ true
move_by c semantics.Copy d addr is e = cc
move_by c semantics.EmulatedCopy d addr is e = cc
move_by c semantics.Share d addr is e = cc
move_by c semantics.EmulatedShare d addr is e = cc
move_by c semantics.Move d addr is e = e
move_by c semantics.EmulatedMove d addr is e = e
move_by c semantics.WeakMove d addr is e = cc
move_by c semantics.EmulatedWeakMove d addr is e = cc

move_one : (k : Kernel) (t : Transfer) → IsGood k → IsInputOn Pooled k.devices t → class_of t.sem ≡ Move → (is_inward t.dir && is_exchanged k.config t) ≡ true
move_one k t g x is = ap (λ (d : Direction). is_inward d && is_exchanged k.config t) x.inward ∙ move_by k.config t.sem t.dev t.addr is (pooled_with k.config.page (entry k.config.devices t.dev) (entry k.devices t.dev) (entry k.pools t.dev) (g.equipped.each t.dev) x.device)

-- so the table says nothing of its end
pub move_untabled : (k : Kernel) (n : ℕ) → IsGood k → EndsOn Pooled k n → IfSome (find (has_number n) k.transfers) (λ (t : Transfer). class_of t.sem ≡ Move) → IfSome (find (has_number n) k.transfers) (λ (t : Transfer). (is_inward t.dir && is_exchanged k.config t) ≡ false) → is_some (find (has_number n) k.transfers) ≡ true → ⊥
move_untabled k n g on is tabled there = by_found (find (has_number n) k.transfers) on is tabled there
  where
    by_found : (o : Option Transfer) → IfSome o (IsInputOn Pooled k.devices) → IfSome o (λ (t : Transfer). class_of t.sem ≡ Move) → IfSome o (λ (t : Transfer). (is_inward t.dir && is_exchanged k.config t) ≡ false) → is_some o ≡ true → ⊥
    by_found None on is tabled there = let clash : false ≡ true = there in absurd (cc)
    by_found (Some t) on is tabled there = let clash : true ≡ false = sym (move_one k t g on is) ∙ tabled in absurd (cc)

-- a copy that keeps to the table where its pages aren't exchanged
pub copy_tabled : (k new : Kernel) (n : ℕ) (r : Reply) → EndsOn Pooled k n → is_some (find (has_number n) k.transfers) ≡ true → IfSome (find (has_number n) k.transfers) (λ (t : Transfer). is_exchanged k.config t ≡ false → KeepsToBound k (Finish n) new r) → IfSome (find (has_number n) k.transfers) (λ (t : Transfer). (is_inward t.dir && is_exchanged k.config t) ≡ false) → KeepsToBound k (Finish n) new r
copy_tabled k new n r on there keeps tabled = by_found (find (has_number n) k.transfers) on there keeps tabled
  where
    by_found : (o : Option Transfer) → IfSome o (IsInputOn Pooled k.devices) → is_some o ≡ true → IfSome o (λ (t : Transfer). is_exchanged k.config t ≡ false → KeepsToBound k (Finish n) new r) → IfSome o (λ (t : Transfer). (is_inward t.dir && is_exchanged k.config t) ≡ false) → KeepsToBound k (Finish n) new r
    by_found None on there keeps tabled = let clash : false ≡ true = there in absurd (cc)
    by_found (Some t) on there keeps tabled = keeps (ap (λ (d : Direction). is_inward d && is_exchanged k.config t) (sym on.inward) ∙ tabled)
