-- The flat machine at the end of an input whose bytes are in place.
use Rattle.std.proofs.Common.{◌≡◌, ℕ, ◌*◌, Bool, true, false, List, [], ◌∷◌, ◌++◌, refl, sym, ap, ◌∙◌, map, cond}
use Rattle.std.specs.Prelude.{Option, Some, None, find, is_some, ◌||◌, if◌then◌else◌}
use Rattle.std.specs.List.{list_any}
use Rattle.std.specs.Option.{option_map, option_and_then}
use Rattle.genie_base.specs.Events.{mark_of}
use Rattle.genie_base.specs.Transfers.{class_of}
use Rattle.genie_base.specs.declared.event.Event.TheVariants.{Finish}
use Rattle.genie_base.specs.declared.reply.Mark.{Mark}
use Rattle.genie_base.specs.declared.reply.Mark.TheVariants.{NoFault}
use Rattle.genie_base.specs.declared.reply.Reply.{Reply}
use Rattle.genie_base.specs.declared.reply.Reply.TheVariants as reply
use Rattle.genie_base.specs.declared.region.RegionState.TheVariants.{Live}
use Rattle.genie_base.specs.declared.semantics.Class.{Class}
use Rattle.genie_base.specs.declared.semantics.Class.TheVariants.{Move, Share, WeakMove}
use Rattle.genie_base.specs.declared.semantics.Direction.TheVariants.{Inward}
use Rattle.genie_device.specs.Device.{DeviceView}
use Rattle.genie_input.specs.Pools.{PoolState}
use Rattle.genie_region.specs.declared.region.Region.{Region}
use Rattle.genie_orderly.specs.Lemmas.FoundRegions.{all_of, region_found}
use Rattle.genie_model.specs.Ending.{without_transfer, region_of, finish, finish_found, finish_for, finish_owned, finish_input, finish_move, finish_share, finish_weak_move}
use Rattle.genie_model.specs.Pending.{is_early_at, early_device}
use Rattle.genie_model.specs.Regions.{address_of, change_region, is_region, put, region_numbered, with_state}
use Rattle.genie_model.specs.Space.{tidy}
use Rattle.genie_model.specs.State as flat
use Rattle.genie_model.specs.Step.{Outcome, marked}
use Rattle.genie_model.specs.Tables.{entry}
use Rattle.genie_kernel.specs.declared.kernel.Kernel.{Kernel}
use Rattle.genie_kernel.specs.declared.transfer.Transfer.{Transfer}
use Rattle.genie_kernel.specs.Calls.{has_number, receiver, region_number}
use Rattle.genie_kernel.specs.Devices.{device_view}
use Rattle.genie_kernel.specs.Planned.{is_early_device}
use Rattle.genie_kernel.specs.Regions.{has_id, owned_regions, processes_view, region_view}
use Rattle.genie_kernel.specs.Steps.{Steps}
use Rattle.genie_kernel.specs.View.{Bytes, state_of}
use Rattle.genie_kernel.specs.Lemmas.DeviceViews.{entry_view}
use Rattle.genie_kernel.specs.Lemmas.Processes.{find_map, is_some_map}
use Rattle.genie_arrivals.specs.Cases.{IsInputOf}
use Rattle.genie_arrivals.specs.Replies.{is_owned_number, is_there, share_reply}
use Rattle.genie_arrivals.proofs.Found.{seen_as, pending_view}

abbrev pub outcome : flat.State → Reply → Outcome
outcome s r = (s, r)

map_joined : {X Y : Type 0} (f : X → Y) (xs ys : List X) → map f (xs ++ ys) ≡ map f xs ++ map f ys
map_joined f [] ys = refl
map_joined f (x ∷ xs) ys = ap (λ l. f x ∷ l) (map_joined f xs ys)

-- the regions of the view are those of all processes
pub regions_seen : (s : ℕ → ℕ → List ℕ) (ps : List (Option (List Region))) (qs : List (List ℕ)) → all_of (processes_view s ps qs) ≡ map (region_view s) (owned_regions ps)
regions_seen s [] qs = refl
regions_seen s (None ∷ ps) [] = regions_seen s ps []
regions_seen s (None ∷ ps) (q ∷ qs) = regions_seen s ps qs
regions_seen s (Some rs ∷ ps) [] = ap (λ l. map (region_view s) rs ++ l) (regions_seen s ps []) ∙ sym (map_joined (region_view s) rs (owned_regions ps))
regions_seen s (Some rs ∷ ps) (q ∷ qs) = ap (λ l. map (region_view s) rs ++ l) (regions_seen s ps qs) ∙ sym (map_joined (region_view s) rs (owned_regions ps))

-- the region that a number finds
pub numbered_view : (k : Kernel) (b : Bytes) (j : ℕ) → region_numbered (state_of k b) j ≡ option_map (region_view b.seen.entry_bytes) (find (has_id j) (owned_regions k.spaces.processes))
numbered_view k b j = region_found (state_of k b) j ∙ ap (find (is_region j)) (regions_seen b.seen.entry_bytes k.spaces.processes k.queues) ∙ find_map (is_region j) (region_view b.seen.entry_bytes) (owned_regions k.spaces.processes)

pub found_some : {X : Type 0} (p : X → Bool) (xs : List X) → is_some (find p xs) ≡ list_any p xs
found_some p [] = refl
found_some p (x ∷ xs) = elim (p x) as (λ b. is_some (cond b (Some x) (find p xs)) ≡ (b || list_any p xs)) [ true ↦ refl | false ↦ found_some p xs ]

number_view : (k : Kernel) (b : Bytes) (o : Option ℕ) → is_some (option_and_then (region_numbered (state_of k b)) o) ≡ is_owned_number (owned_regions k.spaces.processes) o
number_view k b None = refl
number_view k b (Some j) = ap is_some (numbered_view k b j) ∙ is_some_map (region_view b.seen.entry_bytes) (find (has_id j) (owned_regions k.spaces.processes)) ∙ found_some (has_id j) (owned_regions k.spaces.processes)

-- whether a transfer's region is there
pub there_view : (k : Kernel) (b : Bytes) (t : Transfer) → is_some (region_of (state_of k b) (seen_as k b t)) ≡ is_there (owned_regions k.spaces.processes) t
there_view k b t = number_view k b (region_number t)

early_same : (s : ℕ → List ℕ) (rest sent : List ℕ) (pool : Option PoolState) (r : Option Transfer) (v : Option DeviceView) → early_device (option_map (device_view s rest sent pool r) v) ≡ is_early_device v
early_same s rest sent pool r None = refl
early_same s rest sent pool r (Some v) = refl

pub early_view : (k : Kernel) (b : Bytes) (d : ℕ) → is_early_at (state_of k b) d ≡ is_early_device (entry k.devices d)
early_view k b d = ap early_device (entry_view b.seen.kept_bytes b.rests b.sents k.pools (receiver k.transfers) k.devices d) ∙ early_same b.seen.kept_bytes (b.rests d) (b.sents d) (entry k.pools d) (receiver k.transfers d) (entry k.devices d)

shared : (s : flat.State) (v : flat.Transfer) (o : Option flat.Region) → is_early_at s v.device ≡ true → finish_share s v o ≡ (s, if is_some o then reply.Input None v.stored v.note else reply.Lost)
shared s v None e = refl
shared s v (Some r) e = ap (λ c. outcome (if c then s else put s r.number v.offset v.payload) (reply.Input None v.stored v.note)) e

shared_for : (s : flat.State) (t : Transfer) (v : flat.Transfer) (there : Bool) (owner : Option ℕ) → v.direction ≡ Inward → v.class ≡ Share → v.stored ≡ t.stored → v.note ≡ t.note → is_early_at s v.device ≡ true → is_some (region_of s v) ≡ there → finish_for s v owner ≡ outcome s (share_reply there t owner)
shared_for s t v there None inward class stored note early is = refl
shared_for s t v there (Some p) inward class stored note early is =
    ap (finish_owned s p v) inward ∙ ap (finish_input s p v) class ∙ shared s v (region_of s v) early
    ∙ (λ i. outcome s (if is i then reply.Input None (stored i) (note i) else reply.Lost))

-- a share input on an early device leaves all as it is but the transfers
pub share_finish : (k : Kernel) (b : Bytes) (n : ℕ) (t : Transfer) → find (has_number n) k.transfers ≡ Some t → IsInputOf Share k.devices t → finish (state_of k b) n ≡ outcome (without_transfer (state_of k b) n) (share_reply (is_there (owned_regions k.spaces.processes) t) t t.owner)
share_finish k b n t found is =
    let s : flat.State = state_of k b in
    ap (finish_found s n) (pending_view k b n ∙ ap (option_map (seen_as k b)) found)
    ∙ shared_for (without_transfer s n) t (seen_as k b t) (is_there (owned_regions k.spaces.processes) t) t.owner is.inward is.class_is refl refl (early_view k b t.dev ∙ is.early) (there_view k b t)

-- such an end is a step
pub quiet_steps : (s new : flat.State) (n : ℕ) (r : Reply) (after : flat.State) → finish s n ≡ outcome after r → mark_of r ≡ NoFault → new ≡ tidy after → Steps s (Finish n) new r
quiet_steps s new n r after ends mark is = record {
  state = is ∙ sym (ap (λ (m : Mark). (marked s (Finish n) m).0) mark ∙ ap (λ (o : Outcome). tidy o.0) ends);
  reply_is = sym (ap (λ (m : Mark). (marked s (Finish n) m).1) mark ∙ ap (λ (o : Outcome). o.1) ends);
}

pub share_unfailed : (there : Bool) (t : Transfer) (owner : Option ℕ) → mark_of (share_reply there t owner) ≡ NoFault
share_unfailed there t None = refl
share_unfailed true t (Some p) = refl
share_unfailed false t (Some p) = refl

-- the transfer that ends is the one of that number
pub found_finish : (k : Kernel) (b : Bytes) (n : ℕ) (t : Transfer) → find (has_number n) k.transfers ≡ Some t → finish (state_of k b) n ≡ finish_for (without_transfer (state_of k b) n) (seen_as k b t) t.owner
found_finish k b n t found = ap (finish_found (state_of k b) n) (pending_view k b n ∙ ap (option_map (seen_as k b)) found)

-- whatever it is, nothing more is done where its process is gone
pub gone_finish : (k : Kernel) (b : Bytes) (n : ℕ) (t : Transfer) → find (has_number n) k.transfers ≡ Some t → t.owner ≡ None → finish (state_of k b) n ≡ outcome (without_transfer (state_of k b) n) reply.Gone
gone_finish k b n t found gone = found_finish k b n t found ∙ ap (finish_for (without_transfer (state_of k b) n) (seen_as k b t)) gone

-- an input with a process, by its class
pub input_finish : (k : Kernel) (b : Bytes) (n p : ℕ) (t : Transfer) (class : Class) → find (has_number n) k.transfers ≡ Some t → t.owner ≡ Some p → t.dir ≡ Inward → class_of t.sem ≡ class → finish (state_of k b) n ≡ finish_input (without_transfer (state_of k b) n) p (seen_as k b t) class
input_finish k b n p t class found owner inward is =
    let s : flat.State = without_transfer (state_of k b) n in
    let v : flat.Transfer = seen_as k b t in
    found_finish k b n t found ∙ ap (finish_for s v) owner ∙ ap (finish_owned s p v) inward ∙ ap (finish_input s p v) is

none_of : {X : Type 0} (o : Option X) → is_some o ≡ false → o ≡ None
none_of None e = refl
none_of (Some x) e = absurd (cc)

-- a weak move input whose region is gone
pub weak_lost : (k : Kernel) (b : Bytes) (n p : ℕ) (t : Transfer) → find (has_number n) k.transfers ≡ Some t → t.owner ≡ Some p → t.dir ≡ Inward → class_of t.sem ≡ WeakMove → is_there (owned_regions k.spaces.processes) t ≡ false → finish (state_of k b) n ≡ outcome (without_transfer (state_of k b) n) reply.Lost
weak_lost k b n p t found owner inward is gone =
    input_finish k b n p t WeakMove found owner inward is ∙ ap (finish_weak_move (without_transfer (state_of k b) n) (seen_as k b t)) (none_of (region_of (state_of k b) (seen_as k b t)) (there_view k b t ∙ gone))

moved : (s : flat.State) (v : flat.Transfer) (r : flat.Region) → is_early_at s v.device ≡ true → finish_weak_move s v (Some r) ≡ outcome (change_region s r.number (with_state Live)) (reply.Input (Some (address_of s r)) v.stored v.note)
moved s v r e = ap (λ c. outcome (change_region (if c then s else put s r.number v.offset v.payload) r.number (with_state Live)) (reply.Input (Some (address_of s r)) v.stored v.note)) e

-- and one whose region is there
pub weak_moved : (k : Kernel) (b : Bytes) (n p : ℕ) (t : Transfer) (r : Region) → find (has_number n) k.transfers ≡ Some t → t.owner ≡ Some p → t.dir ≡ Inward → class_of t.sem ≡ WeakMove → is_early_device (entry k.devices t.dev) ≡ true → region_number t ≡ Some r.id.0 → find (has_id r.id.0) (owned_regions k.spaces.processes) ≡ Some r
    → finish (state_of k b) n ≡ outcome (change_region (without_transfer (state_of k b) n) r.id.0 (with_state Live)) (reply.Input (Some (r.start * k.config.page)) t.stored t.note)
weak_moved k b n p t r found owner inward is early names there =
    let s : flat.State = without_transfer (state_of k b) n in
    let v : flat.Transfer = seen_as k b t in
    input_finish k b n p t WeakMove found owner inward is
    ∙ ap (finish_weak_move s v) (ap (option_and_then (region_numbered (state_of k b))) names ∙ numbered_view k b r.id.0 ∙ ap (option_map (region_view b.seen.entry_bytes)) there)
    ∙ moved s v (region_view b.seen.entry_bytes r) (early_view k b t.dev ∙ early)

-- a move input whose region is gone
pub move_lost : (k : Kernel) (b : Bytes) (n p : ℕ) (t : Transfer) → find (has_number n) k.transfers ≡ Some t → t.owner ≡ Some p → t.dir ≡ Inward → class_of t.sem ≡ Move → is_there (owned_regions k.spaces.processes) t ≡ false → finish (state_of k b) n ≡ outcome (without_transfer (state_of k b) n) reply.Lost
move_lost k b n p t found owner inward is gone =
    input_finish k b n p t Move found owner inward is ∙ ap (finish_move (without_transfer (state_of k b) n) (seen_as k b t)) (none_of (region_of (state_of k b) (seen_as k b t)) (there_view k b t ∙ gone))
