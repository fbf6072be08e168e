-- The end of a move input whose region is filled, as one step.
use Rattle.std.proofs.Common.{◌≡◌, ◌≢◌, ℕ, ◌+◌, ◌*◌, ◌/◌, ◌%◌, ◌^◌, ◌<◌, ◌≤◌, Bool, true, false, List, [], ◌∷◌, refl, sym, ap, ap₂, subst, arith, ◌∙◌, length, drop, map, get_or, ⊎_elim, inl, inr, eqb-true, eq-eqb, ne_eqb, length-append}
use Rattle.std.specs.Prelude.{Option, Some, None, find, flat_map, replicate, unwrap_or, ◌==◌, if◌then◌else◌}
use Rattle.std.specs.List.{range_with_len}
use Rattle.std.specs.Option.{option_map, option_and_then}
use Rattle.std.proofs.lemmas.Bool.{cases_Bool}
use Rattle.std.proofs.lemmas.List.{length-replicate}
use Rattle.genie_base.specs.Bytes.{overlaid, part}
use Rattle.genie_base.specs.Counts.{span}
use Rattle.genie_base.specs.Transfers.{class_of, is_strong}
use Rattle.genie_base.specs.declared.event.Event.TheVariants.{Finish}
use Rattle.genie_base.specs.declared.region.RegionState.TheVariants as state
use Rattle.genie_base.specs.declared.reply.Reply.{Reply}
use Rattle.genie_base.specs.declared.reply.Reply.TheVariants as reply
use Rattle.genie_base.specs.declared.semantics.Class.TheVariants.{Move}
use Rattle.genie_base.specs.declared.semantics.Direction.TheVariants as direction
use Rattle.genie_frame.specs.declared.frame.InLoan.{InLoan}
use Rattle.genie_frame.specs.declared.frame.Owner.{Owner}
use Rattle.genie_frame.specs.FrameTable.{FrameTable, bytes_at, counts_at, owner_at}
use Rattle.genie_finish.specs.Moves.{EmptyCanStore}
use Rattle.genie_hiding.specs.Hidden.{is_among, objects_of}
use Rattle.genie_object.specs.declared.memory.Memory.{Memory}
use Rattle.genie_object.specs.declared.objects.Entry.{Entry}
use Rattle.genie_object.specs.Costs.{AreBelow}
use Rattle.genie_object.specs.Leaving.{is_object}
use Rattle.genie_object.specs.Memory.{Seen, is_kept, page_bytes, seen}
use Rattle.genie_object.specs.Objects.{entry_at, object_at}
use Rattle.genie_object.specs.Touching.{is_in_range}
use Rattle.genie_object.specs.Lemmas.Works.{below_more}
use Rattle.genie_plan.specs.Plans.{input_frames, range_bytes}
use Rattle.genie_plan.specs.Lemmas.Landings.{entry_size}
use Rattle.genie_region.specs.declared.region.Region.{Region}
use Rattle.genie_space.specs.Translations.{IsBacked}
use Rattle.genie_model.specs.Ending.{filled, finish, finish_move, without_transfer}
use Rattle.genie_model.specs.Lemmas.Lists.{Has, all_has, find_has, has_left, has_map}
use Rattle.genie_model.specs.Pending.{is_ready}
use Rattle.genie_model.specs.Refusing.{refuse}
use Rattle.genie_model.specs.Regions.{change_process, change_region, changed, changed_in, orphan_numbered, region_numbered, with_state}
use Rattle.genie_model.specs.Space.{tidy}
use Rattle.genie_model.specs.State as flat
use Rattle.genie_model.specs.Tables.{entry, without}
use Rattle.genie_orderly.specs.Lemmas.FoundRegions.{all_of, no_orphan_at}
use Rattle.genie_orderly.specs.Orderly.{IsOrderly, IsPlaced, IsTransfer, Lies, LiesInOrphan, LiesInRegion}
use Rattle.genie_kernel.specs.declared.kernel.Kernel.{Kernel}
use Rattle.genie_kernel.specs.declared.transfer.Transfer.{Transfer}
use Rattle.genie_kernel.specs.Backed.{AreGuarded, all_regions}
use Rattle.genie_kernel.specs.Calls.{addr_of, begins_at, has_number, is_copy_input, is_strong_call, region_number}
use Rattle.genie_kernel.specs.Good.{IsGood}
use Rattle.genie_kernel.specs.Kept.{Kept, KeepsOwner}
use Rattle.genie_kernel.specs.Loans.{bytes_in_frames, first_of, frames_of}
use Rattle.genie_kernel.specs.Orphans.{lent_bytes}
use Rattle.genie_kernel.specs.Planned.{AreItsOwn, is_early_device}
use Rattle.genie_kernel.specs.Regions.{has_id, object_bytes, owned_regions, region_view}
use Rattle.genie_kernel.specs.Same.{SameNeeded}
use Rattle.genie_kernel.specs.Steps.{Steps, bytes_over}
use Rattle.genie_kernel.specs.View.{Bytes, no_bytes, outline, state_of}
use Rattle.genie_kernel.specs.Lemmas.Rising.{rises_most, rises_same}
use Rattle.genie_kernel.specs.Lemmas.Keeping.{calls_kept, hidden_kept}
use Rattle.genie_kernel.specs.Lemmas.Staying.{memory_good, system_same}
use Rattle.genie_changes.specs.Ending.{ShowsOthers, without_call}
use Rattle.genie_changes.specs.Lemmas.Once.{same_number, same_object}
use Rattle.genie_changes.specs.Lemmas.Outside.{bytes_alike, unhidden}
use Rattle.genie_changes.specs.Paged.{StepsPaged}
use Rattle.genie_changes.specs.Premises.{ShowsPages}
use Rattle.genie_changes.specs.Settled.{IsSettled}
use Rattle.genie_room.specs.Bounds.{IsShort}
use Rattle.genie_arrivals.specs.declared.owned.OwnedRegion.{OwnedRegion}
use Rattle.genie_arrivals.specs.Cases.{IsInputOf}
use Rattle.genie_arrivals.specs.Clearing.{ClearsObject, FillsObject}
use Rattle.genie_arrivals.specs.CopyLaws.{CopyLaws}
use Rattle.genie_arrivals.specs.EndLaws.{EndLaws}
use Rattle.genie_arrivals.specs.Ends.{EndsAlone}
use Rattle.genie_arrivals.specs.Live.{ChangeLaws, lively}
use Rattle.genie_arrivals.specs.Paging.{EndsPaged}
use Rattle.genie_arrivals.specs.Stored.{CanStoreBuffer, StoresBuffer}
use Rattle.genie_arrivals.specs.SwapLaws.{SwapLaws}
use Rattle.genie_arrivals.proofs.Alone.{are_buffers}
use Rattle.genie_arrivals.proofs.Finishing.{HasBuffer, payload, payload_is, shown_joined, take_less}
use Rattle.genie_arrivals.proofs.Found.{ready_idle, seen_as}
use Rattle.genie_arrivals.proofs.Lively.{found_everywhere, live_good, live_state}
use Rattle.genie_arrivals.proofs.Moving.{IsHad, region_in}
use Rattle.genie_arrivals.proofs.Owning.{has_owned}
use Rattle.genie_arrivals.proofs.Paging.{padded, padded_paged, seen_padded}
use Rattle.genie_arrivals.proofs.Putting.{processes_put}
use Rattle.genie_arrivals.proofs.Quiet.{unbuffered}
use Rattle.genie_arrivals.proofs.Rising.{rises_owners}
use Rattle.genie_arrivals.proofs.Reaching.{most_page, some_page, span_within}
use Rattle.genie_arrivals.proofs.Readying.{other_object, span_less, stored_most, unspoken}
use Rattle.genie_arrivals.proofs.Replying.{input_finish, numbered_view, outcome, quiet_steps, regions_seen}
use Rattle.genie_arrivals.proofs.Swapped.{swapped_frames, swapped_kept, swapped_settled}
use Rattle.genie_arrivals.proofs.Zeros.{AreZeros, zeros_dropped, zeros_each, zeros_overlaid, zeros_repeated, zeros_taken}

-- the region with these bytes, and then zeros
abbrev pub refilled : List ℕ → flat.Region → flat.Region
refilled bytes q = record q { bytes = overlaid 0 bytes (replicate (length q.bytes) 0) }

pub zeros_are : (xs : List ℕ) → AreZeros xs → xs ≡ replicate (length xs) 0
zeros_are [] h = refl
zeros_are (x ∷ xs) h = ap₂ ◌∷◌ h.0 (zeros_are xs h.1)

-- as long as each other, page by page
pub same_lengths : (s t : ℕ → List ℕ) (xs : List ℕ) → ((i : ℕ) → length (s i) ≡ length (t i)) → length (flat_map s xs) ≡ length (flat_map t xs)
same_lengths s t [] h = refl
same_lengths s t (x ∷ xs) h = length-append (s x) (flat_map s xs) ∙ ap₂ ◌+◌ (h x) (same_lengths s t xs h) ∙ sym (length-append (t x) (flat_map t xs))

-- two changes of one region are one
changed_twice : (n : ℕ) (f g : flat.Region → flat.Region) → ((q : flat.Region) → (f q).number ≡ q.number) → (rs : List flat.Region) → map (changed n g) (map (changed n f) rs) ≡ map (changed n (λ q. g (f q))) rs
changed_twice n f g same [] = refl
changed_twice n f g same (x ∷ rs) = ap₂ ◌∷◌ (one x) (changed_twice n f g same rs)
  where
    one : (x : flat.Region) → changed n g (changed n f x) ≡ changed n (λ q. g (f q)) x
    one x = elim (x.number == n) as (λ b. (x.number == n) ≡ b → changed n g (if b then f x else x) ≡ (if b then g (f x) else x)) [
      | true ↦ λ e. ap (λ b. if b then g (f x) else f x) (ap (λ j. j == n) (same x) ∙ e)
      | false ↦ λ e. ap (λ b. if b then g x else x) e
    ] refl

process_twice : (n : ℕ) (f g : flat.Region → flat.Region) → ((q : flat.Region) → (f q).number ≡ q.number) → (p : Option flat.Process) → change_process (changed_in n g) (change_process (changed_in n f) p) ≡ change_process (changed_in n (λ q. g (f q))) p
process_twice n f g same None = refl
process_twice n f g same (Some p) = ap (λ rs. Some (record p { regions = rs })) (changed_twice n f g same p.regions)

pub processes_twice : (n : ℕ) (f g : flat.Region → flat.Region) → ((q : flat.Region) → (f q).number ≡ q.number) → (ps : List (Option flat.Process)) → map (change_process (changed_in n g)) (map (change_process (changed_in n f)) ps) ≡ map (change_process (changed_in n (λ q. g (f q)))) ps
processes_twice n f g same [] = refl
processes_twice n f g same (p ∷ ps) = ap₂ ◌∷◌ (process_twice n f g same p) (processes_twice n f g same ps)

pub owner_on : (a b c : Owner) → KeepsOwner a b → KeepsOwner b c → KeepsOwner a c
owner_on a b c x y = record {
  owner = ⊎_elim (λ same. ⊎_elim (λ was. inl (same ∙ was)) (λ left. inr (same ∙ left)) x.owner) (λ left. inr left) y.owner;
  unfreed = y.unfreed;
}

-- a state with other bytes in one region
module _ (k : Kernel) (g : IsGood k) (r : Region) (has : Has r (owned_regions k.spaces.processes)) (s d : ℕ → ℕ → List ℕ) (kept : ℕ → List ℕ) (f : flat.Region → flat.Region) (here : region_view d r ≡ f (region_view s r)) (others : (a b : ℕ) → a ≢ r.object.0 → d a b ≡ s a b) where
  each : (q : Region) → Has q (owned_regions k.spaces.processes) → region_view d q ≡ changed r.id.0 f (region_view s q)
  each q h = elim (q.id.0 == r.id.0) as (λ b. (q.id.0 == r.id.0) ≡ b → region_view d q ≡ (if b then f (region_view s q) else region_view s q)) [
    | true ↦ λ e. let same = same_number k q r g h has (eqb-true q.id.0 r.id.0 e) in subst (λ (z : Region). region_view d z ≡ f (region_view s z)) (sym same) here
    | false ↦ λ e.
        let apart : q.object.0 ≢ r.object.0 = λ same. let one = same_object k q r g h has same in let clash : false ≡ true = sym e ∙ eq-eqb q.id.0 r.id.0 (ap (λ (z : Region). z.id.0) one) in absurd (cc) in
        ap (λ z. record (region_view s q) { bytes = z }) (bytes_alike d s q.object.0 (range_with_len 0 q.pages) (λ i. others q.object.0 i apart))
  ] refl

  pub state_changed : (rests sents : ℕ → List ℕ) → state_of k (record { seen = record { entry_bytes = d; kept_bytes = kept }; rests = rests; sents = sents }) ≡ change_region (state_of k (record { seen = record { entry_bytes = s; kept_bytes = kept }; rests = rests; sents = sents })) r.id.0 f
  state_changed rests sents =
      let processes = processes_put s d r.id.0 f k.spaces.processes k.queues each in
      (λ i. record (state_of k (record { seen = record { entry_bytes = s; kept_bytes = kept }; rests = rests; sents = sents })) { processes = processes i })

pub move_there : (k : Kernel) (b : Bytes) (n q : ℕ) (t : Transfer) (r : Region) → find (has_number n) k.transfers ≡ Some t → t.owner ≡ Some q → t.dir ≡ direction.Inward → class_of t.sem ≡ Move → t.buffer ≡ None → region_number t ≡ Some r.id.0 → find (has_id r.id.0) (owned_regions k.spaces.processes) ≡ Some r
    → finish (state_of k b) n ≡ outcome (change_region (without_transfer (state_of k b) n) r.id.0 (filled (payload b.seen.kept_bytes t))) (reply.Input (Some (r.start * k.config.page)) t.stored t.note)
move_there k b n q t r found owner inward class none names there =
    let s : flat.State = without_transfer (state_of k b) n in
    let v : flat.Transfer = seen_as k b t in
    input_finish k b n q t Move found owner inward class
    ∙ ap (finish_move s v) (ap (option_and_then (region_numbered (state_of k b))) names ∙ numbered_view k b r.id.0 ∙ ap (option_map (region_view b.seen.entry_bytes)) there)
    ∙ ap (λ bytes. outcome (change_region s r.id.0 (filled bytes)) (reply.Input (Some (r.start * k.config.page)) t.stored t.note)) (payload_is k b t inward none (ap is_strong class))

module _ (laws : EndLaws) (change : ChangeLaws) (room : CopyLaws) (swap : SwapLaws) (can_empty : EmptyCanStore) (k : Kernel) (n q : ℕ) (t : Transfer) (o : OwnedRegion) (L : List InLoan) (g : IsGood k) (found : find (has_number n) k.transfers ≡ Some t) (ready : is_ready t.phase ≡ true) (is : IsInputOf Move k.devices t) (owner : t.owner ≡ Some q) (had : IsHad k t o) (buffer : HasBuffer k n t L) where
  abbrev r : Region
  r = o.region

  abbrev page : ℕ
  page = k.config.page

  strong : is_strong_call t ≡ true
  strong = ap is_strong is.class_is

  there : Has t k.transfers
  there = (find_has (has_number n) k.transfers t found).0

  pub region_owned : Has r (owned_regions k.spaces.processes)
  region_owned = has_owned r k.spaces.processes o.pid had.regions had.there (find_has (has_id r.id.0) had.regions r had.found).0

  pub region_backed : length (object_at k.memory.objects r.object.0) ≡ r.pages
  region_backed = all_has (IsBacked k.memory.objects) (all_regions k.spaces.processes k.hidden) g.backed.each r (has_left r (owned_regions k.spaces.processes) _ region_owned)

  pub region_some : 0 < r.pages
  region_some = all_has (λ (x : Region). 0 < x.pages) (all_regions k.spaces.processes k.hidden) g.backed.some r (has_left r (owned_regions k.spaces.processes) _ region_owned)

  abbrev v : flat.Transfer
  v = seen_as k (no_bytes page) t

  view_has : Has v (outline k).transfers
  view_has = has_map (seen_as k (no_bytes page)) t k.transfers there

  -- its range begins at the start of its region
  begins : begins_at t ≡ 0
  begins =
      let placed = (all_has IsTransfer (outline k).transfers g.orderly.calls v view_has).placed in
      let one : IsPlaced direction.Inward (class_of t.sem) (addr_of t) t.offset = subst (λ d. IsPlaced d (class_of t.sem) (addr_of t) t.offset) is.inward placed in
      let two : IsPlaced direction.Inward Move (addr_of t) t.offset = subst (λ c. IsPlaced direction.Inward c (addr_of t) t.offset) is.class_is one in
      ap (λ (b : Bool). unwrap_or (if b then Some t.addr else None) t.offset) (λ i. is_copy_input (is.class_is i) (is.inward i)) ∙ two.1

  -- and ends in it
  inside : t.len ≤ r.pages * page
  inside =
      let s : flat.State = outline k in
      let e = (no_bytes page).seen.entry_bytes in
      let lies = all_has (λ (u : flat.Transfer). Lies s u u.region) s.transfers g.orderly.ranges v view_has in
      let at : Lies s v (Some r.id.0) = subst (Lies s v) had.names lies in
      let numbered : region_numbered s r.id.0 ≡ Some (region_view e r) = numbered_view k (no_bytes page) r.id.0 ∙ ap (option_map (region_view e)) (found_everywhere change k (laws.settled k g) o.pid had.regions r had.there had.found) in
      let in_all : Has (region_view e r) (all_of s.processes) = subst (Has (region_view e r)) (sym (regions_seen e k.spaces.processes k.queues)) (has_map (region_view e) r (owned_regions k.spaces.processes) region_owned) in
      let none = no_orphan_at s g.orderly.numbers (region_view e r) in_all r.id.0 refl in
      let long = (region_in k o.pid had.regions r g had.there (find_has (has_id r.id.0) had.regions r had.found).0).bytes in
      ⊎_elim
      (λ (x : LiesInRegion v (region_numbered s r.id.0)). let y : LiesInRegion v (Some (region_view e r)) = subst (LiesInRegion v) numbered x in omega (arith, y, long))
      (λ (x : LiesInOrphan v (orphan_numbered s r.id.0)). absurd (subst (LiesInOrphan v) none x))
      at

  module _ (m : Memory) (c : ClearsObject k.memory m r.object.0) where
    abbrev mid : Kernel
    mid = record k { memory = m }

    empty_shut : (i : ℕ) → (entry_at m.objects r.object.0 i).writable ≡ false
    empty_shut i = ⊎_elim
        (λ (yes : (entry_at m.objects r.object.0 i).writable ≡ true). let p = c.empties.sound.guarded.writable r.object.0 i yes in let clash : None ≡ Some p.number = sym (c.empty i) ∙ p.is_page in cc)
        (λ no. no)
        (cases_Bool (entry_at m.objects r.object.0 i).writable)

    -- emptied, the kernel is good
    pub mid_good : IsGood mid
    mid_good = memory_good k m g c.empties.sound
        (hidden_kept (is_object r.object.0) k.memory m (objects_of k.hidden) g.sound c.keeps c.empties.touches (λ a i among. other_object r.object.0 a (objects_of k.hidden) (unhidden k g r region_owned) among) g.cached)
        (λ j d l shut i.
        let x : Region = get_or (owned_regions k.spaces.processes) j d in
        ⊎_elim
        (λ (e : (x.object.0 == r.object.0) ≡ true). subst (λ a. (entry_at m.objects a i).writable ≡ false) (sym (eqb-true x.object.0 r.object.0 e)) (empty_shut i))
        (λ (e : (x.object.0 == r.object.0) ≡ false). still_shut (entry_at k.memory.objects x.object.0 i).writable (entry_at m.objects x.object.0 i).writable (c.empties.touches.entries x.object.0 i e).writable (g.guarded j d l shut i))
        (cases_Bool (x.object.0 == r.object.0)))
        (ap (λ (z : FrameTable). z.counts) c.empties.frames)
        c.keeps
      where
        still_shut : (a b : Bool) → (b ≡ true → a ≡ true) → a ≡ false → b ≡ false
        still_shut a true f e = let yes = f refl in cc
        still_shut a false f e = refl

    own : AreItsOwn m.frames.owners n (frames_of t.loans)
    own = record { own = λ j d l. system_same (owner_at k.memory.frames (get_or (frames_of t.loans) j d)) (owner_at m.frames (get_or (frames_of t.loans) j d)) n (sym (c.keeps.systems (get_or (frames_of t.loans) j d))) (buffer.own.own j d l); apart = buffer.own.apart }

    -- the buffer may be stored in the emptied object
    pub can_fill : AreBelow (2 ^ 63) k.memory.frames.meters → CanStoreBuffer m r.object.0 0 t.stored 0 (input_frames L)
    can_fill below =
        let same : m.frames.page ≡ page = c.keeps.page ∙ g.sized.page in
        let stored = stored_most k n t g found in
        let buffers = are_buffers mid n t mid_good found strong L buffer.is_loans buffer.is_frames own in
        let short : IsShort page t = all_has (IsShort page) k.transfers (room.short k g) t there in
        let long : length (input_frames L) ≡ span page 0 t.len = buffer.number ∙ ap (λ a. span page a t.len) begins in
        let touched = subst (λ a. span page a t.len ≤ 65) begins short.pages in
        let less = span_less page 0 t.stored t.len (some_page k g) stored in
        let most = most_page k g in
        let bytes : 64 * page ≤ 64 * 4096 = grind (arith, most) in
        let whole : 0 < page * r.pages = product page r.pages (some_page k g) region_some in
        let turned : page * r.pages ≡ r.pages * page = grind arith in
        let within = span_within page 0 t.stored r.pages (some_page k g) whole (omega (arith, inside, stored, turned)) in
        let size : length (object_at m.objects r.object.0) ≡ r.pages = c.keeps.entries r.object.0 ∙ region_backed in
        let places = room.buffers m (objects_of k.hidden) (input_frames L) (room.places mid mid_good) (λ j l. (buffers.each j l).own) buffers.apart in
        let meters : m.frames.meters ≡ k.memory.frames.meters = ap (λ (z : FrameTable). z.meters) c.empties.frames in
        record {
          sound = c.empties.sound;
          fits = let len = short.len in omega (arith, stored, len, bytes);
          within = subst (λ z. 0 / z + span z 0 t.stored ≤ length (object_at m.objects r.object.0)) (sym same) (subst (λ z. 0 / page + span page 0 t.stored ≤ z) (sym size) within);
          number = subst (λ z. span z 0 t.stored ≤ length (input_frames L)) (sym same) (omega (arith, less, long));
          most = omega (arith, long, touched);
          can = can_empty m r.object.0 0 t.stored c.empties.sound c.empty;
          buffers = buffers;
          room = omega (arith, places);
          meters = below_more (2 ^ 63) (2 ^ 63 + 2 ^ 22) m.frames.meters (omega arith) (subst (AreBelow (2 ^ 63)) (sym meters) below);
        }
      where
        product : (a b : ℕ) → 0 < a → 0 < b → 0 < a * b
        product a b l m = grind (arith, l, m)

  module _ (m3 : Memory) (fills : FillsObject k.memory m3 r.object.0 t.stored (input_frames L)) (accepted : refuse (outline k) (Finish n) ≡ None) where
    abbrev c : ClearsObject k.memory fills.clear r.object.0
    c = fills.clears

    abbrev cleared : Kernel
    cleared = record k { memory = fills.clear }

    abbrev g1 : IsGood cleared
    g1 = mid_good fills.clear c

    abbrev less : Kernel
    less = without_call cleared m3 n cleared.posted

    abbrev new : Kernel
    new = lively less o.pid r.id.0 had.regions

    abbrev answer : Reply
    answer = reply.Input (Some (r.start * k.config.page)) t.stored t.note

    early : is_early_device (entry k.devices t.dev) ≡ true
    early = is.early

    stores : StoresBuffer fills.clear m3 r.object.0 0 t.stored (frames_of t.loans)
    stores = subst (StoresBuffer fills.clear m3 r.object.0 0 t.stored) (sym buffer.is_frames) fills.stores

    unhidden_range : (a i : ℕ) → is_among a (objects_of cleared.hidden) ≡ true → is_in_range r.object.0 (0 / fills.clear.frames.page) (span fills.clear.frames.page 0 t.stored) a i ≡ false
    unhidden_range a i among = unspoken r.object.0 (0 / fills.clear.frames.page) (span fills.clear.frames.page 0 t.stored) a i (other_object r.object.0 a (objects_of k.hidden) (unhidden k g r region_owned) among)

    guarded : AreGuarded m3.objects (owned_regions cleared.spaces.processes)
    guarded j d l shut i =
        let x : Region = get_or (owned_regions k.spaces.processes) j d in
        ⊎_elim
        (λ (e : (x.object.0 == r.object.0) ≡ true). subst (λ a. (entry_at m3.objects a i).writable ≡ false) (sym (eqb-true x.object.0 r.object.0 e)) (fills.shut i))
        (λ (e : (x.object.0 == r.object.0) ≡ false). still_shut (entry_at fills.clear.objects x.object.0 i).writable (entry_at m3.objects x.object.0 i).writable (stores.touches.entries x.object.0 i (unspoken r.object.0 (0 / fills.clear.frames.page) (span fills.clear.frames.page 0 t.stored) x.object.0 i e)).writable (g1.guarded j d l shut i))
        (cases_Bool (x.object.0 == r.object.0))
      where
        still_shut : (a b : Bool) → (b ≡ true → a ≡ true) → a ≡ false → b ≡ false
        still_shut a true f e = let yes = f refl in cc
        still_shut a false f e = refl

    own1 : AreItsOwn fills.clear.frames.owners n (frames_of t.loans)
    own1 = own fills.clear c

    settled : IsSettled less
    settled = swapped_settled laws swap cleared n t g1 found ready early strong L buffer.is_loans buffer.is_frames own1 m3 r.object.0 0 t.stored stores unhidden_range guarded

    -- what is known of the bytes before and after
    record Refills (s d : ℕ → ℕ → List ℕ) (kept after : ℕ → List ℕ) : Type 0 where
      bytes : object_bytes d r.object.0 r.pages ≡ overlaid 0 (payload kept t) (replicate (length (object_bytes s r.object.0 r.pages)) 0)
      others : (a b : ℕ) → a ≢ r.object.0 → d a b ≡ s a b
      pages : ShowsPages cleared.config.page cleared.memory kept
      frames : SameNeeded (owned_regions k.spaces.processes) (without (has_number n) k.transfers) k.pools kept after

    steps : (s d : ℕ → ℕ → List ℕ) (kept after : ℕ → List ℕ) (rests sents : ℕ → List ℕ) → Refills s d kept after → Steps (state_of k (record { seen = record { entry_bytes = s; kept_bytes = kept }; rests = rests; sents = sents })) (Finish n) (state_of new (record { seen = record { entry_bytes = d; kept_bytes = after }; rests = rests; sents = sents })) answer
    steps s d kept after rests sents y =
        let b : Bytes = record { seen = record { entry_bytes = s; kept_bytes = kept }; rests = rests; sents = sents } in
        let between : Bytes = record { seen = record { entry_bytes = d; kept_bytes = kept }; rests = rests; sents = sents } in
        let last : Bytes = record { seen = record { entry_bytes = d; kept_bytes = after }; rests = rests; sents = sents } in
        let idle = ready_idle t.phase ready in
        let f : flat.Region → flat.Region = refilled (payload kept t) in
        let shows : ShowsOthers cleared n between last = record { rests = refl; sents = refl; entries = refl; frames = y.frames; pages = y.pages } in
        let left : state_of less last ≡ tidy (without_transfer (state_of k between) n) = laws.leaves cleared m3 n t cleared.posted between last g1 found idle.unqueued idle.unmoved shows in
        let put = state_changed k g r region_owned s d kept f (ap (λ z. record (region_view s r) { bytes = z }) y.bytes) y.others rests sents in
        let lives = live_state change less settled o.pid had.regions r had.there had.found last in
        let twice = processes_twice r.id.0 f (with_state state.Live) (λ x. refl) (state_of k b).processes in
        let all : state_of new last ≡ tidy (change_region (without_transfer (state_of k b) n) r.id.0 (filled (payload kept t))) =
        lives ∙ ap (λ (z : flat.State). change_region z r.id.0 (with_state state.Live)) (left ∙ ap (λ (z : flat.State). tidy (without_transfer z n)) put)
        ∙ (λ i. record (tidy (without_transfer (state_of k b) n)) { processes = twice i }) in
        quiet_steps (state_of k b) (state_of new last) n answer (change_region (without_transfer (state_of k b) n) r.id.0 (filled (payload kept t))) (move_there k b n q t r found owner is.inward is.class_is (unbuffered k n t g found early) had.names (found_everywhere change k (laws.settled k g) o.pid had.regions r had.there had.found)) refl all

    outline_refills : Refills (no_bytes page).seen.entry_bytes (no_bytes page).seen.entry_bytes (no_bytes page).seen.kept_bytes (no_bytes page).seen.kept_bytes
    outline_refills =
        let shows = laws.outlines cleared n in
        let z = (no_bytes page).seen in
        let zeros = zeros_taken t.stored (lent_bytes z.kept_bytes t) (zeros_taken t.len (drop (first_of t.loans) (bytes_in_frames z.kept_bytes (frames_of t.loans))) (zeros_dropped (first_of t.loans) (bytes_in_frames z.kept_bytes (frames_of t.loans)) (zeros_each page (frames_of t.loans)))) in
        let all : List ℕ = object_bytes z.entry_bytes r.object.0 r.pages in
        record {
          bytes = zeros_are all (zeros_each page (range_with_len 0 r.pages)) ∙ sym (zeros_overlaid 0 (payload z.kept_bytes t) (replicate (length all) 0) zeros (zeros_repeated (length all)));
          others = λ a b ne. refl;
          pages = shows.pages;
          frames = shows.frames;
        }

    orderly : IsOrderly (outline new)
    orderly =
        let b = no_bytes page in
        laws.orderly (outline k) (outline new) (Finish n) answer refl accepted (steps b.seen.entry_bytes b.seen.entry_bytes b.seen.kept_bytes b.seen.kept_bytes b.rests b.sents outline_refills) g.orderly

    zeros_page : (slots : ℕ → List ℕ) (i : ℕ) → (seen fills.clear slots).entry_bytes r.object.0 i ≡ replicate fills.clear.frames.page 0
    zeros_page slots i = ap (page_bytes fills.clear.frames fills.clear.pages.pages slots) (c.empty i)

    payload_same : (slots : ℕ → List ℕ) → range_bytes fills.clear.frames (frames_of t.loans) (0 % fills.clear.frames.page) t.stored ≡ payload (seen fills.clear slots).kept_bytes t
    payload_same slots =
        let shown : (j : ℕ) → j < length (frames_of t.loans) → (seen fills.clear slots).kept_bytes (get_or (frames_of t.loans) j 0) ≡ bytes_at fills.clear.frames (get_or (frames_of t.loans) j 0) = λ j l. ap (λ (z : Owner). if is_kept z (counts_at fills.clear.frames (get_or (frames_of t.loans) j 0)) then bytes_at fills.clear.frames (get_or (frames_of t.loans) j 0) else []) (own1.own j 0 l) in
        let bytes = shown_joined (seen fills.clear slots).kept_bytes fills.clear.frames (frames_of t.loans) shown in
        let same : fills.clear.frames.page ≡ page = c.keeps.page ∙ g.sized.page in
        let first : 0 % fills.clear.frames.page ≡ first_of t.loans = ap (λ z. 0 % z) same ∙ sym (buffer.first ∙ ap (λ z. z % page) begins) in
        (λ i. part (first i) t.stored (sym bytes i))
        ∙ sym (take_less t.stored t.len (drop (first_of t.loans) (flat_map (seen fills.clear slots).kept_bytes (frames_of t.loans))) (stored_most k n t g found))

    refills : (slots : ℕ → List ℕ) → ((s : ℕ) → length (slots s) ≡ k.memory.frames.page) → Refills (seen k.memory slots).entry_bytes (seen m3 slots).entry_bytes (seen k.memory slots).kept_bytes (seen m3 slots).kept_bytes
    refills slots paged =
        let clear_paged : (s : ℕ) → length (slots s) ≡ fills.clear.frames.page = λ s. paged s ∙ sym c.keeps.page in
        let shows = stores.shows slots clear_paged in
        let same : fills.clear.frames.page ≡ page = c.keeps.page ∙ g.sized.page in
        let kept = c.shows slots in
        let roomy = can_fill_within in
        let zeros : object_bytes (seen fills.clear slots).entry_bytes r.object.0 r.pages ≡ flat_map (λ (i : ℕ). replicate fills.clear.frames.page 0) (range_with_len 0 r.pages) = bytes_alike (λ a i. (seen fills.clear slots).entry_bytes a i) (λ a i. replicate fills.clear.frames.page 0) r.object.0 (range_with_len 0 r.pages) (zeros_page slots) in
        let lengths : length (flat_map (λ (i : ℕ). replicate fills.clear.frames.page 0) (range_with_len 0 r.pages)) ≡ length (object_bytes (seen k.memory slots).entry_bytes r.object.0 r.pages) = same_lengths (λ i. replicate fills.clear.frames.page 0) ((seen k.memory slots).entry_bytes r.object.0) (range_with_len 0 r.pages) (λ i. length-replicate fills.clear.frames.page 0 ∙ c.keeps.page ∙ sym (entry_size k.memory slots r.object.0 i g.sound paged)) in
        record {
          bytes = shows.range r.pages roomy
              ∙ (λ i. overlaid 0 (payload_same slots i) (zeros i))
              ∙ (λ i. overlaid 0 (payload (kept i) t) (zeros_are (flat_map (λ (j : ℕ). replicate fills.clear.frames.page 0) (range_with_len 0 r.pages)) (zeros_each fills.clear.frames.page (range_with_len 0 r.pages)) i))
              ∙ ap (λ j. overlaid 0 (payload (seen k.memory slots).kept_bytes t) (replicate j 0)) lengths;
          others = λ a b ne. shows.objects a b ne ∙ c.empties.entries slots a b (ne_eqb a r.object.0 ne);
          pages = subst (λ (z : ℕ → List ℕ). ShowsPages page fills.clear z) kept (subst (λ z. ShowsPages z fills.clear (seen fills.clear slots).kept_bytes) same (swap.nobody fills.clear slots c.empties.sound.shaped));
          frames = subst (λ (z : ℕ → List ℕ). SameNeeded (owned_regions k.spaces.processes) (without (has_number n) k.transfers) k.pools z (seen m3 slots).kept_bytes) kept (swap.suffice (owned_regions k.spaces.processes) (without (has_number n) k.transfers) k.pools (seen fills.clear slots).kept_bytes (seen m3 slots).kept_bytes (swapped_frames laws swap cleared n t g1 found ready early strong L buffer.is_loans buffer.is_frames own1 m3 r.object.0 0 t.stored stores unhidden_range guarded slots clear_paged));
        }
      where
        can_fill_within : 0 / fills.clear.frames.page + span fills.clear.frames.page 0 t.stored ≤ r.pages
        can_fill_within =
            let same : fills.clear.frames.page ≡ page = c.keeps.page ∙ g.sized.page in
            let stored = stored_most k n t g found in
            let whole : 0 < page * r.pages = product page r.pages (some_page k g) region_some in
            let turned : page * r.pages ≡ r.pages * page = grind arith in
            subst (λ z. 0 / z + span z 0 t.stored ≤ r.pages) (sym same) (span_within page 0 t.stored r.pages (some_page k g) whole (omega (arith, inside, stored, turned)))
          where
            product : (a b : ℕ) → 0 < a → 0 < b → 0 < a * b
            product a b l m = grind (arith, l, m)

    steps_paged : StepsPaged k (Finish n) new answer
    steps_paged slots rests sents have =
        let p : ℕ → List ℕ = padded k.memory.frames.page (length k.memory.slots) slots in
        let one = steps (seen k.memory p).entry_bytes (seen m3 p).entry_bytes (seen k.memory p).kept_bytes (seen m3 p).kept_bytes rests sents (refills p (padded_paged k.memory slots have)) in
        let two = subst (λ (s : Seen). Steps (state_of k (record { seen = s; rests = rests; sents = sents })) (Finish n) (state_of new (record { seen = seen m3 p; rests = rests; sents = sents })) answer) (seen_padded k.memory slots k.memory.frames.page (length k.memory.slots) g.sound refl) one in
        subst (λ (s : Seen). Steps (state_of k (bytes_over k.memory slots rests sents)) (Finish n) (state_of new (record { seen = s; rests = rests; sents = sents })) answer) (seen_padded m3 slots k.memory.frames.page (length k.memory.slots) stores.sound (sym (stores.keeps.slots ∙ c.keeps.slots))) two

    kept_by : Kept k new
    kept_by =
        let x = calls_kept k fills.clear g c.keeps in
        let y = swapped_kept laws swap cleared n t g1 found ready early strong L buffer.is_loans buffer.is_frames own1 m3 r.object.0 0 t.stored stores unhidden_range guarded in
        record {
          lent = λ j f u w p on still. owner_on _ _ _ (x.lent j f u u (record { was = p.was; is = p.was }) on on) (y.lent j f u w (record { was = p.was; is = p.is }) on still);
          pooled = λ d f on still. owner_on _ _ _ (x.pooled d f on on) (y.pooled d f on still);
          fresh = λ j f u w p. y.fresh j f u w (record { was = p.was; is = p.is });
        }

    pub move_ends : EndsPaged k n new answer
    move_ends = record {
      good = live_good change less settled o.pid had.regions r had.there had.found orderly;
      sized = λ w s. record { count = s.count ∙ sym (stores.keeps.slots ∙ c.keeps.slots); page = s.page ∙ sym (stores.keeps.page ∙ c.keeps.page) };
      kept = kept_by;
      step = steps_paged;
      config = refl;
      numbers = refl;
      unfailed = refl;
      rises = rises_owners (2 ^ 35) k.memory.frames fills.clear.frames m3.frames c.empties.frames (rises_most (2 ^ 20) (2 ^ 35) fills.clear.frames m3.frames (omega arith) fills.stores.rises);
    }

-- an end that leaves all bytes as they are
pub alone_ends : (k new : Kernel) (n : ℕ) (a : Reply) → EndsAlone k n new a → EndsPaged k n new a
alone_ends k new n a e = record { good = e.good; sized = e.sized; kept = e.kept; step = λ slots rests sents have. e.step slots rests sents; config = e.config; numbers = e.numbers; unfailed = e.unfailed; rises = rises_same (2 ^ 35) k.memory.frames new.memory.frames e.meters e.landed }

-- the object of a region is there
pub object_there : (objects : List (List Entry)) (o pages : ℕ) → length (object_at objects o) ≡ pages → 0 < pages → object_at objects o ≢ []
object_there objects o pages size some none = let zero_long = ap length none in absurd (omega (arith, size, some, zero_long))
