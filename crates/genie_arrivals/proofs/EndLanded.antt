-- A weak input on an outboard device ends, whose bytes have landed in the region that it names.
use Rattle.std.proofs.Common.{◌≡◌, ℕ, ◌+◌, ◌*◌, ◌^◌, ◌≤◌, true, false, List, [], refl, sym, ap, subst, arith, ◌∙◌, length, take, find, eqb-true}
use Rattle.std.specs.Prelude.{Option, Some, None, IfSome, slice_index_or, if◌then◌else◌}
use Rattle.std.specs.Option.{option_map, option_and_then}
use Rattle.std.proofs.lemmas.List.{length-take}
use Rattle.genie_base.specs.Transfers.{class_of}
use Rattle.genie_base.specs.declared.event.Event.TheVariants.{Finish}
use Rattle.genie_base.specs.declared.reply.Reply.{Reply}
use Rattle.genie_base.specs.declared.reply.Reply.TheVariants as reply
use Rattle.genie_base.specs.declared.semantics.Class.TheVariants.{Share, WeakMove}
use Rattle.genie_base.specs.declared.region.RegionState.TheVariants as state
use Rattle.genie_base.specs.declared.semantics.Direction.TheVariants as direction
use Rattle.genie_frame.specs.declared.frame.Owner.{Owner}
use Rattle.genie_frame.specs.declared.frame.Owner.TheVariants.{Free}
use Rattle.genie_frame.specs.FrameTable.{FrameTable, owner_at}
use Rattle.genie_object.specs.Memory.{Seen}
use Rattle.genie_object.specs.Sound.{IsSized}
use Rattle.genie_store.specs.StoreView.{StoreView}
use Rattle.genie_region.specs.declared.region.Region.{Region}
use Rattle.genie_space.specs.Spaces.{AddressSpaces}
use Rattle.genie_model.specs.Ending.{finish, finish_for, finish_found, finish_input, finish_owned, finish_share, finish_weak_move, region_of, without_transfer}
use Rattle.genie_model.specs.Lemmas.Lists.{all_has, any_found, find_has, has_map}
use Rattle.genie_model.specs.Pending.{is_early_at, is_ready}
use Rattle.genie_model.specs.Refusing.{refuse}
use Rattle.genie_model.specs.Regions.{address_of, change_region, put, region_numbered, with_state}
use Rattle.genie_model.specs.Space.{tidy}
use Rattle.genie_model.specs.State as flat
use Rattle.genie_model.specs.Tables.{entry}
use Rattle.genie_orderly.specs.Orderly.{IsOrderly, IsTransfer}
use Rattle.genie_kernel.specs.declared.kernel.Kernel.{Kernel}
use Rattle.genie_kernel.specs.declared.transfer.Transfer.{Transfer}
use Rattle.genie_kernel.specs.Calls.{first_waiting, has_number, is_strong_call, region_number}
use Rattle.genie_kernel.specs.Good.{IsGood}
use Rattle.genie_kernel.specs.Kept.{Kept, KeepsOwner}
use Rattle.genie_kernel.specs.Planned.{FitsDevice}
use Rattle.genie_kernel.specs.Regions.{has_id, owned_regions, region_view}
use Rattle.genie_kernel.specs.Rising.{MetersRise}
use Rattle.genie_kernel.specs.Steps.{bytes_over}
use Rattle.genie_kernel.specs.Transfers.{buffer_bytes, input_bytes, is_outboard_device, payload_of}
use Rattle.genie_kernel.specs.View.{Bytes, state_of, outline, no_bytes}
use Rattle.genie_changes.specs.Paged.{HavePages}
use Rattle.genie_changes.specs.Settled.{IsSettled}
use Rattle.genie_changes.specs.Released.{BuffersShow, ReleasedEnds, ReleasedShows}
use Rattle.genie_arrivals.specs.declared.owned.OwnedRegion.{OwnedRegion}
use Rattle.genie_arrivals.specs.EndLaws.{EndLaws}
use Rattle.genie_arrivals.specs.Live.{ChangeLaws, lively}
use Rattle.genie_arrivals.specs.Outboard.{EndsLanded, LandsIn, fetched, waiting_bytes}
use Rattle.genie_arrivals.specs.Owners.{IsNamed}
use Rattle.genie_arrivals.specs.Replies.{is_owned_number, is_there}
use Rattle.genie_arrivals.specs.Waiting.{EndsWaiting}
use Rattle.genie_arrivals.proofs.Blank.{accepts_blank, blank, blank_orderly, blanked, pending_blank, put_nothing, without_blank}
use Rattle.genie_arrivals.proofs.Buffered.{freed, freed_kept, freed_outline, freed_settled, freed_shown}
use Rattle.genie_arrivals.proofs.Found.{pending_view, seen_as}
use Rattle.genie_arrivals.proofs.Landing.{landed, landed_sound, landed_state, mid, mid_good, most_landed, same_meters, same_owners, same_page}
use Rattle.genie_arrivals.proofs.Lively.{live_good, live_state}
use Rattle.genie_arrivals.proofs.Moving.{IsHad, is_had}
use Rattle.genie_arrivals.proofs.Paging.{padded, padded_paged, seen_padded}
use Rattle.genie_arrivals.proofs.Reaching.{most_page}
use Rattle.genie_arrivals.proofs.Replying.{early_view, found_finish, numbered_view, outcome, quiet_steps}
use Rattle.genie_arrivals.proofs.Rising.{rises_back, rises_lands}
use Rattle.genie_arrivals.proofs.WeakPlan.{is_waiting, outboard_at}

-- a share input on a device that isn't early, whose region is there
share_put : (s : flat.State) (v : flat.Transfer) (p : ℕ) (r : flat.Region) → v.direction ≡ direction.Inward → v.class ≡ Share → is_early_at s v.device ≡ false → region_of s v ≡ Some r → finish_for s v (Some p) ≡ outcome (put s r.number v.offset v.payload) (reply.Input None v.stored v.note)
share_put s v p r inward class late there =
    ap (finish_owned s p v) inward ∙ ap (finish_input s p v) class ∙ ap (finish_share s v) there
    ∙ ap (λ c. outcome (if c then s else put s r.number v.offset v.payload) (reply.Input None v.stored v.note)) late

-- the region that is there
pub record NamesRegion (k : Kernel) (t : Transfer) : Type 0 where
  pub region : Region
  pub names : region_number t ≡ Some region.id.0
  pub there : find (has_id region.id.0) (owned_regions k.spaces.processes) ≡ Some region

names_by : (k : Kernel) (t : Transfer) (o : Option ℕ) → region_number t ≡ o → is_owned_number (owned_regions k.spaces.processes) o ≡ true → NamesRegion k t
names_by k t None e h = absurd (cc)
names_by k t (Some j) e h =
    let at = any_found (has_id j) (owned_regions k.spaces.processes) h in
    let number : at.0.id.0 ≡ j = eqb-true at.0.id.0 j (find_has (has_id j) (owned_regions k.spaces.processes) at.0 at.1).1 in
    record { region = at.0; names = e ∙ ap Some (sym number); there = subst (λ i. find (has_id i) (owned_regions k.spaces.processes) ≡ Some at.0) (sym number) at.1 }

pub names_region : (k : Kernel) (t : Transfer) → is_there (owned_regions k.spaces.processes) t ≡ true → NamesRegion k t
names_region k t h = names_by k t (region_number t) refl h

-- one number finds one transfer
pub same_call : (k : Kernel) (n : ℕ) (t u : Transfer) → find (has_number n) k.transfers ≡ Some t → find (has_number n) k.transfers ≡ Some u → u ≡ t
same_call k n t u a b = let same : Some u ≡ Some t = sym b ∙ a in cc

-- and a weak move input's region becomes Live
moved_put : (s : flat.State) (v : flat.Transfer) (p : ℕ) (r : flat.Region) → v.direction ≡ direction.Inward → v.class ≡ WeakMove → is_early_at s v.device ≡ false → region_of s v ≡ Some r → finish_for s v (Some p) ≡ outcome (change_region (put s r.number v.offset v.payload) r.number (with_state state.Live)) (reply.Input (Some (address_of s r)) v.stored v.note)
moved_put s v p r inward class late there =
    ap (finish_owned s p v) inward ∙ ap (finish_input s p v) class ∙ ap (finish_weak_move s v) there
    ∙ ap (λ c. outcome (change_region (if c then s else put s r.number v.offset v.payload) r.number (with_state state.Live)) (reply.Input (Some (address_of s r)) v.stored v.note)) late

few_taken : (n : ℕ) (xs : List ℕ) → length (take n xs) ≤ n
few_taken n xs = let e = length-take n xs in omega (arith, e)

module _ (k : Kernel) (n : ℕ) (t : Transfer) (g : IsGood k) (found : find (has_number n) k.transfers ≡ Some t) (inward : t.dir ≡ direction.Inward) (outboard : is_outboard_device (entry k.devices t.dev) ≡ true) where
  abbrev pub bytes : List ℕ
  bytes = waiting_bytes k.devices t

  few : length bytes ≤ t.stored
  few = few_taken t.stored (fetched (entry k.devices t.dev) t.buffer)

  short : length bytes ≤ t.len
  short =
      let call : IsTransfer (seen_as k (no_bytes k.config.page) t) = all_has IsTransfer (outline k).transfers g.orderly.calls (seen_as k (no_bytes k.config.page) t) (has_map (seen_as k (no_bytes k.config.page)) t k.transfers (find_has (has_number n) k.transfers t found).0) in
      let most : t.stored ≤ t.len = call.stored in
      let less = few in
      omega (arith, most, less)

  -- and it has at most 64 pages' bytes
  small : length bytes ≤ 2 ^ 20
  small =
      let at = outboard_at k t.dev g outboard in
      let fits : FitsDevice t.len (entry k.devices t.dev) = all_has (λ (u : Transfer). FitsDevice u.len (entry k.devices u.dev)) k.transfers g.fitting t (find_has (has_number n) k.transfers t found).0 in
      let long : t.len ≤ at.view.limit = subst (FitsDevice t.len) at.there fits in
      let limit = at.limit in
      let page = most_page k g in
      let less = short in
      omega (arith, long, limit, page, less)

  -- its payload is what lies in its device's memory
  pub payload_is : (b : Bytes) (buffer : ℕ) → t.buffer ≡ Some buffer → (seen_as k b t).payload ≡ bytes
  payload_is b buffer mine =
      let at = outboard_at k t.dev g outboard in
      ap (payload_of b.seen.kept_bytes k.devices k.pools (first_waiting k.transfers) t) inward
      ∙ ap (input_bytes b.seen.kept_bytes k.devices k.pools t) mine
      ∙ (λ i. take t.stored (buffer_bytes b.seen.kept_bytes (at.there i) (at.unpooled i) buffer))
      ∙ sym (λ i. take t.stored (fetched (at.there i) (mine i)))

  late : (b : Bytes) → is_early_at (state_of k b) t.dev ≡ false
  late b = early_view k b t.dev ∙ (is_waiting k t inward outboard).late

  pub region_there : (b : Bytes) (q : Region) → region_number t ≡ Some q.id.0 → find (has_id q.id.0) (owned_regions k.spaces.processes) ≡ Some q → region_of (without_transfer (state_of k b) n) (seen_as k b t) ≡ Some (region_view b.seen.entry_bytes q)
  region_there b q names there = ap (option_and_then (region_numbered (state_of k b))) names ∙ numbered_view k b q.id.0 ∙ ap (option_map (region_view b.seen.entry_bytes)) there

module _ (laws : EndLaws) (show : BuffersShow) (end : ReleasedEnds) (release : ReleasedShows) (k : Kernel) (n p : ℕ) (t : Transfer) (g : IsGood k) (accepted : refuse (outline k) (Finish n) ≡ None) (ready : is_ready t.phase ≡ true) (found : find (has_number n) k.transfers ≡ Some t) (inward : t.dir ≡ direction.Inward) (outboard : is_outboard_device (entry k.devices t.dev) ≡ true) (weak : is_strong_call t ≡ false) (F : FrameTable) (landing : LandsIn t.loans (waiting_bytes k.devices t) k.memory.frames F) where
  abbrev between : Kernel
  between = mid k n t g found inward outboard weak F (waiting_bytes k.devices t) landing

  pub between_good : IsGood between
  between_good = mid_good k n t g found inward outboard weak F (waiting_bytes k.devices t) landing

  module _ (new : Kernel) (x : EndsWaiting n between new t) where
    abbrev pub last : Kernel
    last = freed laws show end release between n t new between_good accepted ready x

    abbrev payload : List ℕ
    payload = waiting_bytes k.devices t

    last_kept : Kept k last
    last_kept =
        let kept : Kept between last = freed_kept laws show end release between n t new between_good accepted ready x in
        let owners : F.owners ≡ k.memory.frames.owners = same_owners k n t g found inward outboard weak F payload landing in
        let back : (f : ℕ) → KeepsOwner (owner_at F f) (owner_at new.memory.frames f) → KeepsOwner (owner_at k.memory.frames f) (owner_at new.memory.frames f) = λ f h. subst (λ (os : List Owner). KeepsOwner (slice_index_or os f Free) (owner_at new.memory.frames f)) owners h in
        record {
          lent = λ j f a b y had has. back f (kept.lent j f a b (record { was = y.was; is = y.is }) had has);
          pooled = λ d f on still. back f (kept.pooled d f on still);
          fresh = λ j f a b y. kept.fresh j f a b (record { was = y.was; is = y.is });
        }

    pub last_settled : IsSettled last
    last_settled = freed_settled laws show end release between n t new between_good accepted ready x

    last_sized : (v : StoreView) → IsSized k.memory v → IsSized last.memory v
    last_sized v s = let same = same_page k n t g found inward outboard weak F payload landing in record { count = s.count; page = s.page ∙ sym (x.back.loans.page ∙ x.back.wires.only.page ∙ same) }

    last_landed : IfSome (find (has_number n) k.transfers) (λ (u : Transfer). new.memory.frames.landed ≤ k.memory.frames.landed + u.stored)
    last_landed = subst (λ (o : Option Transfer). IfSome o (λ (u : Transfer). new.memory.frames.landed ≤ k.memory.frames.landed + u.stored)) (sym found)
        (let a = x.back.loans.landed in let b = x.back.wires.only.landed in let most = most_landed k n t g found inward outboard weak F payload landing in let less = few k n t g found inward outboard in omega (arith, a, b, most, less))

    last_rises : MetersRise (2 ^ 35) k.memory.frames new.memory.frames
    last_rises =
        let few : length payload ≤ 2 ^ 35 = (let most = small k n t g found inward outboard in omega (arith, most)) in
        rises_back (2 ^ 35) t k.memory.frames F new.memory.frames (rises_lands (length payload) (2 ^ 35) k.memory.frames F few (same_meters k n t g found inward outboard weak F payload landing) (most_landed k n t g found inward outboard weak F payload landing)) x.back

    module _ (owner : t.owner ≡ Some p) (q : Region) (names : region_number t ≡ Some q.id.0) (there : find (has_id q.id.0) (owned_regions k.spaces.processes) ≡ Some q) where
      -- what is seen afterwards, over slots that have a page each
      shown : (slots rests sents : ℕ → List ℕ) → HavePages k.memory slots → state_of last (bytes_over last.memory slots rests sents) ≡ tidy (put (without_transfer (state_of k (bytes_over k.memory slots rests sents)) n) q.id.0 t.offset payload)
      shown slots rests sents have =
          let page = k.memory.frames.page in
          let count = length k.memory.slots in
          let full : ℕ → List ℕ = padded page count slots in
          let mem = landed k n t g found inward outboard weak F payload landing in
          let one : state_of k (bytes_over mem full rests sents) ≡ put (state_of k (bytes_over k.memory full rests sents)) q.id.0 t.offset payload = landed_state k n t g found inward outboard weak F payload landing (laws.settled k g) q names there full (padded_paged k.memory slots have) (short k n t g found inward outboard) rests sents in
          let two : state_of k (bytes_over mem full rests sents) ≡ put (state_of k (bytes_over k.memory slots rests sents)) q.id.0 t.offset payload = subst (λ (z : Seen). state_of k (bytes_over mem full rests sents) ≡ put (state_of k (record { seen = z; rests = rests; sents = sents })) q.id.0 t.offset payload) (seen_padded k.memory slots page count g.sound refl) one in
          let three : state_of k (bytes_over mem slots rests sents) ≡ put (state_of k (bytes_over k.memory slots rests sents)) q.id.0 t.offset payload = subst (λ (z : Seen). state_of k (record { seen = z; rests = rests; sents = sents }) ≡ put (state_of k (bytes_over k.memory slots rests sents)) q.id.0 t.offset payload) (seen_padded mem slots page count (landed_sound k n t g found inward outboard weak F payload landing) refl) two in
          freed_shown laws show end release between n t new between_good accepted ready x slots rests sents
          ∙ ap (λ (z : flat.State). tidy (without_transfer z n)) three

      -- where nothing is put, the region stays as it is
      nothing_put : put (without_transfer (blanked n (outline k)) n) q.id.0 t.offset [] ≡ without_transfer (outline k) n
      nothing_put = put_nothing (without_transfer (blanked n (outline k)) n) q.id.0 t.offset ∙ ap (λ ts. record (outline k) { transfers = ts }) (without_blank n (outline k).transfers)

      last_outline : outline last ≡ tidy (put (without_transfer (blanked n (outline k)) n) q.id.0 t.offset [])
      last_outline = freed_outline laws show end release between n t new between_good accepted ready x ∙ sym (ap tidy nothing_put)

      -- the flat machine puts the payload there
      module _ (class : class_of t.sem ≡ Share) where
        abbrev answer : Reply
        answer = reply.Input None t.stored t.note

        share_fin : (b : Bytes) → finish (state_of k b) n ≡ outcome (put (without_transfer (state_of k b) n) q.id.0 t.offset payload) answer
        share_fin b =
            let s : flat.State = without_transfer (state_of k b) n in
            found_finish k b n t found ∙ ap (finish_for s (seen_as k b t)) owner
            ∙ share_put s (seen_as k b t) p (region_view b.seen.entry_bytes q) inward class (late k n t g found inward outboard b) (region_there k n t g found inward outboard b q names there)
            ∙ ap (λ l. outcome (put s q.id.0 t.offset l) answer) (payload_is k n t g found inward outboard b x.buffer x.mine)

        -- and where there is none, it leaves the region as it is
        blank_fin : finish (blanked n (outline k)) n ≡ outcome (put (without_transfer (blanked n (outline k)) n) q.id.0 t.offset []) answer
        blank_fin =
            let z : Bytes = no_bytes k.config.page in
            let s : flat.State = without_transfer (blanked n (outline k)) n in
            ap (finish_found (blanked n (outline k)) n) (pending_blank n (outline k) ∙ ap (option_map blank) (pending_view k z n ∙ ap (option_map (seen_as k z)) found))
            ∙ ap (finish_for s (blank (seen_as k z t))) owner
            ∙ share_put s (blank (seen_as k z t)) p (region_view z.seen.entry_bytes q) inward class (late k n t g found inward outboard z) (region_there k n t g found inward outboard z q names there)

        share_orderly : IsOrderly (outline last)
        share_orderly =
            let s : flat.State = blanked n (outline k) in
            laws.orderly s (outline last) (Finish n) answer refl (accepts_blank n (outline k) accepted) (quiet_steps s (outline last) n answer (put (without_transfer s n) q.id.0 t.offset []) blank_fin refl last_outline) (blank_orderly n (outline k) g.orderly)

        -- the end of a share input, whose bytes are in its region
        pub share_landed : EndsLanded k n new answer
        share_landed = subst (λ (z : Kernel). EndsLanded k n z answer) (sym x.only) (record {
          ends = record {
            good = laws.good last last_settled share_orderly;
            sized = last_sized;
            kept = last_kept;
            step = λ slots rests sents have. quiet_steps (state_of k (bytes_over k.memory slots rests sents)) (state_of last (bytes_over last.memory slots rests sents)) n answer (put (without_transfer (state_of k (bytes_over k.memory slots rests sents)) n) q.id.0 t.offset payload) (share_fin (bytes_over k.memory slots rests sents)) refl (shown slots rests sents have);
            config = refl;
            numbers = refl;
            unfailed = refl;
            rises = last_rises;
          };
          meters = x.back.loans.meters ∙ x.back.wires.only.meters ∙ same_meters k n t g found inward outboard weak F payload landing;
          landed = last_landed;
        })

      -- and of a weak move input, whose region becomes Live
      module _ (change : ChangeLaws) (class : class_of t.sem ≡ WeakMove) (pid : ℕ) (regions : List Region) (had : entry k.spaces.processes pid ≡ Some regions) (finds : find (has_id q.id.0) regions ≡ Some q) where
        abbrev moved_answer : Reply
        moved_answer = reply.Input (Some (q.start * k.config.page)) t.stored t.note

        abbrev turned : flat.State → flat.State
        turned s = change_region s q.id.0 (with_state state.Live)

        abbrev pub moved : Kernel
        moved = lively last pid q.id.0 regions

        live_of : (b : Bytes) → state_of moved b ≡ turned (state_of last b)
        live_of b = live_state change last last_settled pid regions q had finds b

        moved_fin : (b : Bytes) → finish (state_of k b) n ≡ outcome (turned (put (without_transfer (state_of k b) n) q.id.0 t.offset payload)) moved_answer
        moved_fin b =
            let s : flat.State = without_transfer (state_of k b) n in
            found_finish k b n t found ∙ ap (finish_for s (seen_as k b t)) owner
            ∙ moved_put s (seen_as k b t) p (region_view b.seen.entry_bytes q) inward class (late k n t g found inward outboard b) (region_there k n t g found inward outboard b q names there)
            ∙ ap (λ l. outcome (turned (put s q.id.0 t.offset l)) moved_answer) (payload_is k n t g found inward outboard b x.buffer x.mine)

        moved_blank : finish (blanked n (outline k)) n ≡ outcome (turned (put (without_transfer (blanked n (outline k)) n) q.id.0 t.offset [])) moved_answer
        moved_blank =
            let z : Bytes = no_bytes k.config.page in
            let s : flat.State = without_transfer (blanked n (outline k)) n in
            ap (finish_found (blanked n (outline k)) n) (pending_blank n (outline k) ∙ ap (option_map blank) (pending_view k z n ∙ ap (option_map (seen_as k z)) found))
            ∙ ap (finish_for s (blank (seen_as k z t))) owner
            ∙ moved_put s (blank (seen_as k z t)) p (region_view z.seen.entry_bytes q) inward class (late k n t g found inward outboard z) (region_there k n t g found inward outboard z q names there)

        moved_orderly : IsOrderly (outline moved)
        moved_orderly =
            let s : flat.State = blanked n (outline k) in
            let is : outline moved ≡ tidy (turned (put (without_transfer s n) q.id.0 t.offset [])) = live_of (no_bytes k.config.page) ∙ ap turned last_outline in
            laws.orderly s (outline moved) (Finish n) moved_answer refl (accepts_blank n (outline k) accepted) (quiet_steps s (outline moved) n moved_answer (turned (put (without_transfer s n) q.id.0 t.offset [])) moved_blank refl is) (blank_orderly n (outline k) g.orderly)

        -- the end of a weak move input, whose bytes are in its region
        pub moved_landed : EndsLanded k n moved moved_answer
        moved_landed = record {
          ends = record {
            good = live_good change last last_settled pid regions q had finds moved_orderly;
            sized = last_sized;
            kept = record { lent = λ j f a b y. last_kept.lent j f a b (record { was = y.was; is = y.is }); pooled = last_kept.pooled; fresh = λ j f a b y. last_kept.fresh j f a b (record { was = y.was; is = y.is }) };
            step = λ slots rests sents have. quiet_steps (state_of k (bytes_over k.memory slots rests sents)) (state_of moved (bytes_over last.memory slots rests sents)) n moved_answer (turned (put (without_transfer (state_of k (bytes_over k.memory slots rests sents)) n) q.id.0 t.offset payload)) (moved_fin (bytes_over k.memory slots rests sents)) refl (live_of (bytes_over last.memory slots rests sents) ∙ ap turned (shown slots rests sents have));
            config = refl;
            numbers = refl;
            unfailed = refl;
            rises = last_rises;
          };
          meters = x.back.loans.meters ∙ x.back.wires.only.meters ∙ same_meters k n t g found inward outboard weak F payload landing;
          landed = last_landed;
        }

-- what is known where a call has landed and ended, and the region that it named was found afterwards
pub record IsOver (k : Kernel) (n : ℕ) (F : FrameTable) (new : Kernel) (t u : Transfer) (o : OwnedRegion) : Type 0 where
  pub same : u ≡ t
  pub ends : EndsWaiting n (record k { memory = record (k.memory) { frames = F } }) new t
  pub spaces : new.spaces ≡ k.spaces
  pub had : IsHad k t o

pub is_over : (k start : Kernel) (n : ℕ) (new : Kernel) (t u : Transfer) (o : OwnedRegion) → start ≡ record k { memory = record (k.memory) { frames = start.memory.frames } } → find (has_number n) k.transfers ≡ Some t → EndsWaiting n start new u → IsNamed new.spaces u o → IsOver k n start.memory.frames new t u o
is_over k start n new t u o only found ends named =
    let at : EndsWaiting n (record k { memory = record (k.memory) { frames = start.memory.frames } }) new u = subst (λ (j : Kernel). EndsWaiting n j new u) only ends in
    let same = same_call k n t u found at.found in
    let spaces : new.spaces ≡ k.spaces = ap (λ (j : Kernel). j.spaces) at.only in
    record {
      same = same;
      ends = subst (λ (v : Transfer). EndsWaiting n (record k { memory = record (k.memory) { frames = start.memory.frames } }) new v) same at;
      spaces = spaces;
      had = is_had k t o (subst (λ (v : Transfer). IsNamed k.spaces v o) same (subst (λ (s : AddressSpaces). IsNamed s u o) spaces named));
    }
