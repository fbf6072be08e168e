-- A copy input on an outboard device ends, whose bytes are stored in its range.
use Rattle.std.proofs.Common.{◌≡◌, ℕ, ◌+◌, ◌-◌, ◌*◌, ◌/◌, ◌^◌, ◌≤◌, Bool, true, false, List, [], refl, sym, ap, subst, arith, ◌∙◌, length, take, find, get_or, inl, inr}
use Rattle.std.specs.Prelude.{All, Some, None, ◌⊎◌, if◌then◌else◌}
use Rattle.std.specs.Option.{option_map}
use Rattle.genie_base.specs.Bytes.{overlaid}
use Rattle.genie_base.specs.Counts.{span}
use Rattle.genie_base.specs.declared.event.Event.TheVariants.{Finish}
use Rattle.genie_base.specs.declared.reply.Reply.{Reply}
use Rattle.genie_base.specs.declared.reply.Reply.TheVariants as reply
use Rattle.genie_base.specs.declared.semantics.Class.TheVariants.{Copy}
use Rattle.genie_frame.specs.declared.frame.Owner.{Owner}
use Rattle.genie_frame.specs.declared.frame.Owner.TheVariants.{Nobody}
use Rattle.genie_hiding.specs.Hidden.{is_among, objects_of}
use Rattle.genie_store.specs.StoreView.{StoreView}
use Rattle.genie_object.specs.declared.memory.Memory.{Memory}
use Rattle.genie_object.specs.declared.objects.Range.{Range}
use Rattle.genie_object.specs.Memory.{Seen, seen}
use Rattle.genie_object.specs.Touching.{is_in_range}
use Rattle.genie_plan.specs.Landings.{entries_bytes}
use Rattle.genie_region.specs.declared.region.Region.{Region}
use Rattle.genie_model.specs.Ending.{finish, finish_copy, finish_for, finish_found, finish_input, finish_owned, without_transfer}
use Rattle.genie_model.specs.Inputs.{address_or_zero}
use Rattle.genie_model.specs.Lemmas.Lists.{Has, find_has, has_at}
use Rattle.genie_model.specs.Pending.{is_ready}
use Rattle.genie_model.specs.Refusing.{refuse}
use Rattle.genie_model.specs.Regions as model
use Rattle.genie_model.specs.Space.{tidy}
use Rattle.genie_model.specs.State as flat
use Rattle.genie_orderly.specs.Orderly.{IsOrderly}
use Rattle.genie_kernel.specs.declared.kernel.Kernel.{Kernel}
use Rattle.genie_kernel.specs.declared.transfer.Transfer.{Transfer}
use Rattle.genie_kernel.specs.Backed.{AreGuarded}
use Rattle.genie_kernel.specs.Calls.{addr_of, first_waiting, has_number, is_copy_input}
use Rattle.genie_kernel.specs.Good.{IsGood}
use Rattle.genie_kernel.specs.Kept.{Kept, KeepsOwner}
use Rattle.genie_kernel.specs.Regions.{owned_regions, region_view}
use Rattle.genie_kernel.specs.Steps.{StepsTold, bytes_over}
use Rattle.genie_kernel.specs.Transfers.{buffer_bytes, input_bytes, payload_of}
use Rattle.genie_kernel.specs.View.{Bytes, no_bytes, outline, state_of, view}
use Rattle.genie_kernel.specs.Lemmas.Keeping.{guards_kept, transfer_lent}
use Rattle.genie_kernel.specs.Rising.{MetersRise}
use Rattle.genie_kernel.specs.Lemmas.Rising.{rises_most, rises_on}
use Rattle.genie_changes.specs.Making.{IsMoved}
use Rattle.genie_changes.specs.Paged.{HavePages, IsPaged, PagedIsTold, StepsPaged}
use Rattle.genie_changes.specs.Released.{BuffersShow, ReleasedEnds, ReleasedShows}
use Rattle.genie_changes.specs.Settled.{IsSettled}
use Rattle.genie_arrivals.specs.CopyLaws.{CopyLaws}
use Rattle.genie_arrivals.specs.EndLaws.{EndLaws}
use Rattle.genie_arrivals.specs.Failing.{Serves}
use Rattle.genie_arrivals.specs.FreshStored.{StoresBytes}
use Rattle.genie_arrivals.specs.Outboard.{IsOutboardInput, fetched, waiting_bytes}
use Rattle.genie_arrivals.specs.SwapLaws.{SwapLaws}
use Rattle.genie_arrivals.specs.Targets.{IsTarget}
use Rattle.genie_arrivals.specs.Waiting.{EndsWaiting}
use Rattle.genie_arrivals.proofs.Blank.{accepts_blank, blank, blank_orderly, blanked, pending_blank, put_nothing, without_blank}
use Rattle.genie_arrivals.proofs.Buffered.{freed, freed_kept, freed_outline, freed_settled, freed_shown}
use Rattle.genie_arrivals.proofs.Closing.{refused_alike}
use Rattle.genie_arrivals.proofs.Found.{pending_view, seen_as}
use Rattle.genie_arrivals.proofs.Paging.{padded, padded_paged, seen_padded}
use Rattle.genie_arrivals.proofs.Putting.{PutsBytes, put_state}
use Rattle.genie_arrivals.proofs.Reaching.{write_view}
use Rattle.genie_arrivals.proofs.Readying.{is_roomy, other_object, range_silent, range_unhidden, target_backed, target_owned, unspoken}
use Rattle.genie_arrivals.proofs.Replying.{input_finish, outcome, quiet_steps}
use Rattle.genie_arrivals.proofs.Rising.{rises_back}
use Rattle.genie_arrivals.proofs.WeakPlan.{outboard_at}
use Rattle.genie_arrivals.proofs.Written.{lent_kept, pooled_kept, written, written_good}

copied : (s : flat.State) (v : flat.Transfer) (r : flat.Region) (a : ℕ) (bytes : List ℕ) → address_or_zero v.addr ≡ a → v.payload ≡ bytes → finish_copy s v (Some r) ≡ outcome (model.put s r.number (a - r.start * s.config.page) bytes) (reply.Input None v.stored v.note)
copied s v r a bytes at is = λ i. outcome (model.put s r.number (at i - r.start * s.config.page) (is i)) (reply.Input None v.stored v.note)

pub kept_on : (a b c : Owner) → KeepsOwner a b → KeepsOwner b c → KeepsOwner a c
kept_on a b c x y = record { owner = joined y.owner x.owner; unfreed = y.unfreed }
  where
    joined : (c ≡ b) ⊎ (c ≡ Nobody) → (b ≡ a) ⊎ (b ≡ Nobody) → (c ≡ a) ⊎ (c ≡ Nobody)
    joined (inl same) (inl was) = inl (same ∙ was)
    joined (inl same) (inr left) = inr (same ∙ left)
    joined (inr left) was = inr left

module _ (laws : EndLaws) (show : BuffersShow) (end : ReleasedEnds) (release : ReleasedShows) (room : CopyLaws) (swap : SwapLaws) (told : PagedIsTold) (k mid : Kernel) (v w : StoreView) (n : ℕ) (t : Transfer) (range : Range) (m : Memory) (accepted : refuse (outline k) (Finish n) ≡ None) (moved : IsMoved k mid v w) (faults : w.faults ≡ v.faults) (paged : IsPaged w) (found : find (has_number n) mid.transfers ≡ Some t) (ready : is_ready t.phase ≡ true) (is : IsOutboardInput Copy mid.devices t) (target : IsTarget mid t range) (size : range.len ≡ length (waiting_bytes mid.devices t)) (x : StoresBytes mid.memory m range.object.0 range.off (waiting_bytes mid.devices t)) where
  abbrev pub g : IsGood mid
  g = moved.good

  abbrev r : Region
  r = target.region

  abbrev pub payload : List ℕ
  payload = waiting_bytes mid.devices t

  abbrev off : ℕ
  off = t.addr - r.start * mid.config.page

  abbrev answer : Reply
  answer = reply.Input None t.stored t.note

  refused : refuse (outline mid) (Finish n) ≡ None
  refused = refused_alike k mid v w n moved accepted

  abbrev pub spoken : ℕ → ℕ → Bool
  spoken = is_in_range range.object.0 (range.off / mid.memory.frames.page) (span mid.memory.frames.page range.off (length payload))

  pub unhidden : (a i : ℕ) → is_among a (objects_of mid.hidden) ≡ true → spoken a i ≡ false
  unhidden a i among = unspoken range.object.0 (range.off / mid.memory.frames.page) (span mid.memory.frames.page range.off (length payload)) a i (other_object range.object.0 a (objects_of mid.hidden) (range_unhidden room mid n t range g found is.class_is is.inward target) among)

  silent : All (λ (q : Region). q.writable ≡ false → (i : ℕ) → spoken q.object.0 i ≡ false) (owned_regions mid.spaces.processes)
  silent j d l shut i = unspoken range.object.0 (range.off / mid.memory.frames.page) (span mid.memory.frames.page range.off (length payload)) (get_or (owned_regions mid.spaces.processes) j d).object.0 i (range_silent room mid n t range g found is.class_is is.inward target (get_or (owned_regions mid.spaces.processes) j d) (has_at (owned_regions mid.spaces.processes) j d l) shut)

  pub guarded : AreGuarded m.objects (owned_regions mid.spaces.processes)
  guarded = guards_kept spoken mid.memory m (owned_regions mid.spaces.processes) x.touches silent g.guarded

  abbrev pub between : Kernel
  between = written swap mid g m range.object.0 range.off payload x unhidden guarded

  pub between_good : IsGood between
  between_good = written_good swap mid g m range.object.0 range.off payload x unhidden guarded

  module _ (new : Kernel) (z : EndsWaiting n (record mid { memory = m }) new t) where
    abbrev last : Kernel
    last = freed laws show end release between n t new between_good refused ready z

    last_settled : IsSettled last
    last_settled = freed_settled laws show end release between n t new between_good refused ready z

    last_kept : Kept mid last
    last_kept =
        let kept : Kept between last = freed_kept laws show end release between n t new between_good refused ready z in
        record {
          lent = λ j f a b y had has. kept_on _ _ _ (lent_kept swap mid g m range.object.0 range.off payload x unhidden guarded f (transfer_lent mid f a g (find_has (has_number j) mid.transfers a y.was).0 had)) (kept.lent j f a b (record { was = y.was; is = y.is }) had has);
          pooled = λ d f on still. kept_on _ _ _ (pooled_kept swap mid g m range.object.0 range.off payload x unhidden guarded f d (g.owners.pool_frames f d on)) (kept.pooled d f on still);
          fresh = λ j f a b y. kept.fresh j f a b (record { was = y.was; is = y.is });
        }

    -- the payload is what lies in its device's memory
    payload_is : (b : Bytes) → (seen_as mid b t).payload ≡ payload
    payload_is b =
        let at = outboard_at mid t.dev g is.outboard in
        ap (payload_of b.seen.kept_bytes mid.devices mid.pools (first_waiting mid.transfers) t) is.inward
        ∙ ap (input_bytes b.seen.kept_bytes mid.devices mid.pools t) z.mine
        ∙ (λ i. take t.stored (buffer_bytes b.seen.kept_bytes (at.there i) (at.unpooled i) z.buffer))
        ∙ sym (λ i. take t.stored (fetched (at.there i) (z.mine i)))

    addr : address_or_zero (addr_of t) ≡ t.addr
    addr = ap (λ (b : Bool). address_or_zero (if b then Some t.addr else None)) (λ i. is_copy_input (is.class_is i) (is.inward i))

    reached : (b : Bytes) → model.write_reach_of (state_of mid b) target.pid (address_or_zero (addr_of t)) t.len ≡ Some (region_view b.seen.entry_bytes r)
    reached b = ap (λ a. model.write_reach_of (state_of mid b) target.pid a t.len) addr ∙ write_view mid b target.pid t.addr t.len ∙ ap (option_map (region_view b.seen.entry_bytes)) target.reached

    fin : (b : Bytes) → finish (state_of mid b) n ≡ outcome (model.put (without_transfer (state_of mid b) n) r.id.0 off payload) answer
    fin b =
        let s : flat.State = without_transfer (state_of mid b) n in
        input_finish mid b n target.pid t Copy found target.owner is.inward is.class_is
        ∙ ap (finish_copy s (seen_as mid b t)) (reached b)
        ∙ copied s (seen_as mid b t) (region_view b.seen.entry_bytes r) t.addr payload addr (payload_is b)

    -- and where it has none, it leaves the region as it is
    abbrev bare : flat.State
    bare = blanked n (outline mid)

    blank_fin : finish bare n ≡ outcome (model.put (without_transfer bare n) r.id.0 off []) answer
    blank_fin =
        let b : Bytes = no_bytes mid.config.page in
        let s : flat.State = without_transfer bare n in
        let u : flat.Transfer = blank (seen_as mid b t) in
        ap (finish_found bare n) (pending_blank n (outline mid) ∙ ap (option_map blank) (pending_view mid b n ∙ ap (option_map (seen_as mid b)) found))
        ∙ ap (finish_for s u) target.owner
        ∙ ap (finish_owned s target.pid u) is.inward
        ∙ ap (finish_input s target.pid u) is.class_is
        ∙ ap (finish_copy s u) (reached b)
        ∙ copied s u (region_view b.seen.entry_bytes r) t.addr [] addr refl

    nothing_put : model.put (without_transfer bare n) r.id.0 off [] ≡ without_transfer (outline mid) n
    nothing_put = put_nothing (without_transfer bare n) r.id.0 off ∙ ap (λ ts. record (outline mid) { transfers = ts }) (without_blank n (outline mid).transfers)

    last_outline : outline last ≡ tidy (model.put (without_transfer bare n) r.id.0 off [])
    last_outline = freed_outline laws show end release between n t new between_good refused ready z ∙ sym (ap tidy nothing_put)

    orderly : IsOrderly (outline last)
    orderly = laws.orderly bare (outline last) (Finish n) answer refl (accepts_blank n (outline mid) refused) (quiet_steps bare (outline last) n answer (model.put (without_transfer bare n) r.id.0 off []) blank_fin refl last_outline) (blank_orderly n (outline mid) g.orderly)

    owned : Has r (owned_regions mid.spaces.processes)
    owned = target_owned room mid n t range g found is.class_is is.inward target

    puts : (slots : ℕ → List ℕ) → ((s : ℕ) → length (slots s) ≡ mid.memory.frames.page) → PutsBytes (seen mid.memory slots).entry_bytes (seen m slots).entry_bytes r.object.0 r.pages off payload
    puts slots all =
        let shows = x.shows slots all in
        let roomy = is_roomy room mid n t range g found is.class_is is.inward target in
        let object : range.object.0 ≡ r.object.0 = (λ i. (target.object_is i).0) in
        let long = ap (λ o. length (get_or mid.memory.objects o [])) object ∙ target_backed room mid n t range g found is.class_is is.inward target in
        let whole : range.off / mid.config.page + span mid.config.page range.off range.len ≤ r.pages = subst (λ l. range.off / mid.config.page + span mid.config.page range.off range.len ≤ l) long roomy.within in
        let within : range.off / mid.memory.frames.page + span mid.memory.frames.page range.off (length payload) ≤ r.pages = subst (λ l. range.off / mid.memory.frames.page + span mid.memory.frames.page range.off l ≤ r.pages) size (subst (λ p. range.off / p + span p range.off range.len ≤ r.pages) (sym g.sized.page) whole) in
        let one : entries_bytes (seen m slots) range.object.0 0 r.pages ≡ overlaid range.off payload (entries_bytes (seen mid.memory slots) range.object.0 0 r.pages) = shows.range r.pages within in
        let two = subst (λ o. entries_bytes (seen m slots) o 0 r.pages ≡ overlaid range.off payload (entries_bytes (seen mid.memory slots) o 0 r.pages)) object one in
        record {
          range = subst (λ p. entries_bytes (seen m slots) r.object.0 0 r.pages ≡ overlaid p payload (entries_bytes (seen mid.memory slots) r.object.0 0 r.pages)) target.place two;
          others = λ a b ne. shows.objects a b (λ e. ne (e ∙ object));
        }

    -- what is seen afterwards, over slots that have a page each
    shown : (slots rests sents : ℕ → List ℕ) → HavePages mid.memory slots → state_of last (bytes_over last.memory slots rests sents) ≡ tidy (model.put (without_transfer (state_of mid (bytes_over mid.memory slots rests sents)) n) r.id.0 off payload)
    shown slots rests sents have =
        let page = mid.memory.frames.page in
        let count = length mid.memory.slots in
        let full : ℕ → List ℕ = padded page count slots in
        let all = padded_paged mid.memory slots have in
        let shows = x.shows full all in
        let kept : seen m full ≡ record { entry_bytes = (seen m full).entry_bytes; kept_bytes = (seen mid.memory full).kept_bytes } = (λ i. record { entry_bytes = (seen m full).entry_bytes; kept_bytes = λ f. shows.others f i }) in
        let one : state_of mid (bytes_over m full rests sents) ≡ model.put (state_of mid (bytes_over mid.memory full rests sents)) r.id.0 off payload = ap (λ (s : Seen). state_of mid (record { seen = s; rests = rests; sents = sents })) kept ∙ put_state mid g r owned (seen mid.memory full).entry_bytes (seen m full).entry_bytes (seen mid.memory full).kept_bytes off payload (puts full all) rests sents in
        let two : state_of mid (bytes_over m full rests sents) ≡ model.put (state_of mid (bytes_over mid.memory slots rests sents)) r.id.0 off payload = subst (λ (s : Seen). state_of mid (bytes_over m full rests sents) ≡ model.put (state_of mid (record { seen = s; rests = rests; sents = sents })) r.id.0 off payload) (seen_padded mid.memory slots page count g.sound refl) one in
        let three : state_of mid (bytes_over m slots rests sents) ≡ model.put (state_of mid (bytes_over mid.memory slots rests sents)) r.id.0 off payload = subst (λ (s : Seen). state_of mid (record { seen = s; rests = rests; sents = sents }) ≡ model.put (state_of mid (bytes_over mid.memory slots rests sents)) r.id.0 off payload) (seen_padded m slots page count x.sound (sym x.keeps.slots)) two in
        freed_shown laws show end release between n t new between_good refused ready z slots rests sents
        ∙ ap (λ (s : flat.State). tidy (without_transfer s n)) three

    steps_paged : StepsPaged mid (Finish n) last answer
    steps_paged slots rests sents have = quiet_steps (state_of mid (bytes_over mid.memory slots rests sents)) (state_of last (bytes_over last.memory slots rests sents)) n answer (model.put (without_transfer (state_of mid (bytes_over mid.memory slots rests sents)) n) r.id.0 off payload) (fin (bytes_over mid.memory slots rests sents)) refl (shown slots rests sents have)

    pub copy_landed : MetersRise (2 ^ 22) k.memory.frames mid.memory.frames → Serves k (Finish n) new v w answer
    copy_landed rises = subst (λ (j : Kernel). Serves k (Finish n) j v w answer) (sym z.only) (record {
      good = laws.good last last_settled orderly;
      sized = record { count = moved.sized.count ∙ sym x.keeps.slots; page = moved.sized.page ∙ sym x.keeps.page ∙ sym (z.back.loans.page ∙ z.back.wires.only.page) };
      kept = room.kept k mid last v w moved last_kept;
      config = ap (λ (j : Kernel). j.config) moved.only;
      numbers = ap (λ (j : Kernel). j.next) moved.only;
      step = λ host. subst (λ s. StepsTold s (Finish n) (view last host w) answer) (moved.told host) (told mid last (Finish n) answer host w refused refl moved.sized paged steps_paged);
      cause = faults;
      rises = rises_most (2 ^ 22 + 2 ^ 34) (2 ^ 36) k.memory.frames new.memory.frames (omega arith) (rises_on (2 ^ 22) (2 ^ 34) k.memory.frames mid.memory.frames new.memory.frames rises (rises_back (2 ^ 34) t mid.memory.frames m.frames new.memory.frames x.rises z.back));
    })
