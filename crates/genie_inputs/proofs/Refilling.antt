-- An input into a region that was moved out before.
use Rattle.std.proofs.Common.{◌≡◌, ℕ, ◌+◌, ◌-◌, ◌*◌, ◌/◌, ◌<◌, ◌≤◌, ◌^◌, Bool, true, false, not, List, [], ◌∷◌, refl, sym, ap, ap₂, subst, arith, ◌∙◌, length, get_or, eqb-true}
use Rattle.std.specs.Prelude.{Option, Some, None, IsTrue, find, is_some, unwrap_or, ◌&&◌, ◌==◌, if◌then◌else◌}
use Rattle.std.specs.List.{list_any}
use Rattle.std.proofs.lemmas.Bool.{and_parts, eq-eqb}
use Rattle.std.proofs.Math.Nat.{div-add-mod, mod-lt}
use Rattle.genie_base.specs.Counts.{span}
use Rattle.genie_base.specs.Events.{is_whole, has_one}
use Rattle.genie_base.specs.Posted.{Address}
use Rattle.genie_base.specs.Transfers.{class_of, is_emulated, is_strong, is_system}
use Rattle.genie_base.specs.declared.event.Event.{Event}
use Rattle.genie_base.specs.declared.reply.Note.TheVariants.{Whole}
use Rattle.genie_base.specs.declared.reply.Reply.TheVariants as reply
use Rattle.genie_base.specs.declared.semantics.Class.{Class}
use Rattle.genie_base.specs.declared.semantics.Class.TheVariants.{WeakMove}
use Rattle.genie_base.specs.declared.semantics.Direction.TheVariants.{Inward}
use Rattle.genie_hiding.specs.Queues.{is_in, is_number}
use Rattle.genie_hiding.specs.Rooms.{available}
use Rattle.genie_store.specs.StoreView.{StoreView}
use Rattle.genie_object.specs.declared.memory.Memory.{Memory}
use Rattle.genie_object.specs.Lemmas.Lookup.{in_range}
use Rattle.genie_object.specs.Objects.{object_at}
use Rattle.genie_plan.specs.Wiring.{WiresKeep}
use Rattle.genie_region.specs.declared.region.Region.{Region}
use Rattle.genie_region.specs.Layouts.{region_of}
use Rattle.genie_space.specs.Spaces as spaces
use Rattle.genie_model.specs.declared.phase.Phase.TheVariants.{Posted}
use Rattle.genie_model.specs.Inputs as inputs
use Rattle.genie_model.specs.Inputs.{input, input_of, number_or_fresh, pages_for, weak_buffer}
use Rattle.genie_model.specs.Lemmas.Lists.{Has, any_found, find_has, has_any}
use Rattle.genie_model.specs.Pending as pending
use Rattle.genie_model.specs.Pending.{add_transfer}
use Rattle.genie_model.specs.Refusing.{refuse}
use Rattle.genie_model.specs.Regions as model
use Rattle.genie_model.specs.Space.{tidy}
use Rattle.genie_model.specs.State as flat
use Rattle.genie_model.specs.Step.{Outcome, tidied}
use Rattle.genie_model.specs.Tables.{entry}
use Rattle.genie_kernel.specs.declared.kernel.Kernel.{Kernel}
use Rattle.genie_kernel.specs.declared.transfer.Loans.{Loans}
use Rattle.genie_kernel.specs.declared.transfer.Loans.TheVariants.{Nothing, Outward}
use Rattle.genie_kernel.specs.declared.transfer.Loans.TheVariants as ways
use Rattle.genie_kernel.specs.declared.transfer.Transfer.{Transfer}
use Rattle.genie_kernel.specs.Asked.{has_pages, is_reusable}
use Rattle.genie_kernel.specs.Calls.{first_waiting, is_copy_input}
use Rattle.genie_kernel.specs.Good.{IsGood}
use Rattle.genie_kernel.specs.Kept.{Kept}
use Rattle.genie_kernel.specs.Regions.{has_id, owned_regions, process_view, region_view, regions_of}
use Rattle.genie_kernel.specs.Same.{SameNeeded}
use Rattle.genie_kernel.specs.Steps.{Steps, bytes_over}
use Rattle.genie_kernel.specs.Transfers.{transfer_view}
use Rattle.genie_kernel.specs.View.{Bytes, state_of, outline, no_bytes}
use Rattle.genie_kernel.specs.Lemmas.Asking.{ask_regions}
use Rattle.genie_kernel.specs.Lemmas.Processes.{process_entry}
use Rattle.genie_kernel.specs.Lemmas.Tidying.{any_map}
use Rattle.genie_changes.specs.Beginning.{Begins, HasParts, IsNew, with_call}
use Rattle.genie_changes.specs.Making.{with_memory}
use Rattle.genie_changes.specs.States.{begun}
use Rattle.genie_room.specs.Frames.{CallsCanBegin}
use Rattle.genie_spaces.specs.RegionLaws.{RegionLaws}
use Rattle.genie_inputs.specs.declared.call.Call.{Call}
use Rattle.genie_inputs.specs.Calls.{input_event, transfer_of}
use Rattle.genie_inputs.specs.InputLaws.{InputLaws}
use Rattle.genie_inputs.specs.Places.{LendsPages, LendsPlan}
use Rattle.genie_inputs.specs.Posting.{CanPost, IsAnswered, with_input}
use Rattle.genie_inputs.specs.Reusing.{IsReusable, moved_in, pages_of}
use Rattle.genie_inputs.proofs.Accepted.{can_post, has_room, may_input, page_high, page_some}
use Rattle.genie_inputs.proofs.Answered.{call_answers, same_needed}
use Rattle.genie_inputs.proofs.Holding.{can_post_same, some_is}
use Rattle.genie_inputs.proofs.MovedIn.{moved_in_parts, moved_in_state}
use Rattle.genie_inputs.proofs.Readied.{ready_moved}
use Rattle.genie_inputs.proofs.Sharing.{same_view}
use Rattle.genie_inputs.proofs.Targeting.{backed_long, has_owned, pages_within}
use Rattle.genie_inputs.proofs.Weakly.{weak_begins, weak_named}

-- what the flat machine finds in the queue
find_same : (p q : ℕ → Bool) (xs : List ℕ) → ((x : ℕ) → p x ≡ q x) → find p xs ≡ find q xs
find_same p q [] h = refl
find_same p q (x ∷ xs) h = ap₂ (λ b o. if b then Some x else o) (h x) (find_same p q xs h)

queue_at : (s : ℕ → ℕ → List ℕ) (p : Option (List Region)) (q : List ℕ) → is_some p ≡ true → model.queue_of (process_view s p q) ≡ q
queue_at s None q e = absurd (cc)
queue_at s (Some regions) q e = refl

one_reusable : (k : Kernel) (b : Bytes) (p n j : ℕ) → inputs.is_reusable (state_of k b) p n j ≡ is_reusable (regions_of (entry k.spaces.processes p)) k.transfers n j
one_reusable k b p n j = ap₂ (λ x y. x && not y)
    (ap (list_any (inputs.has_pages j n)) (ask_regions k b p) ∙ any_map (inputs.has_pages j n) (region_view b.seen.entry_bytes) (regions_of (entry k.spaces.processes p)))
    (any_map (pending.names j) (transfer_view b.seen.kept_bytes k.devices k.pools (first_waiting k.transfers)) k.transfers)

pub reusable_view : (k : Kernel) (b : Bytes) (p n : ℕ) → is_some (entry k.spaces.processes p) ≡ true → inputs.reusable (state_of k b) p n ≡ find (is_reusable (regions_of (entry k.spaces.processes p)) k.transfers n) (get_or k.queues p [])
reusable_view k b p n alive =
    let s : flat.State = state_of k b in
    let queue : model.queue_of (entry s.processes p) ≡ get_or k.queues p [] = ap model.queue_of (process_entry b.seen.entry_bytes k.spaces.processes k.queues p) ∙ queue_at b.seen.entry_bytes (entry k.spaces.processes p) (get_or k.queues p []) alive in
    ap (find (inputs.is_reusable s p n)) queue ∙ find_same (inputs.is_reusable s p n) (is_reusable (regions_of (entry k.spaces.processes p)) k.transfers n) (get_or k.queues p []) (one_reusable k b p n)

-- the region has a number that is listed, and as many pages as are needed
pub reused_has : (k : Kernel) (c : Call) (r : Region) → IsReusable k c r → Has r (regions_of (entry k.spaces.processes c.pid))
reused_has k c r x = (find_has (has_pages r.id.0 (pages_of k c)) (regions_of (entry k.spaces.processes c.pid)) r x.found).0

pub reused_owned : (k : Kernel) (c : Call) (r : Region) → IsReusable k c r → Has r (owned_regions k.spaces.processes)
reused_owned k c r x = has_owned r k.spaces.processes c.pid (reused_has k c r x)

pub reused_pages : (k : Kernel) (c : Call) (r : Region) → IsReusable k c r → r.pages ≡ pages_of k c
reused_pages k c r x = let both = and_parts (has_id r.id.0 r) (r.pages == pages_of k c) (find_has (has_pages r.id.0 (pages_of k c)) (regions_of (entry k.spaces.processes c.pid)) r x.found).1 in eqb-true r.pages (pages_of k c) both.1

pub reused_found : (k : Kernel) (c : Call) (r : Region) → IsReusable k c r → is_some (region_of r.id (spaces.regions_of c.pid k.spaces)) ≡ true
reused_found k c r x = ap is_some (any_found (has_id r.id.0) (regions_of (entry k.spaces.processes c.pid)) (has_any (has_id r.id.0) r (regions_of (entry k.spaces.processes c.pid)) (reused_has k c r x) (eq-eqb r.id.0 r.id.0 refl))).1

pub reused_listed : (k : Kernel) (c : Call) (r : Region) → IsReusable k c r → is_in r.id.0 (get_or k.queues c.pid []) ≡ true
reused_listed k c r x =
    let there = (find_has (is_reusable (regions_of (entry k.spaces.processes c.pid)) k.transfers (pages_of k c)) (get_or k.queues c.pid []) r.id.0 x.first).0 in
    has_any (is_number r.id.0) r.id.0 (get_or k.queues c.pid []) there (eq-eqb r.id.0 r.id.0 refl)

pub process_low : (k : Kernel) (p : ℕ) → IsGood k → is_some (entry k.spaces.processes p) ≡ true → p < 16
process_low k p good alive =
    let below = in_range k.spaces.processes p None (λ none. let bad : true ≡ false = sym alive ∙ ap is_some none in absurd (cc)) in
    let size = good.spaced.processes in
    omega (arith, below, size)

-- the pages that so many bytes need hold them
pub whole_pages : (page n : ℕ) → 0 < page → n ≤ page * ((n + page - 1) / page)
whole_pages page n some = omega (arith, some, div-add-mod (n + page - 1) page, mod-lt (n + page - 1) some)

-- the lending's conditions
pub weak_room : CallsCanBegin → (k : Kernel) (c : Call) → IsGood k → class_of c.sem ≡ WeakMove → refuse (outline k) (input_event c None) ≡ None → (span k.config.page 0 c.len ≤ 65) × (span k.config.page 0 c.len ≤ available k.memory.frames)
weak_room law k c good is accepted = let room = has_room law k c None WeakMove good is refl accepted in let cost = room.cost in (room.pages, omega (arith, cost))

pub weak_fits : (k : Kernel) (c : Call) → IsGood k → refuse (outline k) (input_event c None) ≡ None → 0 + c.len < 2 ^ 32
weak_fits k c good accepted =
    let short = (may_input k c None good accepted).short in
    let high = page_high k.config.page good.fits.page in
    omega (arith, short, high)

pub weak_within : (k : Kernel) (c : Call) (r : Region) → IsGood k → Has r (owned_regions k.spaces.processes) → r.pages ≡ pages_of k c → 0 / k.config.page + span k.config.page 0 c.len ≤ length (object_at k.memory.objects r.object.0)
weak_within k c r good owned pages =
    let long = backed_long k r good owned in
    let whole = whole_pages k.config.page c.len (page_some k good) in
    let within = pages_within k.config.page 0 c.len (pages_of k c) (page_some k good) (omega (arith, whole)) in
    omega (arith, long, within, pages)

pub weak_whole : (c : Call) → class_of c.sem ≡ WeakMove → IsTrue (is_whole (input_event c None))
weak_whole c is = subst (λ (class : Class). IsTrue (has_one (is_system class) false)) (sym is) refl

refill_does : (k : Kernel) (c : Call) (r : Region) (loans : Loans) → class_of c.sem ≡ WeakMove → is_some (entry k.spaces.processes c.pid) ≡ true → IsReusable k c r → (b : Bytes) (s : ℕ → List ℕ) → ◌≡◌ {A = Outcome} (tidied (input (state_of k b) c.pid (class_of c.sem) (record { device = c.dev; port = c.port; flow = c.flow }) None c.len)) (tidy (add_transfer (inputs.moved_in (state_of k b) r.id.0) (begun s (transfer_of c (record { 0 = k.next }) 0 (Some r.id) 0 loans))), reply.Id k.next)
refill_does k c r loans is alive x b s =
    let st : flat.State = state_of k b in
    let to : Address = record { device = c.dev; port = c.port; flow = c.flow } in
    let again : inputs.reusable st c.pid (pages_for st c.len) ≡ Some r.id.0 = reusable_view k b c.pid (pages_for st c.len) alive ∙ x.first in
    subst
    (λ (class : Class). ◌≡◌ {A = Outcome} (tidied (input st c.pid class to None c.len)) (
      tidy (add_transfer (inputs.moved_in st r.id.0) (record {
        number = k.next;
        owner = Some c.pid;
        direction = Inward;
        class = class;
        device = c.dev;
        port = c.port;
        flow = c.flow;
        addr = if is_copy_input class Inward then Some 0 else None;
        region = Some r.id.0;
        offset = 0;
        len = c.len;
        phase = Posted;
        payload = [];
        staged = 0;
        moved = 0;
        stored = 0;
        note = Whole;
      })),
      reply.Id k.next,
    ))
    (sym is)
    (ap (λ (o : Option ℕ). tidied (add_transfer (weak_buffer st c.pid c.len o) (input_of st c.pid WeakMove to c.len None (number_or_fresh st o) 0), reply.Id k.next)) again)

module _ (wires : WiresKeep) (laws : InputLaws) (rl : RegionLaws) (old md mv : Kernel) (c : Call) (r : Region) (basic : Bool) (loans : Loans) (v w : StoreView) (good : IsGood old) (is : class_of c.sem ≡ WeakMove) (basic_is : basic ≡ not (is_emulated c.sem)) (accepted : refuse (outline old) (input_event c None) ≡ None) (x : IsReusable old c r) (lends : LendsPages old md v w r 0 c.len basic loans) (moves : mv ≡ moved_in md c.pid r.id) where
  abbrev k : Kernel
  k = with_memory old lends.mid lends.clock

  abbrev m : Memory
  m = md.memory

  abbrev rows : List Region
  rows = unwrap_or (entry old.spaces.processes c.pid) []

  alive : is_some (entry old.spaces.processes c.pid) ≡ true
  alive = (may_input old c None good accepted).alive

  there : entry old.spaces.processes c.pid ≡ Some rows
  there = some_is (entry old.spaces.processes c.pid) alive

  pub refill_moved : mv ≡ moved_in (with_memory old m lends.clock) c.pid r.id
  refill_moved = moves ∙ ap (λ (z : Kernel). moved_in z c.pid r.id) lends.only

  pub refill_by : (ls : Loans) → LendsPlan r 0 c.len basic lends.mid m ls → IsAnswered old (with_input (moved_in (with_memory old m lends.clock) c.pid r.id) (transfer_of c (record { 0 = old.next }) 0 (Some r.id) 0 ls)) v w (input_event c None) (reply.Id old.next)
  refill_by Nothing plan = absurd plan
  refill_by (Outward p) plan = absurd plan
  refill_by (ways.Inward p) plan =
      let t : Transfer = transfer_of c (record { 0 = old.next }) 0 (Some r.id) 0 (ways.Inward p) in
      let e : Event = input_event c None in
      let may = may_input old c None good accepted in
      let owned = reused_owned old c r x in
      let weak = ap is_strong is in
      let uncopied = ap (λ class. is_copy_input class Inward) is in
      let good_k : IsGood k = lends.moved.good in
      let new_one : IsNew k t = record { number = refl; phase = refl; unstored = refl; unbuffered = refl } in
      let begins : Begins k m t = weak_begins wires laws.weak k m c (record { 0 = old.next }) r 0 p basic good_k owned weak uncopied basic_is plan may.device in
      let named = weak_named wires laws.weak k m c (record { 0 = old.next }) r 0 p basic good_k owned weak uncopied basic_is plan may.device in
      let h : Kernel = with_call k m t in
      let after : Kernel = with_input (moved_in (with_memory old m lends.clock) c.pid r.id) t in
      let parts : HasParts after = moved_in_parts rl laws.spaced h c.pid r.id.0 rows (laws.parts k m t good_k new_one begins) there in
      let has : list_any (has_id r.id.0) (regions_of (entry old.spaces.processes c.pid)) ≡ true = has_any (has_id r.id.0) r (regions_of (entry old.spaces.processes c.pid)) (reused_has old c r x) (eq-eqb r.id.0 r.id.0 refl) in
      let only = laws.only old c.pid r.id.0 good has in
      let listed = laws.listed old c.pid r.id.0 good only in
      let low : c.pid < length old.queues = let small = process_low old c.pid good alive in let size = good.spaced.queue_places in omega (arith, small, size) in
      let same : IsReusable k c r = record { first = x.first; found = x.found } in
      let step : (a b : Bytes) → b.seen.entry_bytes ≡ a.seen.entry_bytes → b.rests ≡ a.rests → b.sents ≡ a.sents → b.seen.kept_bytes ≡ a.seen.kept_bytes → Steps (state_of k a) e (state_of after b) (reply.Id old.next) =
      λ a b entries rests sents frames.
      let call : state_of h b ≡ add_transfer (state_of k a) (begun b.seen.kept_bytes t) = laws.added k m t h.posted a b (laws.waits k t good_k new_one) named entries rests sents (subst (λ f. SameNeeded (owned_regions k.spaces.processes) k.transfers k.pools a.seen.kept_bytes f) (sym frames) (same_needed k a.seen.kept_bytes)) in
      let does = refill_does k c r (ways.Inward p) is alive same a b.seen.kept_bytes in
      record {
        state = sym (laws.tidied after b) ∙ ap tidy (moved_in_state rl laws.spaced h c.pid r.id.0 rows (laws.parts k m t good_k new_one begins) there low only listed b ∙ ap (λ (z : flat.State). inputs.moved_in z r.id.0) call) ∙ sym (ap (λ (z : Outcome). z.0) does);
        reply_is = sym (ap (λ (z : Outcome). z.1) does);
      } in
      let blind = no_bytes old.config.page in
      let kept : Kept k after = (let y = laws.kept k m t good_k begins in record { lent = λ n f a b s. y.lent n f a b (record { was = s.was; is = s.is }); pooled = y.pooled; fresh = λ n f a b s. y.fresh n f a b (record { was = s.was; is = s.is }) }) in
      call_answers laws old k after m e v lends.middle w (weak_whole c is) accepted (ready_moved old k v lends.middle lends.moved) (same_view k m lends.middle w lends.shows) parts refl refl kept lends.sized
      (step blind blind refl refl refl refl)
      (λ slots rests sents. step (bytes_over m slots rests sents) (bytes_over m slots rests sents) refl refl refl refl)

pub refill_answers : WiresKeep → InputLaws → RegionLaws → (old md mv new : Kernel) (c : Call) (r : Region) (basic : Bool) (loans : Loans) (v w : StoreView) → IsGood old → class_of c.sem ≡ WeakMove → basic ≡ not (is_emulated c.sem) → refuse (outline old) (input_event c None) ≡ None → IsReusable old c r → LendsPages old md v w r 0 c.len basic loans → mv ≡ moved_in md c.pid r.id → new ≡ with_input mv (transfer_of c (record { 0 = old.next }) 0 (Some r.id) 0 loans) → IsAnswered old new v w (input_event c None) (reply.Id old.next)
refill_answers wires laws rl old md mv new c r basic loans v w good is basic_is accepted x lends moves posts =
    let t : Transfer = transfer_of c (record { 0 = old.next }) 0 (Some r.id) 0 loans in
    subst (λ (z : Kernel). IsAnswered old z v w (input_event c None) (reply.Id old.next)) (sym (posts ∙ ap (λ (z : Kernel). with_input z t) (refill_moved wires laws rl old md mv c r basic loans v w good is basic_is accepted x lends moves)))
    (refill_by wires laws rl old md mv c r basic loans v w good is basic_is accepted x lends moves loans lends.plan)

-- there is room for the transfer
pub refill_can_post : InputLaws → (old md mv : Kernel) (c : Call) (r : Region) (basic : Bool) (loans : Loans) (v w : StoreView) → IsGood old → refuse (outline old) (input_event c None) ≡ None → LendsPages old md v w r 0 c.len basic loans → mv ≡ moved_in md c.pid r.id → (t : Transfer) → t.id.0 ≡ old.next → CanPost mv t.id.0
refill_can_post laws old md mv c r basic loans v w good accepted lends moves t is =
    let transfers = ap (λ (z : Kernel). z.transfers) moves ∙ ap (λ (z : Kernel). z.transfers) lends.only in
    let posted = ap (λ (z : Kernel). z.posted) moves ∙ ap (λ (z : Kernel). z.posted) lends.only in
    subst (CanPost mv) (sym is) (can_post_same old mv old.next transfers posted (can_post laws.rise old good (may_input old c None good accepted).few))
