-- An input into a new region, in which a device stores at once.
use Rattle.std.proofs.Common.{◌≡◌, ℕ, ◌+◌, ◌-◌, ◌*◌, ◌/◌, ◌<◌, ◌≤◌, zero, suc, Bool, true, false, not, cond, List, [], ◌∷◌, refl, sym, ap, subst, arith, ◌∙◌, length, replicate, get_or, inl, inr}
use Rattle.std.specs.Prelude.{Option, Some, None, IfSome, find, is_some, unwrap_or, ◌==◌, if◌then◌else◌, slice_set, nat_le}
use Rattle.std.specs.List.{list_any}
use Rattle.std.specs.Option.{option_map}
use Rattle.std.proofs.lemmas.Bool.{eq-eqb, not-true, or_parts}
use Rattle.std.proofs.lemmas.List.{get_or-set_same}
use Rattle.genie_base.specs.Counts.{span}
use Rattle.genie_base.specs.Posted.{Address}
use Rattle.genie_base.specs.Regions.{add_in_order}
use Rattle.genie_base.specs.Transfers.{class_of, is_emulated, is_strong}
use Rattle.genie_base.specs.declared.event.Event.{Event}
use Rattle.genie_base.specs.declared.event.Event.TheVariants.{Alloc}
use Rattle.genie_base.specs.declared.numbers.ObjectId.{ObjectId}
use Rattle.genie_base.specs.declared.region.Area.TheVariants.{Sys}
use Rattle.genie_base.specs.declared.region.RegionState.TheVariants.{In, Live}
use Rattle.genie_base.specs.declared.reply.Note.TheVariants.{Whole}
use Rattle.genie_base.specs.declared.reply.Reply.{Reply}
use Rattle.genie_base.specs.declared.reply.Reply.TheVariants as reply
use Rattle.genie_base.specs.declared.semantics.Class.{Class}
use Rattle.genie_base.specs.declared.semantics.Class.TheVariants.{WeakMove}
use Rattle.genie_base.specs.declared.semantics.Direction.TheVariants.{Inward}
use Rattle.genie_hiding.specs.declared.hidden.Hidden.{Hidden}
use Rattle.genie_hiding.specs.Rooms.{available}
use Rattle.genie_host.specs.Host.{HostView}
use Rattle.genie_store.specs.StoreView.{StoreView}
use Rattle.genie_frame.specs.FrameTable.{FrameTable}
use Rattle.genie_object.specs.declared.memory.Memory.{Memory}
use Rattle.genie_object.specs.Memory.{Seen, seen}
use Rattle.genie_object.specs.Objects.{object_at}
use Rattle.genie_object.specs.Sound.{IsSound}
use Rattle.genie_object.specs.Lemmas.Touching.{keeps_all}
use Rattle.genie_plan.specs.Wiring.{WiresKeep}
use Rattle.genie_region.specs.declared.region.Region.{Region}
use Rattle.genie_region.specs.Layouts.{extent, region_of}
use Rattle.genie_space.specs.Spaces as spaces
use Rattle.genie_orderly.specs.Orderly.{IsOrderly}
use Rattle.genie_model.specs.declared.phase.Phase.TheVariants.{Posted}
use Rattle.genie_model.specs.Inputs as inputs
use Rattle.genie_model.specs.Inputs.{input, input_of, number_or_fresh, pages_for, weak_buffer}
use Rattle.genie_model.specs.Lemmas.Lists.{Has, has_any, none_from, none_has}
use Rattle.genie_model.specs.Pending as pending
use Rattle.genie_model.specs.Pending.{add_transfer}
use Rattle.genie_model.specs.Refusing.{must_make, refuse}
use Rattle.genie_model.specs.Regions as model
use Rattle.genie_model.specs.Regions.{address_of, fresh, place_of}
use Rattle.genie_model.specs.Space.{add_region, remove, tidy, zeros, zeros_at_place}
use Rattle.genie_model.specs.State as flat
use Rattle.genie_model.specs.Step.{Outcome, tidied}
use Rattle.genie_model.specs.Tables.{entry}
use Rattle.genie_kernel.specs.declared.kernel.Kernel.{Kernel}
use Rattle.genie_kernel.specs.declared.transfer.Loans.{Loans}
use Rattle.genie_kernel.specs.declared.transfer.Loans.TheVariants.{Nothing, Outward}
use Rattle.genie_kernel.specs.declared.transfer.Loans.TheVariants as ways
use Rattle.genie_kernel.specs.declared.transfer.Transfer.{Transfer}
use Rattle.genie_kernel.specs.Calls.{first_waiting, is_copy_input, names_weakly}
use Rattle.genie_kernel.specs.Good.{IsGood}
use Rattle.genie_kernel.specs.Kept.{Kept}
use Rattle.genie_kernel.specs.Regions.{has_id, object_bytes, owned_regions, process_view, region_view, regions_of}
use Rattle.genie_kernel.specs.Steps.{Steps, StepsTold, bytes_over}
use Rattle.genie_kernel.specs.Told.{rests_of, sents_of}
use Rattle.genie_kernel.specs.Transfers.{transfer_view}
use Rattle.genie_kernel.specs.View.{Bytes, state_of, outline, no_bytes, bytes_of, bytes_with, view}
use Rattle.genie_kernel.specs.Lemmas.Asking.{ask_place, ask_regions}
use Rattle.genie_kernel.specs.Lemmas.Fresh.{fresh_unnamed, fresh_unowned, fresh_view}
use Rattle.genie_kernel.specs.Lemmas.Keeping.{calls_kept}
use Rattle.genie_kernel.specs.Lemmas.Processes.{process_entry}
use Rattle.genie_kernel.specs.Lemmas.Stepping.{accepted_step}
use Rattle.genie_kernel.specs.Lemmas.Tidying.{any_map}
use Rattle.genie_changes.specs.Beginning.{Begins, HasParts, IsNew, with_call}
use Rattle.genie_changes.specs.Making.{IsMoved, with_memory}
use Rattle.genie_changes.specs.Paged.{HavePages, IsPaged}
use Rattle.genie_changes.specs.Regions.{KeepsBytes, with_added}
use Rattle.genie_changes.specs.Removal.{unlisted, removed_from, OutlinesShowRemoval, RemovalKeeps, RemovalSettles, RemovalShows, RemovalState, RemovesRegion}
use Rattle.genie_changes.specs.Settled.{GoodIsSettled, IsSettled, SettledIsGood}
use Rattle.genie_changes.specs.States.{begun}
use Rattle.genie_room.specs.Frames.{CallsCanBegin}
use Rattle.genie_spaces.specs.Clearing.{Adds, Clears, HasRoom}
use Rattle.genie_spaces.specs.RegionLaws.{RegionLaws}
use Rattle.genie_spaces.specs.Lemmas.Making.{made, seen_made, zero_bytes}
use Rattle.genie_inputs.specs.declared.call.Call.{Call}
use Rattle.genie_inputs.specs.declared.place.Placement.{Placement}
use Rattle.genie_inputs.specs.Calls.{input_event, transfer_of}
use Rattle.genie_inputs.specs.InputLaws.{InputLaws}
use Rattle.genie_inputs.specs.Places.{LendsPages, LendsPlan}
use Rattle.genie_inputs.specs.Placing.{IsPlace, new_region}
use Rattle.genie_inputs.specs.Posting.{CanPost, IsAnswered, with_input}
use Rattle.genie_inputs.specs.Reusing.{with_filled}
use Rattle.genie_inputs.proofs.Accepted.{can_post, may_input}
use Rattle.genie_inputs.proofs.Answered.{same_needed}
use Rattle.genie_inputs.proofs.Enlarged.{enlarged_parts}
use Rattle.genie_inputs.proofs.Holding.{can_post_same, made_blank, some_is}
use Rattle.genie_inputs.proofs.MovedIn.{moved_in_parts, moved_in_state, none_listed}
use Rattle.genie_inputs.proofs.Placing.{may_alloc, may_place}
use Rattle.genie_inputs.proofs.Readied.{kept_on}
use Rattle.genie_inputs.proofs.Refilling.{process_low, reusable_view, weak_room, weak_whole, weak_within}
use Rattle.genie_inputs.proofs.Renewed.{Lacks, new_moved_in, new_removed}
use Rattle.genie_inputs.proofs.Sharing.{same_view}
use Rattle.genie_inputs.proofs.Targeting.{has_owned}
use Rattle.genie_inputs.proofs.Weakly.{weak_begins, weak_named}

-- a change of the state, over whatever is told
map_told : (sa sk : Bytes → flat.State) (ma mk : Memory) (f : flat.State → flat.State) → ((slots rests sents : ℕ → List ℕ) → sa (bytes_over ma slots rests sents) ≡ f (sk (bytes_over mk slots rests sents))) → (slots rests sents : Option (ℕ → List ℕ)) → option_map sa (bytes_with (option_map (seen ma) slots) rests sents) ≡ option_map f (option_map sk (bytes_with (option_map (seen mk) slots) rests sents))
map_told sa sk ma mk f h None rests sents = refl
map_told sa sk ma mk f h (Some slots) None sents = refl
map_told sa sk ma mk f h (Some slots) (Some rests) None = refl
map_told sa sk ma mk f h (Some slots) (Some rests) (Some sents) = ap (λ s. Some s) (h slots rests sents)

map_same : (sa sk : Bytes → flat.State) (f : flat.State → flat.State) → ((b : Bytes) → sa b ≡ f (sk b)) → (o : Option Bytes) → option_map sa o ≡ option_map f (option_map sk o)
map_same sa sk f h None = refl
map_same sa sk f h (Some b) = ap (λ s. Some s) (h b)

map_twice : (f g : flat.State → flat.State) (o : Option flat.State) → option_map g (option_map f o) ≡ option_map (λ s. g (f s)) o
map_twice f g None = refl
map_twice f g (Some s) = refl

told_by : (k : Kernel) (e : Event) (r : Reply) (g : flat.State → flat.State) → refuse (outline k) e ≡ None → ((b : Bytes) → Steps (state_of k b) e (g (state_of k b)) r) → (o : Option Bytes) → StepsTold (option_map (state_of k) o) e (option_map g (option_map (state_of k) o)) r
told_by k e r g accepted h None = tt
told_by k e r g accepted h (Some b) = accepted_step k b e (g (state_of k b)) r accepted (h b)

set_own : {X : Type 0} (xs : List X) (i : ℕ) (d : X) → slice_set xs i (get_or xs i d) ≡ xs
set_own [] i d = refl
set_own (x ∷ xs) zero d = refl
set_own (x ∷ xs) (suc i) d = ap (λ l. x ∷ l) (set_own xs i d)

added_has : (r : Region) (rs : List Region) → Has r (add_in_order extent r rs)
added_has r [] = inl refl
added_has r (x ∷ rs) = elim (nat_le ((extent x).start + (extent x).pages) (extent r).start) as (λ b. Has r (cond b (x ∷ add_in_order extent r rs) (r ∷ x ∷ rs))) [ true ↦ inr (added_has r rs) | false ↦ inl refl ]

none_is : {X : Type 0} (o : Option X) → is_some o ≡ false → o ≡ None
none_is None e = refl
none_is (Some x) e = absurd (cc)

-- a new region that is Live, over a kernel whose hidden regions leave room for it
module _ (laws : InputLaws) (rl : RegionLaws) (settles : GoodIsSettled) (old : Kernel) (cm : Memory) (hid : List Hidden) (c : Call) (at : Placement) (o : ObjectId) (good : IsGood old) (accepted : refuse (outline old) (input_event c None) ≡ None) (must : must_make (outline old) c.pid (class_of c.sem) c.len ≡ true) (place : IsPlace old c at)
    (clears : Clears old (record old { memory = cm; hidden = hid })) (room : HasRoom c.pid (record old { memory = cm; hidden = hid }))
    (absent : object_at cm.objects o.0 ≡ []) (size : length (object_at (made cm o.0 at.pages).objects o.0) ≡ at.pages) (sound : IsSound (made cm o.0 at.pages))
  where
    abbrev n : ℕ
    n = at.id.0

    abbrev p : ℕ
    p = c.pid

    abbrev r : Region
    r = new_region at Live o

    abbrev rows : List Region
    rows = unwrap_or (entry old.spaces.processes p) []

    abbrev wide : spaces.AddressSpaces
    wide = spaces.set_regions old.spaces p (with_added r rows)

    abbrev wider : Kernel
    wider = record old { memory = made cm o.0 at.pages; hidden = hid; spaces = wide }

    abbrev with_zeros : flat.State → flat.State
    with_zeros s = add_region s p (zeros s Sys Live at.start at.pages)

    alive : is_some (entry old.spaces.processes p) ≡ true
    alive = (may_input old c None good accepted).alive

    there : entry old.spaces.processes p ≡ Some rows
    there = some_is (entry old.spaces.processes p) alive

    pub unnamed : list_any (names_weakly n) old.transfers ≡ false
    unnamed = subst (λ j. list_any (names_weakly j) old.transfers ≡ false) (sym place.number) (fresh_unnamed old good.orderly)

    unowned : (i : ℕ) → list_any (has_id n) (regions_of (entry old.spaces.processes i)) ≡ false
    unowned i =
        let none : list_any (has_id n) (owned_regions old.spaces.processes) ≡ false = subst (λ j. list_any (has_id j) (owned_regions old.spaces.processes) ≡ false) (sym place.number) (fresh_unowned old good.orderly) in
        none_from (has_id n) (regions_of (entry old.spaces.processes i)) (λ q h. none_has (has_id n) q (owned_regions old.spaces.processes) (has_owned q old.spaces.processes i h) none)

    pub unlisted_new : (i : ℕ) → is_some (entry old.spaces.processes i) ≡ true → list_any (λ m. m == n) (get_or old.queues i []) ≡ false
    unlisted_new i live = (settles old good).listed i n live (unowned i)

    queue_none : (s : ℕ → ℕ → List ℕ) (q : Option (List Region)) (queue : List ℕ) → (is_some q ≡ true → list_any (λ m. m == n) queue ≡ false) → list_any (λ m. m == n) (model.queue_of (process_view s q queue)) ≡ false
    queue_none s None queue h = refl
    queue_none s (Some rs) queue h = h refl

    pub lacks : (b : Bytes) → Lacks n (state_of old b).processes
    lacks b = record {
      regions = λ i. ap (list_any (model.is_region n)) (ask_regions old b i) ∙ any_map (model.is_region n) (region_view b.seen.entry_bytes) (regions_of (entry old.spaces.processes i)) ∙ unowned i;
      queues = λ i. ap (λ q. list_any (λ m. m == n) (model.queue_of q)) (process_entry b.seen.entry_bytes old.spaces.processes old.queues i) ∙ queue_none b.seen.entry_bytes (entry old.spaces.processes i) (get_or old.queues i []) (unlisted_new i);
    }

    pub zeros_number : (b : Bytes) → model.is_region n (zeros (state_of old b) Sys Live at.start at.pages) ≡ true
    zeros_number b = eq-eqb (fresh (state_of old b)) n (fresh_view old b ∙ sym place.number)

    wider_by : (a b : Bytes) → KeepsBytes old a b → ((i : ℕ) → b.seen.entry_bytes o.0 i ≡ replicate old.config.page 0) → state_of wider b ≡ with_zeros (state_of old a)
    wider_by a b keeps blank =
        let is : n ≡ fresh (state_of old a) = place.number ∙ sym (fresh_view old a) in
        let bytes : object_bytes b.seen.entry_bytes o.0 at.pages ≡ replicate (at.pages * old.config.page) 0 = zero_bytes b.seen.entry_bytes old.config.page o.0 0 at.pages blank in
        let shown : region_view b.seen.entry_bytes r ≡ zeros (state_of old a) Sys Live at.start at.pages = λ i. record { number = is i; start = at.start; pages = at.pages; area = Sys; state = Live; writable = true; bytes = bytes i } in
        rl.added old (made cm o.0 at.pages) wide a b p r rows there refl unnamed keeps ∙ ap (add_region (state_of old a) p) shown

    pub wider_outline : outline wider ≡ with_zeros (outline old)
    wider_outline = let blind = no_bytes old.config.page in wider_by blind blind (record { rests = refl; sents = refl; entries = λ i d l j. refl; frames = same_needed old blind.seen.kept_bytes }) (λ i. refl)

    wider_bytes : (slots rests sents : ℕ → List ℕ) → state_of wider (bytes_over (made cm o.0 at.pages) slots rests sents) ≡ with_zeros (state_of old (bytes_over old.memory slots rests sents))
    wider_bytes slots rests sents = wider_by (bytes_over old.memory slots rests sents) (bytes_over (made cm o.0 at.pages) slots rests sents)
        (subst (λ (s : Seen). KeepsBytes old (bytes_over old.memory slots rests sents) (record { seen = s; rests = rests; sents = sents })) (sym (seen_made cm o.0 at.pages absent slots)) (clears.bytes slots rests sents))
        (made_blank cm old.config.page o.0 at.pages slots absent clears.good.sized.page)

    pub wider_told : (host : HostView) (v : StoreView) → view wider host v ≡ option_map with_zeros (view old host v)
    wider_told host v = map_told (state_of wider) (state_of old) (made cm o.0 at.pages) old.memory with_zeros wider_bytes v.slots (rests_of host old.config) (sents_of host old.config)

    some_pages : 0 < at.pages
    some_pages = let may = may_place old c good accepted must in let some = may.some in omega (arith, some, place.pages)

    wider_orderly : IsOrderly (outline wider)
    wider_orderly =
        let s : flat.State = outline old in
        let pages : at.pages ≡ (c.len + old.config.page - 1) / old.config.page = place.pages in
        let start : unwrap_or (place_of s p at.pages) 0 ≡ at.start = ap (λ (q : Option ℕ). unwrap_or q 0) (ask_place old (no_bytes old.config.page) p at.pages ∙ place.lowest) in
        let e : Event = Alloc p at.pages in
        let state : outline wider ≡ tidy (add_region s p (zeros_at_place s Live p at.pages)) = sym (laws.tidied wider (no_bytes old.config.page)) ∙ ap tidy (wider_outline ∙ ap (λ x. add_region s p (zeros s Sys Live x at.pages)) (sym start)) in
        laws.orderly s (outline wider) e (reply.At (address_of s (zeros_at_place s Live p at.pages))) refl (ap (λ x. refuse s (Alloc p x)) pages ∙ may_alloc old c good accepted must) (record { state = state; reply_is = refl }) good.orderly

    pub wider_good : IsGood wider
    wider_good = laws.made wider (enlarged_parts rl (record old { memory = cm; hidden = hid }) p r rows (laws.has (record old { memory = cm; hidden = hid }) clears.good) there unnamed room some_pages refl absent size sound) wider_orderly

    pub wider_kept : Kept old wider
    wider_kept =
        let x = calls_kept (record old { memory = cm; hidden = hid }) cm clears.good (keeps_all cm) in
        kept_on old (record old { memory = cm; hidden = hid }) wider refl refl clears.kept
        (record { lent = λ j f a b s. x.lent j f a b (record { was = s.was; is = s.is }); pooled = x.pooled; fresh = λ j f a b s. x.fresh j f a b (record { was = s.was; is = s.is }) })

    abbrev rows_now : List Region
    rows_now = unwrap_or (entry wide.processes p) []

    low_process : p < length old.spaces.processes
    low_process = let low = process_low old p good alive in let long = good.spaced.processes in omega (arith, low, long)

    now_there : entry wide.processes p ≡ Some (with_added r rows)
    now_there = get_or-set_same old.spaces.processes p (Some (with_added r rows)) None low_process

    pub alive_now : is_some (entry wide.processes p) ≡ true
    alive_now = ap is_some now_there

    in_rows : Has r (regions_of (entry wide.processes p))
    in_rows = subst (λ (q : Option (List Region)). Has r (regions_of q)) (sym now_there) (added_has r rows)

    pub wider_owned : Has r (owned_regions wide.processes)
    wider_owned = has_owned r wide.processes p in_rows

    pub wider_has : list_any (has_id n) (regions_of (entry wide.processes p)) ≡ true
    wider_has = has_any (has_id n) r (regions_of (entry wide.processes p)) in_rows (eq-eqb n n refl)

    find_added : (qs : List Region) → list_any (has_id n) qs ≡ false → find (has_id n) (add_in_order extent r qs) ≡ Some r
    find_added [] e = ap (λ b. cond b (Some r) None) (eq-eqb n n refl)
    find_added (x ∷ qs) e =
        let both = or_parts (has_id n x) (list_any (has_id n) qs) e in
        elim (nat_le ((extent x).start + (extent x).pages) (extent r).start) as (λ b. find (has_id n) (cond b (x ∷ add_in_order extent r qs) (r ∷ x ∷ qs)) ≡ Some r) [
          | true ↦ ap (λ b. cond b (Some x) (find (has_id n) (add_in_order extent r qs))) both.0 ∙ find_added qs both.1
          | false ↦ ap (λ b. cond b (Some r) (find (has_id n) (x ∷ qs))) (eq-eqb n n refl)
        ]

    pub wider_found : region_of r.id (spaces.regions_of p wide) ≡ Some r
    wider_found = ap (λ (x : Option (List Region)). region_of r.id (unwrap_or x [])) now_there ∙ find_added rows (unowned p)

    abbrev e : Event
    e = input_event c None

    -- the event makes the region, of zeros and In, and posts the transfer
    fill_does : class_of c.sem ≡ WeakMove → (loans : Loans) (b : Bytes) (s : ℕ → List ℕ) → ◌≡◌ {A = Outcome} (tidied (input (state_of old b) c.pid (class_of c.sem) (record { device = c.dev; port = c.port; flow = c.flow }) None c.len)) (tidy (add_transfer (inputs.moved_in (with_zeros (state_of old b)) n) (begun s (transfer_of c (record { 0 = old.next }) 0 (Some at.id) 0 loans))), reply.Id old.next)
    fill_does is loans b s =
        let st : flat.State = state_of old b in
        let to : Address = record { device = c.dev; port = c.port; flow = c.flow } in
        let none_blind : is_some (inputs.reusable (outline old) p (pages_for (outline old) c.len)) ≡ false = not-true _ (sym (ap (λ (class : Class). must_make (outline old) p class c.len) is) ∙ must) in
        let same : inputs.reusable st p (pages_for st c.len) ≡ inputs.reusable (outline old) p (pages_for (outline old) c.len) = reusable_view old b p (pages_for st c.len) alive ∙ sym (reusable_view old (no_bytes old.config.page) p (pages_for st c.len) alive) in
        let none : inputs.reusable st p (pages_for st c.len) ≡ None = same ∙ none_is (inputs.reusable (outline old) p (pages_for (outline old) c.len)) none_blind in
        let pages : pages_for st c.len ≡ at.pages = sym place.pages in
        let start : unwrap_or (place_of st p (pages_for st c.len)) 0 ≡ at.start = ap (λ j. unwrap_or (place_of st p j) 0) pages ∙ ap (λ (q : Option ℕ). unwrap_or q 0) (ask_place old b p at.pages ∙ place.lowest) in
        let number : fresh st ≡ n = fresh_view old b ∙ sym place.number in
        let moved : inputs.moved_in (with_zeros st) n ≡ add_region st p (zeros st Sys In at.start at.pages) = new_moved_in n (zeros st Sys Live at.start at.pages) (zeros_number b) st p (lacks b) in
        subst
        (λ (class : Class). ◌≡◌ {A = Outcome} (tidied (input st p class to None c.len)) (
          tidy (add_transfer (inputs.moved_in (with_zeros st) n) (record {
            number = old.next;
            owner = Some c.pid;
            direction = Inward;
            class = class;
            device = c.dev;
            port = c.port;
            flow = c.flow;
            addr = if is_copy_input class Inward then Some 0 else None;
            region = Some n;
            offset = 0;
            len = c.len;
            phase = Posted;
            payload = [];
            staged = 0;
            moved = 0;
            stored = 0;
            note = Whole;
          })),
          reply.Id old.next,
        ))
        (sym is)
        (ap (λ (o : Option ℕ). tidied (add_transfer (weak_buffer st p c.len o) (input_of st p WeakMove to c.len None (number_or_fresh st o) 0), reply.Id old.next)) none
        ∙ (λ i. (tidy (add_transfer (add_region st p (zeros st Sys In (start i) (pages i))) (input_of st p WeakMove to c.len None (Some (number i)) 0)), reply.Id old.next))
        ∙ ap (λ (z : flat.State). (tidy (add_transfer z (input_of st p WeakMove to c.len None (Some n) 0)), reply.Id old.next)) (sym moved))

    -- once its pages are lent, and it is moved into
    module _ (wires : WiresKeep) (is : class_of c.sem ≡ WeakMove) (basic : Bool) (basic_is : basic ≡ not (is_emulated c.sem)) (md : Kernel) (loans : Loans) (v w : StoreView) (lends : LendsPages wider md v w r 0 c.len basic loans) where
      abbrev k : Kernel
      k = with_memory wider lends.mid lends.clock

      abbrev m : Memory
      m = md.memory

      abbrev filled : Kernel
      filled = with_filled (with_memory wider m lends.clock) p r.id

      pub filled_is : (z : Kernel) → z ≡ with_filled md p r.id → z ≡ filled
      filled_is z sets = sets ∙ ap (λ (y : Kernel). with_filled y p r.id) lends.only

      pub fill_by : (ls : Loans) → LendsPlan r 0 c.len basic lends.mid m ls → IsAnswered old (with_input filled (transfer_of c (record { 0 = old.next }) 0 (Some r.id) 0 ls)) v w e (reply.Id old.next)
      fill_by Nothing plan = absurd plan
      fill_by (Outward q) plan = absurd plan
      fill_by (ways.Inward q) plan =
          let t : Transfer = transfer_of c (record { 0 = old.next }) 0 (Some r.id) 0 (ways.Inward q) in
          let may = may_input old c None good accepted in
          let weak = ap is_strong is in
          let uncopied = ap (λ class. is_copy_input class Inward) is in
          let good_k : IsGood k = lends.moved.good in
          let new_one : IsNew k t = record { number = refl; phase = refl; unstored = refl; unbuffered = refl } in
          let begins : Begins k m t = weak_begins wires laws.weak k m c (record { 0 = old.next }) r 0 q basic good_k wider_owned weak uncopied basic_is plan may.device in
          let named = weak_named wires laws.weak k m c (record { 0 = old.next }) r 0 q basic good_k wider_owned weak uncopied basic_is plan may.device in
          let h : Kernel = with_call k m t in
          let after : Kernel = with_input filled t in
          let there_now : entry wide.processes p ≡ Some rows_now = some_is (entry wide.processes p) alive_now in
          let queues : slice_set old.queues p (unlisted n (get_or old.queues p [])) ≡ old.queues = ap (slice_set old.queues p) (none_listed (λ i j. []) n (get_or old.queues p []) (unlisted_new p alive)) ∙ set_own old.queues p [] in
          let h_parts : HasParts h = laws.parts k m t good_k new_one begins in
          let parts : HasParts after = subst (λ (qs : List (List ℕ)). HasParts (record after { queues = qs })) queues (moved_in_parts rl laws.spaced h p n rows_now h_parts there_now) in
          let only = laws.only wider p n wider_good wider_has in
          let listed = laws.listed wider p n wider_good only in
          let low : p < length old.queues = let small = process_low old p good alive in let sizes = good.spaced.queue_places in omega (arith, small, sizes) in
          let bt : flat.Transfer = begun (λ f. []) t in
          let g : flat.State → flat.State = λ z. tidy (add_transfer (inputs.moved_in z n) bt) in
          let after_is : (b : Bytes) → state_of after b ≡ g (state_of k b) = λ b.
          let call : state_of h b ≡ add_transfer (state_of k b) (begun b.seen.kept_bytes t) = laws.added k m t h.posted b b (laws.waits k t good_k new_one) named refl refl refl (same_needed k b.seen.kept_bytes) in
          let moved : state_of after b ≡ inputs.moved_in (state_of h b) n = subst (λ (qs : List (List ℕ)). state_of (record after { queues = qs }) b ≡ inputs.moved_in (state_of h b) n) queues (moved_in_state rl laws.spaced h p n rows_now h_parts there_now low only listed b) in
          sym (laws.tidied after b) ∙ ap tidy (moved ∙ ap (λ (z : flat.State). inputs.moved_in z n) call) in
          let does : (b : Bytes) → Steps (state_of old b) e (g (with_zeros (state_of old b))) (reply.Id old.next) = λ b.
          let makes = fill_does is (ways.Inward q) b (λ f. []) in
          record { state = sym (ap (λ (z : Outcome). z.0) makes); reply_is = sym (ap (λ (z : Outcome). z.1) makes) } in
          let blind = no_bytes old.config.page in
          let step : Steps (outline old) e (outline after) (reply.Id old.next) = let d = does blind in record { state = after_is blind ∙ ap g wider_outline ∙ d.state; reply_is = d.reply_is } in
          let kept : Kept k after = (let y = laws.kept k m t good_k begins in record { lent = λ j f a b s. y.lent j f a b (record { was = s.was; is = s.is }); pooled = y.pooled; fresh = λ j f a b s. y.fresh j f a b (record { was = s.was; is = s.is }) }) in
          record {
            good = laws.made after parts (laws.orderly (outline old) (outline after) e (reply.Id old.next) (weak_whole c is) accepted step good.orderly);
            sized = lends.sized;
            kept = kept_on old k after refl refl (kept_on old wider k refl refl wider_kept lends.moved.kept) kept;
            config = refl;
            numbers = omega arith;
            step = λ host.
                let told : view after host w ≡ option_map (λ s. g (with_zeros s)) (view old host v) =
                map_same (state_of after) (state_of k) g after_is (bytes_of after host w)
                ∙ ap (option_map g) (same_view k m lends.middle w lends.shows host ∙ lends.moved.told host ∙ wider_told host v)
                ∙ map_twice with_zeros g (view old host v) in
                subst (λ s. StepsTold (view old host v) e s (reply.Id old.next)) (sym told) (told_by old e (reply.Id old.next) (λ s. g (with_zeros s)) accepted does (bytes_of old host v));
          }

      pub fill_core : IsAnswered old (with_input filled (transfer_of c (record { 0 = old.next }) 0 (Some r.id) 0 loans)) v w e (reply.Id old.next)
      fill_core = fill_by loans lends.plan

    -- once the store failed, and it is gone again
    module _ (can_settle : RemovalSettles) (keeps : RemovalKeeps) (shows : RemovalShows) (outlines : OutlinesShowRemoval) (state : RemovalState) (is_good : SettledIsGood) (m2 m3 : Memory) (clock : ℕ) (rest : List Region) (v w : StoreView)
        (moved : IsMoved wider (with_memory wider m2 clock) v w) (paged : IsPaged w)
        (removes : RemovesRegion p r (with_memory wider m2 clock) (removed_from (with_memory wider m2 clock) m3 p n rest)) where
      abbrev k2 : Kernel
      k2 = with_memory wider m2 clock

      abbrev k3 : Kernel
      k3 = removed_from k2 m3 p n rest

      settled : IsSettled k2
      settled = settles k2 moved.good

      gone : (b : Bytes) (z : flat.Region) → z.number ≡ n → tidy (remove (with_zeros (state_of old b)) z) ≡ state_of old b
      gone b z named = new_removed n (zeros (state_of old b) Sys Live at.start at.pages) (zeros_number b) (state_of old b) p z named (lacks b)
          (any_map (pending.names_weakly n) (transfer_view b.seen.kept_bytes old.devices old.pools (first_waiting old.transfers)) old.transfers ∙ unnamed) (laws.tidied old b)

      gone_outline : outline k3 ≡ outline old
      gone_outline =
          let blind = no_bytes old.config.page in
          state p r k2 k3 blind blind removes settled (outlines r k2)
          ∙ ap (λ (s : flat.State). tidy (remove s (region_view blind.seen.entry_bytes r))) wider_outline
          ∙ gone blind (region_view blind.seen.entry_bytes r) refl

      have_pages : (slots : Option (ℕ → List ℕ)) → IfSome slots (λ f. (s : ℕ) → s < w.count → length (f s) ≡ w.page) → IfSome slots (λ f. HavePages m2 f)
      have_pages None h = tt
      have_pages (Some f) h = λ s l. let count = moved.sized.count in h s (omega (arith, l, count)) ∙ moved.sized.page

      gone_told : (o : Option Bytes) (slots rests sents : Option (ℕ → List ℕ)) → IfSome slots (λ f. HavePages m2 f) → option_map (state_of k2) (bytes_with (option_map (seen m2) slots) rests sents) ≡ option_map with_zeros (option_map (state_of old) o) → StepsTold (option_map (state_of old) o) e (option_map (state_of k3) (bytes_with (option_map (seen m3) slots) rests sents)) reply.StoreFault
      gone_told None slots rests sents have told = tt
      gone_told (Some b) None rests sents have told = absurd (let bad : false ≡ true = ap is_some told in cc)
      gone_told (Some b) (Some f) None sents have told = absurd (let bad : false ≡ true = ap is_some told in cc)
      gone_told (Some b) (Some f) (Some x) None have told = absurd (let bad : false ≡ true = ap is_some told in cc)
      gone_told (Some b) (Some f) (Some x) (Some y) have told =
          let a : Bytes = bytes_over m2 f x y in
          let was : state_of k2 a ≡ with_zeros (state_of old b) = ap (λ (z : Option flat.State). unwrap_or z (state_of old b)) told in
          let now : state_of k3 (bytes_over m3 f x y) ≡ state_of old b =
          state p r k2 k3 a (bytes_over m3 f x y) removes settled (shows p r k2 k3 f x y removes settled have)
          ∙ ap (λ (s : flat.State). tidy (remove s (region_view a.seen.entry_bytes r))) was
          ∙ gone b (region_view a.seen.entry_bytes r) refl in
          subst (λ (s : flat.State). StepsTold (Some (state_of old b)) e (Some s) reply.StoreFault) (sym now) (accepted_step old b e (state_of old b) reply.StoreFault accepted (record { state = refl; reply_is = refl }))

      pub fill_fails : IsAnswered old k3 v w e reply.StoreFault
      fill_fails = record {
        good = is_good k3 (can_settle p r k2 k3 removes settled) (subst IsOrderly (sym gone_outline) good.orderly);
        sized = record { count = moved.sized.count ∙ sym removes.object.slots; page = moved.sized.page ∙ sym (ap (λ (f : FrameTable). f.page) removes.object.frames) };
        kept = kept_on old k2 k3 refl refl (kept_on old wider k2 refl refl wider_kept moved.kept) (keeps p r k2 k3 removes settled);
        config = refl;
        numbers = omega arith;
        step = λ host. gone_told (bytes_of old host v) w.slots (rests_of host old.config) (sents_of host old.config) (have_pages w.slots paged) (moved.told host ∙ wider_told host v);
      }

-- with the kernels as they are while the call runs
module _ (laws : InputLaws) (rl : RegionLaws) (settles : GoodIsSettled) (old cl pl : Kernel) (c : Call) (at : Placement) (o : ObjectId) (q : Region) (good : IsGood old) (is : class_of c.sem ≡ WeakMove) (accepted : refuse (outline old) (input_event c None) ≡ None) (must : must_make (outline old) c.pid (class_of c.sem) c.len ≡ true) (place : IsPlace old c at) (clears : Clears old cl) (room : HasRoom c.pid cl) (adds : Adds c.pid (new_region at Live o) cl pl) (q_is : q ≡ new_region at Live o) where
  abbrev new_one : Region
  new_one = new_region at Live o

  abbrev all_clear : Kernel
  all_clear = record old { memory = cl.memory; hidden = cl.hidden }

  abbrev wider_now : Kernel
  wider_now = record old { memory = made cl.memory o.0 at.pages; hidden = cl.hidden; spaces = spaces.set_regions old.spaces c.pid (with_added new_one (unwrap_or (entry old.spaces.processes c.pid) [])) }

  pl_is : pl ≡ wider_now
  pl_is = adds.added ∙ ap (λ (z : Kernel). record z { memory = made cl.memory o.0 at.pages; spaces = spaces.set_regions z.spaces c.pid (with_added new_one (spaces.regions_of c.pid z.spaces)) }) clears.only

  memory_is : pl.memory ≡ made cl.memory o.0 at.pages
  memory_is = ap (λ (z : Kernel). z.memory) pl_is

  clears_now : Clears old all_clear
  clears_now = subst (Clears old) clears.only clears

  room_now : HasRoom c.pid all_clear
  room_now = subst (HasRoom c.pid) clears.only room

  size_now : length (object_at (made cl.memory o.0 at.pages).objects o.0) ≡ at.pages
  size_now = sym (ap (λ (z : Memory). length (object_at z.objects o.0)) memory_is) ∙ adds.size

  sound_now : IsSound (made cl.memory o.0 at.pages)
  sound_now = subst IsSound memory_is adds.sound

  pub new_good : IsGood pl
  new_good = subst IsGood (sym pl_is) (wider_good laws rl settles old cl.memory cl.hidden c at o good accepted must place clears_now room_now adds.absent size_now sound_now)

  pub new_owned : Has q (owned_regions pl.spaces.processes)
  new_owned = subst (λ (x : Region). Has x (owned_regions pl.spaces.processes)) (sym q_is) (subst (λ (z : Kernel). Has new_one (owned_regions z.spaces.processes)) (sym pl_is) (wider_owned laws rl settles old cl.memory cl.hidden c at o good accepted must place clears_now room_now adds.absent size_now sound_now))

  pub new_room : CallsCanBegin → (span pl.config.page 0 c.len ≤ 65) × (span pl.config.page 0 c.len ≤ available pl.memory.frames)
  new_room law = subst (λ (z : Kernel). (span z.config.page 0 c.len ≤ 65) × (span z.config.page 0 c.len ≤ available z.memory.frames)) (sym pl_is) (weak_room law all_clear c clears_now.good is accepted)

  pub new_within : 0 / pl.config.page + span pl.config.page 0 c.len ≤ length (object_at pl.memory.objects q.object.0)
  new_within = weak_within pl c q new_good new_owned (ap (λ (x : Region). x.pages) q_is ∙ place.pages ∙ ap (λ (z : Kernel). (c.len + z.config.page - 1) / z.config.page) (sym pl_is))

  pub new_alive : (md : Kernel) → md.spaces ≡ pl.spaces → spaces.is_alive c.pid md.spaces ≡ true
  new_alive md same = subst (λ (s : spaces.AddressSpaces). spaces.is_alive c.pid s ≡ true) (sym (same ∙ ap (λ (z : Kernel). z.spaces) pl_is)) (alive_now laws rl settles old cl.memory cl.hidden c at o good accepted must place clears_now room_now adds.absent size_now sound_now)

  pub new_there : (md : Kernel) → md.spaces ≡ pl.spaces → region_of q.id (spaces.regions_of c.pid md.spaces) ≡ Some q
  new_there md same = subst (λ (x : Region). region_of x.id (spaces.regions_of c.pid md.spaces) ≡ Some x) (sym q_is) (subst (λ (s : spaces.AddressSpaces). region_of new_one.id (spaces.regions_of c.pid s) ≡ Some new_one) (sym (same ∙ ap (λ (z : Kernel). z.spaces) pl_is)) (wider_found laws rl settles old cl.memory cl.hidden c at o good accepted must place clears_now room_now adds.absent size_now sound_now))

  pub fill_answers : WiresKeep → (basic : Bool) → basic ≡ not (is_emulated c.sem) → (md z new : Kernel) (loans : Loans) (v w : StoreView) → LendsPages pl md v w q 0 c.len basic loans → z ≡ with_filled md c.pid at.id → new ≡ with_input z (transfer_of c (record { 0 = old.next }) 0 (Some at.id) 0 loans) → IsAnswered old new v w (input_event c None) (reply.Id old.next)
  fill_answers wires basic basic_is md z new loans v w lends sets posts =
      let t : Transfer = transfer_of c (record { 0 = old.next }) 0 (Some at.id) 0 loans in
      let lends_now : LendsPages wider_now md v w new_one 0 c.len basic loans = subst (λ (x : Kernel). LendsPages x md v w new_one 0 c.len basic loans) pl_is (subst (λ (x : Region). LendsPages pl md v w x 0 c.len basic loans) q_is lends) in
      subst (λ (y : Kernel). IsAnswered old y v w (input_event c None) (reply.Id old.next))
      (sym (posts ∙ ap (λ (y : Kernel). with_input y t) (filled_is laws rl settles old cl.memory cl.hidden c at o good accepted must place clears_now room_now adds.absent size_now sound_now wires is basic basic_is md loans v w lends_now z sets)))
      (fill_core laws rl settles old cl.memory cl.hidden c at o good accepted must place clears_now room_now adds.absent size_now sound_now wires is basic basic_is md loans v w lends_now)

  pub fill_failed : RemovalSettles → RemovalKeeps → RemovalShows → OutlinesShowRemoval → RemovalState → SettledIsGood → (md new : Kernel) (v w : StoreView) → IsMoved pl md v w → IsPaged w → RemovesRegion c.pid q md new → IsAnswered old new v w (input_event c None) reply.StoreFault
  fill_failed can_settle keeps shows outlines state is_good md new v w moved paged removes =
      let on : IsMoved wider_now md v w = subst (λ (z : Kernel). IsMoved z md v w) pl_is moved in
      let moved_now : IsMoved wider_now (with_memory wider_now md.memory md.clock) v w = subst (λ (z : Kernel). IsMoved wider_now z v w) on.only on in
      let one : RemovesRegion c.pid new_one md new = subst (λ (x : Region). RemovesRegion c.pid x md new) q_is removes in
      let two : RemovesRegion c.pid new_one (with_memory wider_now md.memory md.clock) new = subst (λ (z : Kernel). RemovesRegion c.pid new_one z new) on.only one in
      let three : RemovesRegion c.pid new_one (with_memory wider_now md.memory md.clock) (removed_from (with_memory wider_now md.memory md.clock) new.memory c.pid at.id.0 two.regions) = subst (λ (z : Kernel). RemovesRegion c.pid new_one (with_memory wider_now md.memory md.clock) z) two.left two in
      subst (λ (z : Kernel). IsAnswered old z v w (input_event c None) reply.StoreFault) (sym two.left)
      (fill_fails laws rl settles old cl.memory cl.hidden c at o good accepted must place clears_now room_now adds.absent size_now sound_now can_settle keeps shows outlines state is_good md.memory new.memory md.clock two.regions v w moved_now paged three)

  pub fill_can_post : (md z : Kernel) (m : Memory) (clock : ℕ) → md ≡ with_memory pl m clock → z ≡ with_filled md c.pid at.id → (t : Transfer) → t.id.0 ≡ old.next → CanPost z t.id.0
  fill_can_post md z m clock only sets t named =
      let transfers = ap (λ (y : Kernel). y.transfers) sets ∙ ap (λ (y : Kernel). y.transfers) only ∙ ap (λ (y : Kernel). y.transfers) pl_is in
      let posted = ap (λ (y : Kernel). y.posted) sets ∙ ap (λ (y : Kernel). y.posted) only ∙ ap (λ (y : Kernel). y.posted) pl_is in
      subst (CanPost z) (sym named) (can_post_same old z old.next transfers posted (can_post laws.rise old good (may_input old c None good accepted).few))
