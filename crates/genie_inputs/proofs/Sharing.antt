-- A share input.
use Rattle.std.proofs.Common.{◌≡◌, ℕ, ◌+◌, ◌/◌, ◌<◌, ◌≤◌, ◌^◌, Bool, true, not, refl, sym, ap, subst, arith, ◌∙◌, length, []}
use Rattle.std.specs.Prelude.{Option, Some, None, IsTrue, if◌then◌else◌}
use Rattle.std.specs.Option.{option_map}
use Rattle.std.proofs.lemmas.Nat.{mul-le}
use Rattle.genie_base.specs.Counts.{span}
use Rattle.genie_base.specs.Events.{is_whole, has_one}
use Rattle.genie_base.specs.Transfers.{class_of, is_emulated, is_strong, is_system}
use Rattle.genie_base.specs.declared.reply.Note.TheVariants.{Whole}
use Rattle.genie_base.specs.declared.reply.Reply.TheVariants as reply
use Rattle.genie_base.specs.declared.semantics.Class.{Class}
use Rattle.genie_base.specs.declared.semantics.Class.TheVariants.{Share}
use Rattle.genie_base.specs.declared.semantics.Direction.TheVariants.{Inward}
use Rattle.genie_host.specs.Host.{HostView}
use Rattle.genie_store.specs.StoreView.{StoreView}
use Rattle.genie_object.specs.declared.memory.Memory.{Memory}
use Rattle.genie_object.specs.Memory.{seen_with}
use Rattle.genie_object.specs.Objects.{object_at}
use Rattle.genie_hiding.specs.Rooms.{available}
use Rattle.genie_plan.specs.Wiring.{WiresKeep}
use Rattle.genie_region.specs.declared.region.Region.{Region}
use Rattle.genie_model.specs.declared.phase.Phase.TheVariants.{Posted}
use Rattle.genie_model.specs.Inputs.{input, input_of}
use Rattle.genie_model.specs.Outputs.{number_of, place_reached}
use Rattle.genie_model.specs.Pending.{add_transfer}
use Rattle.genie_model.specs.Refusing.{refuse}
use Rattle.genie_model.specs.Regions as model
use Rattle.genie_model.specs.Space.{tidy}
use Rattle.genie_model.specs.State as flat
use Rattle.genie_model.specs.Step.{Outcome, tidied}
use Rattle.genie_kernel.specs.declared.kernel.Kernel.{Kernel}
use Rattle.genie_kernel.specs.declared.transfer.Loans.{Loans}
use Rattle.genie_kernel.specs.declared.transfer.Loans.TheVariants.{Nothing, Outward}
use Rattle.genie_kernel.specs.declared.transfer.Loans.TheVariants as ways
use Rattle.genie_kernel.specs.declared.transfer.Transfer.{Transfer}
use Rattle.genie_kernel.specs.Calls.{is_copy_input}
use Rattle.genie_kernel.specs.Good.{IsGood}
use Rattle.genie_kernel.specs.Regions.{region_view}
use Rattle.genie_kernel.specs.Told.{rests_of, sents_of}
use Rattle.genie_kernel.specs.View.{Bytes, state_of, outline, no_bytes, bytes_with, view}
use Rattle.genie_room.specs.Frames.{CallsCanBegin}
use Rattle.genie_inputs.specs.declared.call.Call.{Call}
use Rattle.genie_model.specs.Lemmas.Lists.{Has, all_has}
use Rattle.genie_kernel.specs.Regions.{owned_regions}
use Rattle.genie_changes.specs.Making.{with_memory}
use Rattle.genie_changes.specs.Removing.{FitsTables, GoodRegionsFit}
use Rattle.genie_inputs.specs.Calls.{input_event, transfer_of}
use Rattle.genie_inputs.specs.InputLaws.{InputLaws}
use Rattle.genie_inputs.specs.Places.{LendsPages, LendsPlan}
use Rattle.genie_inputs.specs.Posting.{CanPost, IsAnswered, with_input}
use Rattle.genie_inputs.specs.Targets.{Reaches}
use Rattle.genie_inputs.proofs.Readied.{ready_moved}
use Rattle.genie_inputs.proofs.Accepted.{can_post, has_room, may_input, page_high, page_some}
use Rattle.genie_inputs.proofs.Answered.{OnlyPosts, posted_answers, shows_itself}
use Rattle.genie_inputs.proofs.Targeting.{backed_long, pages_within, reach_view, reached_owned}
use Rattle.genie_inputs.proofs.Weakly.{weak_begins, weak_named}

share_whole : (c : Call) (a : ℕ) → class_of c.sem ≡ Share → IsTrue (is_whole (input_event c (Some a)))
share_whole c a is = subst (λ (class : Class). IsTrue (has_one (is_system class) true)) (sym is) refl

-- what the flat machine reaches
reached_is : (k : Kernel) (b : Bytes) (c : Call) (a : ℕ) (r : Region) (off : ℕ) → Reaches k c a r off → model.reach_of (state_of k b) c.pid a c.len ≡ Some (region_view b.seen.entry_bytes r)
reached_is k b c a r off x = reach_view k b c.pid a c.len ∙ ap (option_map (region_view b.seen.entry_bytes)) x.found

share_posts : (k : Kernel) (c : Call) (a : ℕ) (r : Region) (off : ℕ) (loans : Loans) → class_of c.sem ≡ Share → Reaches k c a r off → OnlyPosts k (transfer_of c (record { 0 = k.next }) 0 (Some r.id) off loans) (input_event c (Some a))
share_posts k c a r off loans is x b s =
    let st : flat.State = state_of k b in
    subst
    (λ (class : Class). ◌≡◌ {A = Outcome} (tidied (input st c.pid class (record { device = c.dev; port = c.port; flow = c.flow }) (Some a) c.len)) (
      tidy (add_transfer st (record {
        number = k.next;
        owner = Some c.pid;
        direction = Inward;
        class = class;
        device = c.dev;
        port = c.port;
        flow = c.flow;
        addr = if is_copy_input class Inward then Some 0 else None;
        region = Some r.id.0;
        offset = off;
        len = c.len;
        phase = Posted;
        payload = [];
        staged = 0;
        moved = 0;
        stored = 0;
        note = Whole;
      })),
      reply.Id k.next,
    ))
    (sym is)
    (ap (λ (o : Option flat.Region). tidied (add_transfer st (input_of st c.pid Share (record { device = c.dev; port = c.port; flow = c.flow }) c.len None (number_of o) (place_reached st o a)), reply.Id k.next)) (reached_is k b c a r off x)
    ∙ ap (λ at. tidied (add_transfer st (input_of st c.pid Share (record { device = c.dev; port = c.port; flow = c.flow }) c.len None (Some r.id.0) at), reply.Id k.next)) (sym x.place))

-- the same memory over another store, which shows what it showed, is the same to whoever looks
pub same_view : (k : Kernel) (m : Memory) (u v : StoreView) → seen_with m v ≡ seen_with k.memory u → (host : HostView) → view (record k { memory = m }) host v ≡ view k host u
same_view k m u v e host = ap (λ s. option_map (state_of k) (bytes_with s (rests_of host k.config) (sents_of host k.config))) e

pub share_answers : WiresKeep → InputLaws → (old mid new : Kernel) (c : Call) (a : ℕ) (r : Region) (off : ℕ) (basic : Bool) (loans : Loans) (v w : StoreView) → IsGood old → class_of c.sem ≡ Share → basic ≡ not (is_emulated c.sem) → refuse (outline old) (input_event c (Some a)) ≡ None → Reaches old c a r off → LendsPages old mid v w r off c.len basic loans → new ≡ with_input mid (transfer_of c (record { 0 = old.next }) 0 (Some r.id) off loans)
    → IsAnswered old new v w (input_event c (Some a)) (reply.Id old.next)
share_answers wires laws old mid new c a r off basic loans v w good is basic_is accepted x lends posts = by loans posts lends.plan
  where
    by : (ls : Loans) → new ≡ with_input mid (transfer_of c (record { 0 = old.next }) 0 (Some r.id) off ls) → LendsPlan r off c.len basic lends.mid mid.memory ls → IsAnswered old new v w (input_event c (Some a)) (reply.Id old.next)
    by Nothing e plan = absurd plan
    by (Outward p) e plan = absurd plan
    by (ways.Inward p) e plan =
        let t : Transfer = transfer_of c (record { 0 = old.next }) 0 (Some r.id) off (ways.Inward p) in
        let y : Kernel = with_memory old lends.mid lends.clock in
        let may = may_input old c (Some a) good accepted in
        let owned = reached_owned old c.pid a c.len r x.found in
        let weak = ap is_strong is in
        let uncopied = ap (λ class. is_copy_input class Inward) is in
        subst (λ (z : Kernel). IsAnswered old z v w (input_event c (Some a)) (reply.Id old.next)) (sym (e ∙ ap (λ (z : Kernel). with_input z t) lends.only))
        (posted_answers laws y mid.memory mid.memory t (input_event c (Some a)) lends.moved.good
        (record { number = refl; phase = refl; unstored = refl; unbuffered = refl })
        (weak_begins wires laws.weak y mid.memory c (record { 0 = old.next }) r off p basic lends.moved.good owned weak uncopied basic_is plan may.device)
        (weak_named wires laws.weak y mid.memory c (record { 0 = old.next }) r off p basic lends.moved.good owned weak uncopied basic_is plan may.device)
        (λ slots. shows_itself y mid.memory slots)
        (share_whole c a is) accepted (share_posts y c a r off (ways.Inward p) is (record { found = x.found; writable = x.writable; place = x.place; inside = x.inside }))
        old v lends.middle w (ready_moved old y v lends.middle lends.moved) (same_view y mid.memory lends.middle w lends.shows) lends.sized)

-- there is room for the loans
pub share_room : CallsCanBegin → (k : Kernel) (c : Call) (a : ℕ) (r : Region) (off : ℕ) → IsGood k → class_of c.sem ≡ Share → refuse (outline k) (input_event c (Some a)) ≡ None → Reaches k c a r off → (span k.config.page off c.len ≤ 65) × (span k.config.page off c.len ≤ available k.memory.frames)
share_room law k c a r off good is accepted x =
    let room = has_room law k c (Some a) Share good is refl accepted in
    let reached = reached_is k (no_bytes k.config.page) c a r off x in
    let at : place_reached (outline k) (model.reach_of (outline k) c.pid a c.len) a ≡ off = ap (λ (o : Option flat.Region). place_reached (outline k) o a) reached ∙ sym x.place in
    let same = ap (λ y. span k.config.page y c.len) at in
    let pages = room.pages in
    let cost = room.cost in
    (omega (arith, pages, same), omega (arith, cost, same))

-- and for the transfer
pub share_can_post : InputLaws → (old mid : Kernel) (c : Call) (a : ℕ) (r : Region) (off : ℕ) (basic : Bool) (loans : Loans) (v w : StoreView) → IsGood old → refuse (outline old) (input_event c (Some a)) ≡ None → LendsPages old mid v w r off c.len basic loans → (t : Transfer) → t.id.0 ≡ old.next → CanPost mid t.id.0
share_can_post laws old mid c a r off basic loans v w good accepted lends t is =
    let may = may_input old c (Some a) good accepted in
    let can = can_post laws.rise old good may.few in
    subst (CanPost mid) (sym is)
    (subst (λ (k : Kernel). CanPost k old.next) (sym lends.only) (record { few = can.few; room = can.room; last = can.last }))

-- the range lies in the region's pages
pub share_within : (k : Kernel) (c : Call) (a : ℕ) (r : Region) (off : ℕ) → IsGood k → Reaches k c a r off → off / k.config.page + span k.config.page off c.len ≤ length (object_at k.memory.objects r.object.0)
share_within k c a r off good x =
    let long = backed_long k r good (reached_owned k c.pid a c.len r x.found) in
    let within = pages_within k.config.page off c.len r.pages (page_some k good) x.inside in
    omega (arith, long, within)

share_low : (k : Kernel) (r : Region) → GoodRegionsFit → IsGood k → Has r (owned_regions k.spaces.processes) → r.pages ≤ 64
share_low k r law good owned = (all_has FitsTables (owned_regions k.spaces.processes) (law k good) r owned).most

pub share_fits : GoodRegionsFit → (k : Kernel) (c : Call) (a : ℕ) (r : Region) (off : ℕ) → IsGood k → Reaches k c a r off → off + c.len < 2 ^ 32
share_fits law k c a r off good x =
    let low = share_low k r law good (reached_owned k c.pid a c.len r x.found) in
    let most = mul-le k.config.page r.pages 4096 64 (page_high k.config.page good.fits.page) low in
    let inside = x.inside in
    omega (arith, inside, most)

pub share_owned : (k : Kernel) (c : Call) (a : ℕ) (r : Region) (off : ℕ) → Reaches k c a r off → Has r (owned_regions k.spaces.processes)
share_owned k c a r off x = reached_owned k c.pid a c.len r x.found
