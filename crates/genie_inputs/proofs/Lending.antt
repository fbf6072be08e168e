-- Pages of a region that are lent, after room was made.
use Rattle.std.proofs.Common.{◌≡◌, ◌≢◌, List, [], false, ℕ, ◌+◌, ◌/◌, ◌<◌, ◌≤◌, Bool, refl, sym, ap, subst, arith, ◌∙◌, length}
use Rattle.std.specs.Option.{option_map}
use Rattle.genie_base.specs.Counts.{span}
use Rattle.genie_frame.specs.declared.frame.Counts.{Counts}
use Rattle.genie_frame.specs.FrameTable.{counts_at, no_counts}
use Rattle.genie_store.specs.StoreView.{StoreView}
use Rattle.genie_input.specs.Lending.{HasLent, LiesIn}
use Rattle.genie_object.specs.declared.memory.Memory.{Memory}
use Rattle.genie_object.specs.Memory.{seen_with}
use Rattle.genie_object.specs.Sound.{IsSized}
use Rattle.genie_object.specs.Touching.{KeepsLoans, Touches, is_in_range}
use Rattle.genie_object.specs.Sound.{IsSound}
use Rattle.genie_object.specs.Lemmas.Lookup.{in_range}
use Rattle.genie_plan.specs.declared.plan.InPlan.{InPlan}
use Rattle.genie_plan.specs.Loans as kind
use Rattle.genie_plan.specs.Loans.{input_loans, loan_times}
use Rattle.genie_plan.specs.Plans.{input_frames}
use Rattle.genie_plan.specs.Wiring.{WiresKeep}
use Rattle.genie_region.specs.declared.region.Region.{Region}
use Rattle.genie_space.specs.Spaces.{AddressSpaces}
use Rattle.genie_model.specs.Lemmas.Lists.{Has}
use Rattle.genie_kernel.specs.Regions.{owned_regions}
use Rattle.genie_kernel.specs.declared.kernel.Kernel.{Kernel}
use Rattle.genie_kernel.specs.declared.transfer.Loans.TheVariants as ways
use Rattle.genie_kernel.specs.Good.{IsGood}
use Rattle.genie_changes.specs.Making.{IsMoved, MemoryIsMoved, MovesOn}
use Rattle.genie_room.specs.Rooms.{HasRoom}
use Rattle.genie_inputs.specs.Places.{CanBeWired, LendsPages, Wires}
use Rattle.genie_inputs.proofs.Buffered.{input_times}
use Rattle.genie_object.specs.Objects.{object_at}
use Rattle.genie_inputs.proofs.Targeting.{backed_long}
use Rattle.genie_object.specs.declared.objects.Entry.{Entry}
use Rattle.genie_object.specs.Lemmas.Touching.{keeps_on}
use Rattle.genie_hiding.specs.Hidden.{objects_of}
use Rattle.genie_model.specs.Lemmas.Lists.{all_has, has_left}
use Rattle.genie_kernel.specs.Backed.{all_regions}
use Rattle.genie_kernel.specs.Lemmas.Keeping.{hidden_kept}
use Rattle.genie_spaces.specs.Lemmas.Forbidding.{narrowed_keeps, narrowed_seen, narrowed_sound, narrowed_touches, with_entries}
use Rattle.genie_spaces.specs.Permissions.{Guards, NarrowsAll}
use Rattle.genie_inputs.proofs.Weakly.{touched_cached, touched_guarded, wires_kept}

-- the frames of the loans are there, and can be wired
pub can_wire : (k : Kernel) (mid lent : Memory) (o off len first n : ℕ) (p : InPlan) → HasRoom k mid → HasLent kind.Input (is_in_range o first n) o first (input_loans p.loans.items) mid lent → LiesIn lent o off len (input_frames p.loans.items) p.first p.len → CanBeWired lent.frames (input_frames p.loans.items)
can_wire k mid lent o off len first n p room loans lies = record {
  there = λ f l.
      let input : 0 < (counts_at lent.frames f).input = let more = ap (λ (c : Counts). c.input) (loans.counts f) in let on = input_times f p.loans.items in omega (arith, more, on, l) in
      let below = in_range lent.frames.counts f no_counts (λ none. let zero_input = ap (λ (c : Counts). c.input) none in absurd (omega (arith, input, zero_input))) in
      let size = loans.sound.shaped.counted in
      omega (arith, below, size);
  room = λ f.
      let low = (room.counts f).wires in
      let same = ap (λ (c : Counts). c.wires) (loans.counts f) in
      let once = lies.ready.apart f in
      omega (arith, low, same, once);
}

-- the region is still there
moved_owned : (old k : Kernel) (r : Region) (u v : StoreView) → IsMoved old k u v → Has r (owned_regions old.spaces.processes) → Has r (owned_regions k.spaces.processes)
moved_owned old k r u v moved owned =
    let spaces : k.spaces ≡ old.spaces = ap (λ (z : Kernel). z.spaces) moved.only in
    subst (λ (s : AddressSpaces). Has r (owned_regions s.processes)) (sym spaces) owned

narrowed_shows : (m : Memory) (os : List (List Entry)) (w : StoreView) → NarrowsAll m.objects os → seen_with (with_entries m os) w ≡ seen_with m w
narrowed_shows m os w narrow = λ i. option_map (λ slots. narrowed_seen m os narrow slots i) w.slots

-- its object too
pub object_there : (old k : Kernel) (m : Memory) (r : Region) (u v : StoreView) → IsMoved old k u v → Has r (owned_regions old.spaces.processes) → KeepsLoans k.memory m → object_at m.objects r.object.0 ≢ []
object_there old k m r u v moved owned keeps none =
    let here = moved_owned old k r u v moved owned in
    let some : 0 < r.pages = all_has (λ (q : Region). 0 < q.pages) (all_regions k.spaces.processes k.hidden) moved.good.backed.some r (has_left r (owned_regions k.spaces.processes) _ here) in
    let long = backed_long k r moved.good here in
    let same = keeps.entries r.object.0 in
    let nothing = ap length none in
    omega (arith, some, long, same, nothing)

-- where the store failed, nothing is lent
pub lend_failed : MemoryIsMoved → MovesOn → (old k : Kernel) (m : Memory) (os : List (List Entry)) (r : Region) (first n : ℕ) (u v w : StoreView) → IsMoved old k u v → Has r (owned_regions old.spaces.processes) → IsSound m → IsSized m w → seen_with m w ≡ seen_with k.memory v → KeepsLoans k.memory m → Touches (is_in_range r.object.0 first n) k.memory m → ((f : ℕ) → counts_at m.frames f ≡ counts_at k.memory.frames f) → Guards r.object.0 r.writable m.objects os → IsMoved old (record k { memory = with_entries m os }) u w
lend_failed law join old k m os r first n u v w moved owned sound sized shows keeps touches counts guards =
    let here = moved_owned old k r u v moved owned in
    let narrow = guards.all in
    join old k (record k { memory = with_entries m os }) u v w moved
    (law k (record k { memory = with_entries m os }) v w moved.good refl (record {
      sound = narrowed_sound m os narrow sound;
      sized = record { count = sized.count; page = sized.page };
      cached = hidden_kept (λ a b. false) m (with_entries m os) (objects_of k.hidden) sound (narrowed_keeps m os narrow) (narrowed_touches m os narrow) (λ a b among. refl) (touched_cached k m r first n moved.good here keeps touches);
      guarded = touched_guarded k m r first n moved.good here keeps touches os guards;
      shows = narrowed_shows m os w narrow ∙ shows;
      keeps = keeps_on k.memory m (with_entries m os) keeps (narrowed_keeps m os narrow);
      counts = counts;
    }))

-- else its pages are
pub lends_pages : WiresKeep → (old k : Kernel) (lent m : Memory) (os : List (List Entry)) (r : Region) (off len : ℕ) (basic : Bool) (p : InPlan) (u v w : StoreView) → IsMoved old k u v → HasLent kind.Input (is_in_range r.object.0 (off / k.memory.frames.page) (span k.memory.frames.page off len)) r.object.0 (off / k.memory.frames.page) (input_loans p.loans.items) k.memory lent → LiesIn lent r.object.0 off len (input_frames p.loans.items) p.first p.len → Guards r.object.0 r.writable lent.objects os → Wires basic (input_frames p.loans.items) (with_entries lent os) m → IsSized lent w → seen_with lent w ≡ seen_with k.memory v
    → LendsPages old (record k { memory = m }) u w r off len basic (ways.Inward p)
lends_pages law old k lent m os r off len basic p u v w moved loans lies guards wires sized shows =
    let kept = wires_kept law lent m os guards.all basic p k.memory (is_in_range r.object.0 (off / k.memory.frames.page) (span k.memory.frames.page off len)) r.object.0 (off / k.memory.frames.page) loans wires in
    record {
      mid = k.memory;
      clock = k.clock;
      middle = v;
      moved = subst (λ (z : Kernel). IsMoved old z u v) moved.only moved;
      only = ap (λ (z : Kernel). record z { memory = m }) moved.only;
      sized = record { count = sized.count ∙ sym (ap (λ (n : Memory). length n.slots) wires.only); page = sized.page ∙ sym wires.wired.only.page };
      shows = (λ i. option_map (λ slots. kept.is_seen slots i) w.slots) ∙ narrowed_shows lent os w guards.all ∙ shows;
      plan = record { lent = lent; loans = loans; lies = lies; entries = os; guards = guards; wires = wires };
    }

-- the range still lies in the region's pages
pub moved_within : (old k : Kernel) (r : Region) (off len : ℕ) (u v : StoreView) → IsGood old → IsMoved old k u v → Has r (owned_regions old.spaces.processes) → off / old.config.page + span old.config.page off len ≤ length (object_at old.memory.objects r.object.0) → off / k.memory.frames.page + span k.memory.frames.page off len ≤ length (object_at k.memory.objects r.object.0)
moved_within old k r off len u v good moved owned within =
    let page : k.memory.frames.page ≡ old.config.page = moved.good.sized.page ∙ ap (λ (z : Kernel). z.config.page) moved.only in
    let long = backed_long old r good owned in
    let now = backed_long k r moved.good (moved_owned old k r u v moved owned) in
    subst (λ p. off / p + span p off len ≤ length (object_at k.memory.objects r.object.0)) (sym page) (omega (arith, within, long, now))
