-- Weak loans for a call, and what an output call leaves that has them.
use Rattle.std.proofs.Common.{◌≡◌, ℕ, ◌+◌, ◌/◌, ◌<◌, ◌≤◌, ◌^◌, suc, Bool, true, false, not, List, [], ◌∷◌, refl, sym, ap, subst, arith, rules, ◌∙◌, length, get_or}
use Rattle.std.specs.Prelude.{Option, Some, None, All, ◌&&◌, ◌==◌, if◌then◌else◌}
use Rattle.std.specs.Option.{option_map}
use Rattle.std.proofs.lemmas.List.{length-map}
use Rattle.std.proofs.lemmas.List.Sums.{sum_by-cons}
use Rattle.genie_base.specs.Lemmas.Places.{num}
use Rattle.genie_base.specs.Transfers.{class_of, is_strong, is_system, is_emulated}
use Rattle.genie_base.specs.declared.numbers.RegionId.{RegionId}
use Rattle.genie_base.specs.declared.reply.Reply.TheVariants as reply
use Rattle.genie_frame.specs.declared.frame.Counts.{Counts}
use Rattle.genie_frame.specs.declared.frame.OutLoan.{OutLoan}
use Rattle.genie_frame.specs.FrameTable.{FrameTable, counts_at, is_held}
use Rattle.genie_hiding.specs.Hidden.{objects_of}
use Rattle.genie_store.specs.StoreView.{StoreView}
use Rattle.genie_object.specs.declared.memory.Memory.{Memory}
use Rattle.genie_object.specs.declared.objects.Range.{Range}
use Rattle.genie_object.specs.Memory.{Seen, seen, seen_with, entry_frame}
use Rattle.genie_object.specs.Sound.{FitsHidden, IsSized}
use Rattle.genie_object.specs.Touching.{KeepsLoans}
use Rattle.genie_object.specs.Lemmas.Lookup.{frame_known}
use Rattle.genie_object.specs.Lemmas.Touching.{keeps_all, keeps_on}
use Rattle.genie_plan.specs.declared.plan.OutPlan.{OutPlan}
use Rattle.genie_plan.specs.Landings.{AreOfEntries}
use Rattle.genie_plan.specs.Loans.{Loan, loan_times, more, output_kind, output_loan, output_loans}
use Rattle.genie_plan.specs.Loans as kind
use Rattle.genie_plan.specs.Plans.{output_frames, times}
use Rattle.genie_plan.specs.Wiring.{KeepsAll}
use Rattle.genie_plan.specs.Lemmas.Landings.{page_in, times_some}
use Rattle.genie_plan.specs.Lemmas.Ranges.{out_frames_count, times_at}
use Rattle.genie_plan.specs.Lemmas.Wiring.{wires_keep_all}
use Rattle.genie_region.specs.declared.region.Region.{Region}
use Rattle.genie_kernel.specs.declared.kernel.Kernel.{Kernel}
use Rattle.genie_kernel.specs.declared.transfer.Transfer.{Transfer}
use Rattle.genie_kernel.specs.Calls.{is_strong_call, region_number}
use Rattle.genie_kernel.specs.Lending.{LendsFor}
use Rattle.genie_kernel.specs.View.{no_bytes}
use Rattle.genie_changes.specs.Beginning.{Begins}
use Rattle.genie_changes.specs.Making.{IsMoved}
use Rattle.genie_tcow.specs.Lending.{HasLent, IsTakenBack}
use Rattle.genie_tcow.specs.Ranges.{IsPlanOf, first_page, is_of_range}
use Rattle.genie_outputs.specs.declared.call.Call.{Call}
use Rattle.genie_outputs.specs.Answering.{IsAnswered, IsReady}
use Rattle.genie_outputs.specs.Calls.{place_in, transfer_of, with_output}
use Rattle.genie_outputs.specs.OutputLaws.{OutputLaws}
use Rattle.genie_outputs.specs.Sharing.{IsShared, WiredUnless}
use Rattle.genie_outputs.proofs.Answered.{IsTold, begun_answered, taken_back}
use Rattle.genie_outputs.proofs.Lent.{IsShut, only_its, only_shown, shut_there}
use Rattle.genie_outputs.proofs.Loaned.{lends_out, mapped_at}
use Rattle.genie_outputs.proofs.Narrowed.{guards_after}
use Rattle.genie_outputs.proofs.Reached.{can_prepare, fits_device, may_output, reached_owned}
use Rattle.genie_outputs.proofs.Shown.{Shows, needed_same}
use Rattle.genie_hiding.specs.Lemmas.Naming.{fits_kept}

weak_kind : (b : Bool) → output_kind b ≡ kind.Weak → b ≡ false
weak_kind true e = absurd (cc)
weak_kind false e = refl

all_weak : (loans : List OutLoan) → ((k : ℕ) (d : Loan) → k < length (output_loans loans) → (get_or (output_loans loans) k d).kind ≡ kind.Weak) → All (λ (l : OutLoan). l.strong ≡ false) loans
all_weak loans h i d l =
    let long = length-map loans output_loan in
    weak_kind (get_or loans i d).strong (sym (ap (λ (x : Loan). x.kind) (mapped_at output_loan loans i d)) ∙ h i (output_loan d) (omega (arith, l, long)))

weak_times : (loans : List OutLoan) (f : ℕ) → All (λ (l : OutLoan). l.strong ≡ false) loans → loan_times (output_loans loans) kind.Weak f ≡ times (output_frames loans) f
weak_times [] f a = refl
weak_times (x ∷ xs) f a =
    let here = a 0 x (omega arith) in
    let same : num (kind.is_kind kind.Weak (kind.output_kind x.strong) && (x.frame.0 == f)) ≡ num (x.frame.0 == f) = ap (λ (b : Bool). num (kind.is_kind kind.Weak (kind.output_kind b) && (x.frame.0 == f))) here in
    let later = weak_times xs f (λ i d l. a (suc i) d (omega (arith, l))) in
    omega (arith, same, later, sum_by-cons (λ (y : Loan). num (kind.is_kind kind.Weak y.kind && (y.frame == f))) (output_loan x) (output_loans xs), sum_by-cons (λ (g : ℕ). num (g == f)) x.frame.0 (output_frames xs))

one_most : (b : Bool) → num b ≤ 1
one_most true = omega arith
one_most false = omega arith

times_most : (frames : List ℕ) (f : ℕ) → times frames f ≤ length frames
times_most [] f = omega arith
times_most (g ∷ frames) f = omega (arith, times_most frames f, one_most (g == f), sum_by-cons (λ (h : ℕ). num (h == f)) g frames)

held_weak : (c : Counts) → 0 < c.weak → is_held c ≡ true
held_weak c l = grind (arith, rules, l)

module _ (k : Kernel) (m : Memory) (c : Call) (r : Region) (range : Range) (plan : OutPlan) (v w : StoreView) (x : IsReady k c r range v) (lent : HasLent kind.Weak 0 (is_of_range k.memory.frames.page range) (output_loans plan.loans.items) k.memory m v w) (of_entries : AreOfEntries m range.object.0 (first_page k.memory.frames.page range) (output_frames plan.loans.items)) where
  abbrev frames : List ℕ
  frames = output_frames plan.loans.items

  weak_at : (f : ℕ) → 0 < times frames f → 0 < (counts_at m.frames f).weak
  weak_at f l =
      let count : (counts_at m.frames f).weak ≡ (counts_at k.memory.frames f).weak + loan_times (output_loans plan.loans.items) kind.Weak f = ap (λ (d : Counts). d.weak) (lent.counts f) in
      let same = weak_times plan.loans.items f (all_weak plan.loans.items lent.kinds) in
      omega (arith, count, same, l)

  pub frames_held : (f : ℕ) → 0 < times frames f → is_held (counts_at m.frames f) ≡ true
  frames_held f l = held_weak (counts_at m.frames f) (weak_at f l)

  -- the frames are there, and have room for a wire
  pub frames_there : (f : ℕ) → 0 < times frames f → f < length m.frames.owners
  frames_there f l =
      let at = times_some frames f l in
      let e = page_in m range.object.0 (first_page k.memory.frames.page range + at.0) f (of_entries at.0 at.1 ∙ ap Some at.2) in
      frame_known m e.number.0 (record { 0 = f }) lent.sound e.is_place

  pub frames_room : OutputLaws → IsPlanOf k.memory.frames.page range plan.loans.items plan.first plan.len → (f : ℕ) → (counts_at m.frames f).wires + times frames f < 2 ^ 32
  frames_room laws p f =
      let same : (counts_at m.frames f).wires ≡ (counts_at k.memory.frames f).wires = ap (λ (d : Counts). d.wires) (lent.counts f) in
      let low = (laws.low k f x.good).wires in
      let most = times_most frames f in
      let long = out_frames_count plan.loans.items in
      let few = span_few laws p in
      omega (arith, same, low, most, long, few)
    where
      span_few : OutputLaws → IsPlanOf k.memory.frames.page range plan.loans.items plan.first plan.len → length plan.loans.items ≤ 65
      span_few laws p = let most = (can_prepare laws k c r range v x).most in let number = p.number in omega (arith, most, number)

module _ (laws : OutputLaws) (k : Kernel) (m : Memory) (t : FrameTable) (c : Call) (r : Region) (range : Range) (plan : OutPlan) (v w : StoreView) (x : IsReady k c r range v) (weak : is_strong (class_of c.sem) ≡ false) (lent : HasLent kind.Weak 0 (is_of_range k.memory.frames.page range) (output_loans plan.loans.items) k.memory m v w) (of_entries : AreOfEntries m range.object.0 (first_page k.memory.frames.page range) (output_frames plan.loans.items)) (wired : WiredUnless (is_emulated c.sem) (output_frames plan.loans.items) m.frames t) where
  abbrev call : Transfer
  call = transfer_of k c r plan

  abbrev after : Memory
  after = record m { frames = t }

  abbrev wires_of : ℕ → ℕ
  wires_of f = if not (is_emulated c.sem) then times (output_frames plan.loans.items) f else 0

  keeps_by : (b : Bool) → WiredUnless b (output_frames plan.loans.items) m.frames t → KeepsAll m after
  keeps_by true same = subst (λ (z : FrameTable). KeepsAll m (record m { frames = z })) (sym same) (record { sound = lent.sound; is_seen = λ slots. refl; loans = keeps_all m })
  keeps_by false wires = wires_keep_all m t (output_frames plan.loans.items) lent.sound wires (frames_held k m c r range plan v w x lent of_entries)

  all_kept : KeepsAll m after
  all_kept = keeps_by (is_emulated c.sem) wired

  counts_by : (b : Bool) → WiredUnless b (output_frames plan.loans.items) m.frames t → (f : ℕ) → counts_at t f ≡ record (counts_at m.frames f) { wires = (counts_at m.frames f).wires + (if not b then times (output_frames plan.loans.items) f else 0) }
  counts_by true same f = let none : (counts_at m.frames f).wires ≡ (counts_at m.frames f).wires + 0 = omega arith in ap (λ (z : FrameTable). counts_at z f) same ∙ (λ i. record (counts_at m.frames f) { wires = none i })
  counts_by false wires f = wires.counts f

  counts_now : (f : ℕ) → counts_at t f ≡ record (counts_at m.frames f) { wires = (counts_at m.frames f).wires + wires_of f }
  counts_now f = counts_by (is_emulated c.sem) wired f

  lends : LendsFor call k.memory.frames.counts t.counts
  lends f =
      let old = counts_at k.memory.frames f in
      let on : wires_of f ≡ (if not (is_strong_call call) && not (is_emulated c.sem) then times (output_frames plan.loans.items) f else 0) = sym (ap (λ (b : Bool). if not b && not (is_emulated c.sem) then times (output_frames plan.loans.items) f else 0) weak) in
      counts_now f ∙ (λ i. record (lent.counts f i) { wires = (lent.counts f i).wires + on i })

  held_same : (f : ℕ) → is_held (counts_at t f) ≡ is_held (counts_at m.frames f)
  held_same f = ap is_held (counts_now f)

  -- wires are nothing to the hidden regions
  hidden_fit : FitsHidden after (objects_of k.hidden)
  hidden_fit =
      let f = fits_kept (is_of_range k.memory.frames.page range) k.memory m (objects_of k.hidden) x.good.sound lent.touches lent.keeps.entries (only_shown k c r range v x k.memory.frames.page) x.good.cached in
      record {
        cached = λ j l. let e = f.cached j l in record { there = e.there; own = e.own; frame = e.frame; in_frame = e.in_frame; unheld = λ i p is. held_same (e.frame i p is).0 ∙ e.unheld i p is };
        apart = f.apart;
      }

  named : region_number call ≡ Some r.id.0
  named = ap (λ (b : Bool). option_map (λ (n : RegionId). n.0) (if b then None else Some r.id)) weak

  placed : (j : ℕ) → j < length (output_frames plan.loans.items) → entry_frame after r.object.0 (place_in k.config.page c r / k.config.page + j) ≡ Some (get_or (output_frames plan.loans.items) j 0)
  placed j l =
      let page : k.memory.frames.page ≡ k.config.page = x.good.sized.page in
      sym (λ i. entry_frame after (x.range_is i).object.0 ((x.range_is i).off / page i + j)) ∙ of_entries j l

  pub weak_begins : KeepsLoans k.memory m → IsPlanOf k.memory.frames.page range plan.loans.items plan.first plan.len → IsShut m r range → Begins k after call
  weak_begins keeps p shut =
      let plan_is = subst (λ z. IsPlanOf k.memory.frames.page z plan.loans.items plan.first plan.len) x.range_is p in
      laws.weak k after r call x.good (record {
        sound = all_kept.sound;
        cached = hidden_fit;
        guarded = guards_after k m r (is_of_range k.memory.frames.page range) x.good (reached_owned k c r x.reached) lent.touches (only_its k c r range v x k.memory.frames.page) (shut_there k c m r range v x shut);
        keeps = keeps_on k.memory m after keeps all_kept.loans;
        lends = lends;
        lies = record {
          weak = weak;
          named = named;
          owned = reached_owned k c r x.reached;
          placed = placed;
          held = λ j l. let f = get_or (output_frames plan.loans.items) j 0 in held_same f ∙ frames_held k m c r range plan v w x lent of_entries f (times_at (output_frames plan.loans.items) j l);
        };
        plan = lends_out k c r plan false weak x.good (all_weak plan.loans.items lent.kinds) plan_is;
        device = fits_device k c x.good (may_output k c x.accepted);
      })

  after_seen : seen_with after w ≡ seen_with m w
  after_seen j = option_map (λ slots. all_kept.is_seen slots j) w.slots

  after_sized : IsSized m w → IsSized after w
  after_sized s = let same = all_kept.loans.page in record { count = s.count; page = s.page ∙ sym same }

  pub shared : KeepsLoans k.memory m → IsPlanOf k.memory.frames.page range plan.loans.items plan.first plan.len → IsShut m r range → IsSized m w → seen_with m w ≡ seen_with k.memory v → IsShared k after c r plan v w
  shared keeps p shut sized seen = record { begins = weak_begins keeps p shut; sized = after_sized sized; shows = after_seen ∙ seen }

-- loans that were taken back
pub unshared : (laws : OutputLaws) (k : Kernel) (m : Memory) (c : Call) (r : Region) (range : Range) (v w : StoreView) → IsReady k c r range v → IsTakenBack (is_of_range k.memory.frames.page range) k.memory m v w → IsShut m r range → IsSized m w → IsMoved k (record k { memory = m }) v w
unshared laws k m c r range v w x back shut sized =
    let spoken = is_of_range k.memory.frames.page range in
    let guarded = guards_after k m r spoken x.good (reached_owned k c r x.reached) back.touches (only_its k c r range v x k.memory.frames.page) (shut_there k c m r range v x shut) in
    laws.moved k (record k { memory = m }) v w x.good refl (taken_back k m v w spoken x.good (only_shown k c r range v x k.memory.frames.page) guarded sized back)

-- a weak call shows nothing but what was shown
pub weak_shows : (k : Kernel) (c : Call) (r : Region) (plan : OutPlan) (s : Seen) → is_strong (class_of c.sem) ≡ false → Shows k c r plan s s
weak_shows k c r plan s weak = record { entries = refl; same = needed_same k s.kept_bytes; payload = λ strong. let clash : false ≡ true = sym weak ∙ strong in absurd (cc) }

pub weak_told : (k : Kernel) (m : Memory) (c : Call) (r : Region) (plan : OutPlan) (v w : StoreView) → is_strong (class_of c.sem) ≡ false → seen_with m w ≡ seen_with k.memory v → (slots : ℕ → List ℕ) → v.slots ≡ Some slots → IsTold k m c r plan w.slots slots
weak_told k m c r plan v w weak shows slots is = by w.slots shows
  where
    by : (u : Option (ℕ → List ℕ)) → option_map (seen m) u ≡ option_map (seen k.memory) v.slots → IsTold k m c r plan u slots
    by None e = let clash : None ≡ Some (seen k.memory slots) = e ∙ ap (option_map (seen k.memory)) is in absurd (cc)
    by (Some d) e =
        let both : Some (seen m d) ≡ Some (seen k.memory slots) = e ∙ ap (option_map (seen k.memory)) is in
        let shown : seen m d ≡ seen k.memory slots = cc in
        record { there = d; is = refl; shows = subst (λ (s : Seen). Shows k c r plan (seen k.memory slots) s) (sym shown) (weak_shows k c r plan (seen k.memory slots) weak) }

-- what an output call leaves that shares its buffer
pub shared_answered : (laws : OutputLaws) (k new : Kernel) (m : Memory) (c : Call) (r : Region) (range : Range) (plan : OutPlan) (v w : StoreView) → IsReady k c r range v → is_strong (class_of c.sem) ≡ false → is_system (class_of c.sem) ≡ false → IsShared k m c r plan v w → w.faults ≡ v.faults → new ≡ with_output k m c r plan → IsAnswered k c new v w (reply.Id k.next)
shared_answered laws k new m c r range plan v w x weak app s same is =
    subst (λ z. IsAnswered k c z v w (reply.Id k.next)) (sym is) (begun_answered laws k m c r range plan v w x app s.begins s.sized same (weak_shows k c r plan (no_bytes k.config.page).seen weak) (weak_told k m c r plan v w weak s.shows))
