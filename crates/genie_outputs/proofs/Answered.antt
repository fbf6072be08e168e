-- What an output call leaves.
use Rattle.std.proofs.Common.{◌≡◌, ℕ, ◌+◌, ◌≤◌, Bool, true, false, List, refl, sym, ap, subst, arith, ◌∙◌}
use Rattle.std.specs.Prelude.{Option, Some, None, IfSome, ⊤}
use Rattle.std.specs.Option.{option_map}
use Rattle.genie_base.specs.Events.{mark_of}
use Rattle.genie_base.specs.Transfers.{class_of, is_system}
use Rattle.genie_base.specs.declared.reply.Reply.{Reply}
use Rattle.genie_base.specs.declared.reply.Reply.TheVariants as reply
use Rattle.genie_store.specs.StoreView.{StoreView}
use Rattle.genie_object.specs.declared.memory.Memory.{Memory}
use Rattle.genie_object.specs.declared.objects.Range.{Range}
use Rattle.genie_object.specs.Memory.{Seen, seen, seen_with}
use Rattle.genie_object.specs.Sound.{IsSized}
use Rattle.genie_hiding.specs.Hidden.{objects_of, is_among}
use Rattle.genie_hiding.specs.Lemmas.Naming.{fits_kept}
use Rattle.genie_plan.specs.declared.plan.OutPlan.{OutPlan}
use Rattle.genie_plan.specs.Loans.{output_loans}
use Rattle.genie_plan.specs.Loans as kind
use Rattle.genie_plan.specs.Plans.{CanSend}
use Rattle.genie_region.specs.declared.region.Region.{Region}
use Rattle.genie_model.specs.Refusing.{refuse}
use Rattle.genie_kernel.specs.declared.kernel.Kernel.{Kernel}
use Rattle.genie_kernel.specs.declared.transfer.Transfer.{Transfer}
use Rattle.genie_kernel.specs.Backed.{AreGuarded}
use Rattle.genie_kernel.specs.Good.{IsGood}
use Rattle.genie_kernel.specs.Kept.{Kept}
use Rattle.genie_kernel.specs.Regions.{owned_regions, region_view}
use Rattle.genie_kernel.specs.Steps.{Steps, StepsTold, StoreCause}
use Rattle.genie_kernel.specs.Told.{rests_of, sents_of}
use Rattle.genie_kernel.specs.View.{Bytes, state_of, outline, no_bytes, bytes_with, view}
use Rattle.genie_kernel.specs.Lemmas.Stepping.{accepted_step}
use Rattle.genie_changes.specs.Beginning.{Begins, HasParts}
use Rattle.genie_changes.specs.Making.{IsMoved, ShowsAndLends}
use Rattle.genie_tcow.specs.Lending.{HasLent, IsTakenBack, see_lent}
use Rattle.genie_tcow.specs.Ranges.{IsPlanOf, SendsRange}
use Rattle.genie_outputs.specs.declared.call.Call.{Call}
use Rattle.genie_outputs.specs.Answering.{IsAnswered, IsReady}
use Rattle.genie_outputs.specs.Calls.{event_of, range_of, transfer_of, with_output}
use Rattle.genie_outputs.specs.OutputLaws.{OutputLaws}
use Rattle.genie_outputs.proofs.Loaned.{new_output}
use Rattle.genie_outputs.proofs.Pages.{HasPages}
use Rattle.genie_outputs.proofs.Shown.{Shows, strong_shows}
use Rattle.genie_outputs.proofs.Stepping.{state_with, stays, steps_to}

pub moved_config : (old new : Kernel) (v w : StoreView) → IsMoved old new v w → new.config ≡ old.config
moved_config old new v w moved = ap (λ (k : Kernel). k.config) moved.only

pub moved_numbers : (old new : Kernel) (v w : StoreView) → IsMoved old new v w → new.next ≤ old.next + 1
moved_numbers old new v w moved = let same : new.next ≡ old.next = ap (λ (k : Kernel). k.next) moved.only in omega (arith, same)

-- after room was made, what the rest of the call answers is the call's answer
pub answered_since : OutputLaws → (old mid new : Kernel) (c : Call) (u v w : StoreView) (r : Reply) → IsMoved old mid u v → v.faults ≡ u.faults → IsAnswered mid c new v w r → IsAnswered old c new u w r
answered_since laws old mid new c u v w r moved same a = record {
  good = a.good;
  sized = a.sized;
  kept = laws.since old mid new u v moved a.kept;
  config = a.config ∙ moved_config old mid u v moved;
  numbers = (let was : mid.next ≡ old.next = ap (λ (k : Kernel). k.next) moved.only in let most = a.numbers in omega (arith, most, was));
  step = λ host. subst (λ x. StepsTold x (event_of c) (view new host w) r) (moved.told host) (a.step host);
  cause = subst (λ n. StoreCause (mark_of r) n w.faults) same a.cause;
}

failed_step : (k : Kernel) (c : Call) (o : Option Bytes) → refuse (outline k) (event_of c) ≡ None → StepsTold (option_map (state_of k) o) (event_of c) (option_map (state_of k) o) reply.StoreFault
failed_step k c None h = tt
failed_step k c (Some b) h = accepted_step k b (event_of c) (state_of k b) reply.StoreFault h (record { state = refl; reply_is = refl })

-- where the store failed nothing has changed that is seen
pub failed_answered : (k new : Kernel) (c : Call) (v w : StoreView) → refuse (outline k) (event_of c) ≡ None → IsMoved k new v w → StoreCause (mark_of reply.StoreFault) v.faults w.faults → IsAnswered k c new v w reply.StoreFault
failed_answered k new c v w accepted moved cause = record {
  good = moved.good;
  sized = moved.sized;
  kept = moved.kept;
  config = moved_config k new v w moved;
  numbers = moved_numbers k new v w moved;
  step = λ host. subst (λ x. StepsTold (view k host v) (event_of c) x reply.StoreFault) (sym (moved.told host)) (failed_step k c _ accepted);
  cause = cause;
}

-- loans that were taken back leave what is seen and lent
pub taken_back : (k : Kernel) (m : Memory) (v w : StoreView) (spoken : ℕ → ℕ → Bool) → IsGood k → ((o i : ℕ) → is_among o (objects_of k.hidden) ≡ true → spoken o i ≡ false) → AreGuarded m.objects (owned_regions k.spaces.processes) → IsSized m w → IsTakenBack spoken k.memory m v w → ShowsAndLends k m v w
taken_back k m v w spoken g silent guarded sized x = record {
  sound = x.sound;
  sized = sized;
  cached = fits_kept spoken k.memory m (objects_of k.hidden) g.sound x.touches x.keeps.entries silent g.cached;
  guarded = guarded;
  shows = x.shows;
  keeps = x.keeps;
  counts = x.counts;
}

-- the store tells these bytes afterwards, over which the transfer shows as it should
pub record IsTold (k : Kernel) (m : Memory) (c : Call) (r : Region) (plan : OutPlan) (after : Option (ℕ → List ℕ)) (slots : ℕ → List ℕ) : Type 0 where
  pub there : ℕ → List ℕ
  pub is : after ≡ Some there
  pub shows : Shows k c r plan (seen k.memory slots) (seen m there)

abbrev pub over : Seen → (ℕ → List ℕ) → (ℕ → List ℕ) → Bytes
over s rests sents = record { seen = s; rests = rests; sents = sents }

pub nothing_asked : (o : Option (ℕ → List ℕ)) → IfSome o (λ slots. ⊤)
nothing_asked None = tt
nothing_asked (Some slots) = tt

module _ (laws : OutputLaws) (k : Kernel) (m : Memory) (c : Call) (r : Region) (range : Range) (plan : OutPlan) (v w : StoreView) (x : IsReady k c r range v) where
  -- one step, where both states are told, over slots of which something is so
  told_by : (final : Kernel) (P : (ℕ → List ℕ) → Type 0) → ((a d rs ss : ℕ → List ℕ) → Shows k c r plan (seen k.memory a) (seen m d) → P d → Steps (state_of k (over (seen k.memory a) rs ss)) (event_of c) (state_of final (over (seen final.memory d) rs ss)) (reply.Id k.next))
      → (t u rests sents : Option (ℕ → List ℕ)) → IfSome u P → ((slots : ℕ → List ℕ) → t ≡ Some slots → IsTold k m c r plan u slots) → StepsTold (option_map (state_of k) (bytes_with (option_map (seen k.memory) t) rests sents)) (event_of c) (option_map (state_of final) (bytes_with (option_map (seen final.memory) u) rests sents)) (reply.Id k.next)
  told_by final P step None u rests sents so told = tt
  told_by final P step (Some a) u None sents so told = tt
  told_by final P step (Some a) u (Some rs) None so told = tt
  told_by final P step (Some a) None (Some rs) (Some ss) so told = let z = told a refl in let clash = z.is in absurd (cc)
  told_by final P step (Some a) (Some d) (Some rs) (Some ss) so told =
      let z = told a refl in
      let is : Some d ≡ Some z.there = z.is in
      let same : d ≡ z.there = cc in
      let shows = subst (λ s. Shows k c r plan (seen k.memory a) (seen m s)) (sym same) z.shows in
      accepted_step k (over (seen k.memory a) rs ss) (event_of c) (state_of final (over (seen final.memory d) rs ss)) (reply.Id k.next) x.accepted (step a d rs ss shows so)

  -- what is left where all that is asked is so
  pub answered_by : (final : Kernel) (P : (ℕ → List ℕ) → Type 0) → final.config ≡ k.config → final.next ≡ k.next + 1 → IsGood final → Kept k final → IsSized final.memory w → w.faults ≡ v.faults → ((a d rs ss : ℕ → List ℕ) → Shows k c r plan (seen k.memory a) (seen m d) → P d → Steps (state_of k (over (seen k.memory a) rs ss)) (event_of c) (state_of final (over (seen final.memory d) rs ss)) (reply.Id k.next))
      → IfSome w.slots P → ((slots : ℕ → List ℕ) → v.slots ≡ Some slots → IsTold k m c r plan w.slots slots) → IsAnswered k c final v w (reply.Id k.next)
  answered_by final P config next good kept sized same step so told = record {
    good = good;
    sized = sized;
    kept = kept;
    config = config;
    numbers = omega (arith, next);
    step = λ host.
        let by = told_by final P step v.slots w.slots (rests_of host k.config) (sents_of host k.config) so told in
        subst (λ z. StepsTold (view k host v) (event_of c) (option_map (state_of final) (bytes_with (seen_with final.memory w) (rests_of host z) (sents_of host z))) (reply.Id k.next)) (sym config) by;
    cause = same;
  }

  -- the kernel afterwards is good, where its outline is what the event steps to
  pub good_by : (final : Kernel) → HasParts final → Steps (outline k) (event_of c) (outline final) (reply.Id k.next) → IsGood final
  good_by final parts outlined = laws.good final parts (laws.orderly (outline k) (outline final) (event_of c) (reply.Id k.next) refl x.accepted outlined x.good.orderly)

  abbrev after : Kernel
  after = with_output k m c r plan

  -- one step, where the buffer isn't given up
  waits_step : is_system (class_of c.sem) ≡ false → (b new : Bytes) → Shows k c r plan b.seen new.seen → new.rests ≡ b.rests → new.sents ≡ b.sents → Steps (state_of k b) (event_of c) (state_of after new) (reply.Id k.next)
  waits_step app b new shows rests sents = steps_to k after c r b new x.reached (state_with k c r plan b new shows laws x.good x.reached m rests sents ∙ sym (stays _ (class_of c.sem) (region_view b.seen.entry_bytes r) app))

  -- what is left where the call waits and keeps its buffer
  pub begun_answered : is_system (class_of c.sem) ≡ false → Begins k m (transfer_of k c r plan) → IsSized m w → w.faults ≡ v.faults → Shows k c r plan (no_bytes k.config.page).seen (no_bytes k.config.page).seen → ((slots : ℕ → List ℕ) → v.slots ≡ Some slots → IsTold k m c r plan w.slots slots) → IsAnswered k c after v w (reply.Id k.next)
  begun_answered app begins sized same outlined told =
      let t : Transfer = transfer_of k c r plan in
      let none = no_bytes k.config.page in
      let good = good_by after (laws.parts k m t x.good (new_output k c r plan) begins) (waits_step app none none outlined refl refl) in
      answered_by after (λ slots. ⊤) refl refl good (laws.kept k m t x.good begins) sized same (λ a d rs ss shows so. waits_step app (over (seen k.memory a) rs ss) (over (seen m d) rs ss) shows refl refl) (nothing_asked w.slots) told

  -- a strong call tells so
  pub strong_told : (spoken : ℕ → ℕ → Bool) → HasLent kind.Strong k.next spoken (output_loans plan.loans.items) k.memory m v w → IfSome v.slots (HasPages v) → IsPlanOf k.memory.frames.page range plan.loans.items plan.first plan.len → CanSend m.frames plan.loans.items plan.first plan.len → SendsRange k.memory m v range plan.loans.items plan.first plan.len → (slots : ℕ → List ℕ) → v.slots ≡ Some slots → IsTold k m c r plan w.slots slots
  strong_told spoken lent paged p ready sends slots is = by w.slots lent.shows
    where
      by : (u : Option (ℕ → List ℕ)) → option_map (seen m) u ≡ option_map (see_lent kind.Strong (output_loans plan.loans.items) m.frames) (option_map (seen k.memory) v.slots) → IsTold k m c r plan u slots
      by None e = let clash : None ≡ Some (see_lent kind.Strong (output_loans plan.loans.items) m.frames (seen k.memory slots)) = e ∙ ap (λ o. option_map (see_lent kind.Strong (output_loans plan.loans.items) m.frames) (option_map (seen k.memory) o)) is in absurd (cc)
      by (Some d) e =
          let both : Some (seen m d) ≡ Some (see_lent kind.Strong (output_loans plan.loans.items) m.frames (seen k.memory slots)) = e ∙ ap (λ o. option_map (see_lent kind.Strong (output_loans plan.loans.items) m.frames) (option_map (seen k.memory) o)) is in
          let shown : seen m d ≡ see_lent kind.Strong (output_loans plan.loans.items) m.frames (seen k.memory slots) = cc in
          let pages : HasPages v slots = subst (λ o. IfSome o (HasPages v)) is paged in
          let plan_is = subst (λ z. IsPlanOf k.memory.frames.page z plan.loans.items plan.first plan.len) x.range_is p in
          let sent : SendsRange k.memory m (record v { slots = Some slots }) (range_of k.config.page c r) plan.loans.items plan.first plan.len = subst (λ o. SendsRange k.memory m (record v { slots = o }) (range_of k.config.page c r) plan.loans.items plan.first plan.len) is (subst (λ z. SendsRange k.memory m v z plan.loans.items plan.first plan.len) x.range_is sends) in
          record { there = d; is = refl; shows = subst (λ (s : Seen). Shows k c r plan (seen k.memory slots) s) (sym shown) (strong_shows k m c r plan v w spoken x.good lent slots x.sized pages x.reached plan_is ready sent) }
