-- A weak input whose pages are lent in place.
use Rattle.std.proofs.Common.{◌≡◌, ℕ, ◌+◌, ◌/◌, ◌<◌, Bool, true, false, List, refl, sym, ap, subst, arith, rules, ◌∙◌, get_or, ⊎_elim, eqb-true, inl, inr}
use Rattle.std.specs.Prelude.{Some, None, unwrap_or, not, nat_le, nat_lt, ◌==◌, ◌&&◌, if◌then◌else◌}
use Rattle.std.proofs.lemmas.Bool.{cases_Bool, eq-eqb}
use Rattle.std.proofs.lemmas.Bool.Decides.{eqb_tells}
use Rattle.genie_base.specs.Counts.{span}
use Rattle.genie_base.specs.Transfers.{class_of, is_strong, is_emulated}
use Rattle.genie_base.specs.declared.numbers.TransferId.{TransferId}
use Rattle.genie_base.specs.declared.semantics.Direction.TheVariants.{Inward}
use Rattle.genie_frame.specs.declared.frame.Counts.{Counts}
use Rattle.genie_frame.specs.FrameTable.{FrameTable, counts_at, is_held}
use Rattle.genie_input.specs.Lending.{HasLent}
use Rattle.genie_object.specs.declared.memory.Memory.{Memory}
use Rattle.genie_object.specs.declared.objects.Entry.{Entry}
use Rattle.genie_object.specs.Memory.{entry_frame, frame_of}
use Rattle.genie_object.specs.Objects.{entry_at}
use Rattle.genie_object.specs.Sound.{IsCached, FitsHidden}
use Rattle.genie_object.specs.Touching.{KeepsLoans, Touches, is_in_range}
use Rattle.genie_object.specs.Lemmas.Touching.{keeps_on}
use Rattle.genie_hiding.specs.Hidden.{objects_of, is_among}
use Rattle.genie_plan.specs.declared.plan.InPlan.{InPlan}
use Rattle.genie_plan.specs.Loans.{input_loans, loan_times, more}
use Rattle.genie_plan.specs.Loans as kind
use Rattle.genie_plan.specs.Plans.{times, input_frames}
use Rattle.genie_plan.specs.Lemmas.Ranges.{times_at}
use Rattle.genie_plan.specs.Wiring.{Wired, WiresKeep, KeepsAll}
use Rattle.genie_region.specs.declared.region.Region.{Region}
use Rattle.genie_model.specs.Lemmas.Lists.{Has, has_any, has_at}
use Rattle.genie_model.specs.Tables.{entry}
use Rattle.genie_kernel.specs.declared.kernel.Kernel.{Kernel}
use Rattle.genie_kernel.specs.declared.transfer.Loans.TheVariants as ways
use Rattle.genie_kernel.specs.declared.transfer.Transfer.{Transfer}
use Rattle.genie_kernel.specs.Backed.{AreGuarded}
use Rattle.genie_kernel.specs.Calls.{begins_at, is_copy_input, names_weakly}
use Rattle.genie_kernel.specs.Counted.{wires_on}
use Rattle.genie_kernel.specs.Good.{IsGood}
use Rattle.genie_kernel.specs.Lending.{LendsFor}
use Rattle.genie_kernel.specs.Orphans.{is_owned}
use Rattle.genie_kernel.specs.Planned.{Lends, LendsInput, LendsRange, FitsDevice, is_early_device}
use Rattle.genie_kernel.specs.Regions.{has_id, owned_regions}
use Rattle.genie_kernel.specs.Lemmas.Keeping.{hidden_kept}
use Rattle.genie_changes.specs.Beginning.{Begins, WeakBegins}
use Rattle.genie_changes.specs.Lemmas.Once.{same_object}
use Rattle.genie_changes.specs.Lemmas.Outside.{unhidden}
use Rattle.genie_spaces.specs.Lemmas.Forbidding.{narrowed_keeps, narrowed_sound, narrowed_touches, with_entries}
use Rattle.genie_spaces.specs.Permissions.{Guards, NarrowsAll}
use Rattle.genie_inputs.specs.declared.call.Call.{Call}
use Rattle.genie_inputs.specs.Calls.{transfer_of}
use Rattle.genie_inputs.specs.Places.{LendsRangeOf, Wires, wired_frames}
use Rattle.genie_inputs.proofs.Buffered.{input_times, no_strong, no_weak}

held_more : (c : Counts) (n : ℕ) → 0 < n → is_held (record c { input = c.input + n }) ≡ true
held_more c n l = grind (arith, rules, l)

held_input : (c d : Counts) → d.input ≡ c.input → d.weak ≡ c.weak → is_held d ≡ is_held c
held_input c d input weak = λ i. is_held (record c { input = input i; weak = weak i })

wired_some : (basic : Bool) (frames : List ℕ) (f : ℕ) → 0 < times (wired_frames basic frames) f → 0 < times frames f
wired_some true frames f l = l
wired_some false frames f l = absurd (omega (arith, l))

wired_count : (basic : Bool) (frames : List ℕ) (f : ℕ) → times (wired_frames basic frames) f ≡ (if basic then times frames f else 0)
wired_count true frames f = refl
wired_count false frames f = refl

-- wires are no matter to hidden regions
wired_cached : (m : Memory) (t : FrameTable) (frames : List ℕ) → Wired frames m.frames t → (o : ℕ) → IsCached m o → IsCached (record m { frames = t }) o
wired_cached m t frames w o c = record { there = c.there; own = c.own; frame = c.frame; in_frame = c.in_frame; unheld = λ i p e. ap is_held (w.counts (c.frame i p e).0) ∙ c.unheld i p e }

wired_fits : (m : Memory) (t : FrameTable) (frames : List ℕ) (objects : List ℕ) → Wired frames m.frames t → FitsHidden m objects → FitsHidden (record m { frames = t }) objects
wired_fits m t frames objects w f = record { cached = λ j l. wired_cached m t frames w (get_or objects j 0) (f.cached j l); apart = f.apart }

not_one : (a b : ℕ) → (a ≡ b → ⊥) → (a == b) ≡ false
not_one a b never = ⊎_elim (λ (e : (a == b) ≡ true). absurd (never (eqb-true a b e))) (λ e. e) (cases_Bool (a == b))

still : (p q : Bool) → (p ≡ true → q ≡ true) → q ≡ false → p ≡ false
still true q f e = let t = f refl in cc
still false q f e = refl

-- calls on pages of a region leave hidden regions and other regions' permissions as they are
module _ (k : Kernel) (m : Memory) (r : Region) (first n : ℕ) (good : IsGood k) (owned : Has r (owned_regions k.spaces.processes)) (keeps : KeepsLoans k.memory m) (touches : Touches (is_in_range r.object.0 first n) k.memory m) where
  out_of_range : (q i : ℕ) → (q ≡ r.object.0 → ⊥) → is_in_range r.object.0 first n q i ≡ false
  out_of_range q i never = ap (λ b. b && nat_le first i && nat_lt i (first + n)) (not_one q r.object.0 never)

  pub touched_cached : FitsHidden m (objects_of k.hidden)
  touched_cached = hidden_kept (is_in_range r.object.0 first n) k.memory m (objects_of k.hidden) good.sound keeps touches
      (λ q i among. out_of_range q i (λ same. let clash : true ≡ false = sym among ∙ ap (λ z. is_among z (objects_of k.hidden)) same ∙ unhidden k good r owned in absurd (cc)))
      good.cached

  -- once the region has no permission more than it may have
  pub touched_guarded : (os : List (List Entry)) → Guards r.object.0 r.writable m.objects os → AreGuarded os (owned_regions k.spaces.processes)
  touched_guarded os guards = λ j d l shut i.
      let q = get_or (owned_regions k.spaces.processes) j d in
      elim (eqb_tells q.object.0 r.object.0) [
        | inl e ↦
            let one = same_object k q r good (has_at (owned_regions k.spaces.processes) j d l) owned e.1 in
            ap (λ o. (entry_at os o i).writable) e.1 ∙ guards.shut (sym (ap (λ (y : Region). y.writable) one) ∙ shut) i
        | inr e ↦
            let spoken = ap (λ b. b && nat_le first i && nat_lt i (first + n)) e.0 in
            let was = still (entry_at m.objects q.object.0 i).writable (entry_at k.memory.objects q.object.0 i).writable (touches.entries q.object.0 i spoken).writable (good.guarded j d l shut i) in
            still (entry_at os q.object.0 i).writable (entry_at m.objects q.object.0 i).writable (guards.all.narrows q.object.0 i).writable was
      ]

module _ (law : WiresKeep) (lent m : Memory) (os : List (List Entry)) (narrow : NarrowsAll lent.objects os) (basic : Bool) (p : InPlan) (old : Memory) (spoken : ℕ → ℕ → Bool) (o i : ℕ) (loans : HasLent kind.Input spoken o i (input_loans p.loans.items) old lent) (wires : Wires basic (input_frames p.loans.items) (with_entries lent os) m) where
  pub lent_counts : (f : ℕ) → counts_at lent.frames f ≡ record (counts_at old.frames f) { input = (counts_at old.frames f).input + times (input_frames p.loans.items) f }
  lent_counts f =
      let c0 = counts_at old.frames f in
      let strong : c0.strong + loan_times (input_loans p.loans.items) kind.Strong f ≡ c0.strong = omega (arith, no_strong f p.loans.items) in
      let unweak : c0.weak + loan_times (input_loans p.loans.items) kind.Weak f ≡ c0.weak = omega (arith, no_weak f p.loans.items) in
      let input : c0.input + loan_times (input_loans p.loans.items) kind.Input f ≡ c0.input + times (input_frames p.loans.items) f = omega (arith, input_times f p.loans.items) in
      loans.counts f ∙ (λ j. record c0 { strong = strong j; weak = unweak j; input = input j })

  pub lent_held : (f : ℕ) → 0 < times (input_frames p.loans.items) f → is_held (counts_at lent.frames f) ≡ true
  lent_held f l = ap is_held (lent_counts f) ∙ held_more (counts_at old.frames f) (times (input_frames p.loans.items) f) l

  -- wires on them change nothing but counts of wires
  pub wires_kept : KeepsAll (with_entries lent os) m
  wires_kept = subst (KeepsAll (with_entries lent os)) (sym wires.only) (law (with_entries lent os) m.frames (wired_frames basic (input_frames p.loans.items)) (narrowed_sound lent os narrow loans.sound) wires.wired (λ f l. lent_held f (wired_some basic (input_frames p.loans.items) f l)))

module _ (wires : WiresKeep) (law : WeakBegins) (k : Kernel) (m : Memory) (c : Call) (id : TransferId) (r : Region) (off : ℕ) (p : InPlan) (basic : Bool) (good : IsGood k) (owned : Has r (owned_regions k.spaces.processes)) (weak : is_strong (class_of c.sem) ≡ false) (uncopied : is_copy_input (class_of c.sem) Inward ≡ false) (basic_is : basic ≡ not (is_emulated c.sem)) (x : LendsRangeOf r off c.len basic k.memory m p) (device : FitsDevice c.len (entry k.devices c.dev)) where
  abbrev t : Transfer
  t = transfer_of c id 0 (Some r.id) off (ways.Inward p)

  abbrev o : ℕ
  o = r.object.0

  abbrev frames : List ℕ
  frames = input_frames p.loans.items

  abbrev first : ℕ
  first = off / k.memory.frames.page

  abbrev many : ℕ
  many = span k.memory.frames.page off c.len

  abbrev regions : List Region
  regions = owned_regions k.spaces.processes

  abbrev spoken : ℕ → ℕ → Bool
  spoken = is_in_range o first many

  abbrev narrow : NarrowsAll x.lent.objects x.entries
  narrow = x.guards.all

  abbrev shut : Memory
  shut = with_entries x.lent x.entries

  all_kept : KeepsAll shut m
  all_kept = wires_kept wires x.lent m x.entries narrow basic p k.memory spoken o first x.loans x.wires

  cached : FitsHidden m (objects_of k.hidden)
  cached = subst (λ n. FitsHidden n (objects_of k.hidden)) (sym x.wires.only)
      (wired_fits shut m.frames (wired_frames basic frames) (objects_of k.hidden) x.wires.wired
      (hidden_kept (λ a b. false) x.lent shut (objects_of k.hidden) x.loans.sound (narrowed_keeps x.lent x.entries narrow) (narrowed_touches x.lent x.entries narrow) (λ a b among. refl)
      (touched_cached k x.lent r first many good owned x.loans.keeps x.loans.touches)))

  guarded : AreGuarded m.objects regions
  guarded = subst (λ (es : List (List Entry)). AreGuarded es regions) (sym (ap (λ (n : Memory). n.objects) x.wires.only))
      (touched_guarded k x.lent r first many good owned x.loans.keeps x.loans.touches x.entries x.guards)

  page_is : x.lent.frames.page ≡ k.config.page
  page_is = x.loans.keeps.page ∙ good.sized.page

  wiring : (f : ℕ) → times (wired_frames basic frames) f ≡ wires_on f t
  wiring f = wired_count basic frames f ∙ ap (λ b. if b then times frames f else 0) (basic_is ∙ sym (ap (λ s. not s && not (is_emulated c.sem)) weak))

  lends : LendsFor t k.memory.frames.counts m.frames.counts
  lends f =
      let c0 = counts_at k.memory.frames f in
      let wired : c0.wires + times (wired_frames basic frames) f ≡ c0.wires + wires_on f t = ap (λ n. c0.wires + n) (wiring f) in
      x.wires.wired.counts f
      ∙ ap (λ (y : Counts). record y { wires = y.wires + times (wired_frames basic frames) f }) (x.loans.counts f)
      ∙ (λ i. record (more (input_loans p.loans.items) f c0) { wires = wired i })

  begins : begins_at t ≡ off
  begins = ap (λ b. unwrap_or (if b then Some 0 else None) off) uncopied

  frame_same : (i : ℕ) → entry_frame m o i ≡ entry_frame x.lent o i
  frame_same i = ap (λ (n : Memory). entry_frame n o i) x.wires.only ∙ ap (frame_of x.lent.pages.pages) (narrow.narrows o i).page

  plan : Lends k.config.page m.frames.owners (is_early_device (entry k.devices c.dev)) t Inward
  plan = subst (LendsInput k.config.page m.frames.owners (is_early_device (entry k.devices c.dev)) t) (sym weak)
      (subst (λ at. LendsRange k.config.page at c.len frames p.first p.len) (sym begins)
      (subst (λ page. LendsRange page off c.len frames p.first p.len) page_is (record { pages = x.lies.number; begins = x.lies.first_is; length_kept = x.lies.len_is })))

  pub weak_begins : Begins k m t
  weak_begins = law k m r t good (record {
    sound = all_kept.sound;
    cached = cached;
    guarded = guarded;
    keeps = keeps_on k.memory x.lent m x.loans.keeps (keeps_on x.lent shut m (narrowed_keeps x.lent x.entries narrow) all_kept.loans);
    lends = lends;
    lies = record {
      weak = weak;
      named = refl;
      owned = owned;
      placed = λ j l. frame_same (off / k.config.page + j) ∙ subst (λ page. entry_frame x.lent o (off / page + j) ≡ Some (get_or frames j 0)) page_is (x.lies.of_entries j l);
      held = λ j l. all_kept.loans.held (get_or frames j 0) (lent_held wires x.lent m x.entries narrow basic p k.memory spoken o first x.loans x.wires (get_or frames j 0) (times_at frames j l));
    };
    plan = plan;
    device = device;
  })

  -- it names a region of a process
  pub weak_named : (n : ℕ) → names_weakly n t ≡ true → is_owned regions n ≡ true
  weak_named n e =
      let same : r.id.0 ≡ n = eqb-true r.id.0 n (sym (ap (λ s. not s && (r.id.0 == n)) weak) ∙ e) in
      has_any (has_id n) r regions owned (eq-eqb r.id.0 n same)
