-- The kernel without a strong input whose buffer was stored.
use Rattle.std.proofs.Common.{◌≡◌, ◌≢◌, ℕ, ◌+◌, ◌-◌, ◌<◌, ◌≤◌, Bool, true, false, not, cond, List, [], ◌∷◌, refl, sym, ap, subst, arith, rules, ◌∙◌, length, map, get_or, ⊎_elim, inl, inr, ◌/◌, ◌*◌, eq-eqb}
use Rattle.std.specs.Prelude.{Option, Some, None, AllPairs, IfSome, find, filter, ◌⊎◌, ◌==◌, ◌&&◌, if◌then◌else◌}
use Rattle.std.specs.List.{list_any}
use Rattle.std.proofs.lemmas.Bool.{cases_Bool}
use Rattle.std.proofs.lemmas.List.Kept.{AllPairs-cons}
use Rattle.genie_base.specs.Counts.{span}
use Rattle.genie_base.specs.Transfers.{is_emulated}
use Rattle.genie_frame.specs.declared.frame.Counts.{Counts}
use Rattle.genie_frame.specs.declared.frame.InLoan.{InLoan}
use Rattle.genie_frame.specs.declared.frame.Owner.TheVariants.{Free, System, Pool, Nobody}
use Rattle.genie_frame.specs.FrameTable.{counts_at, is_lent, is_page, is_system, owner_at}
use Rattle.genie_hiding.specs.Hidden.{is_among, objects_of}
use Rattle.genie_hiding.specs.Lemmas.Naming.{fits_kept}
use Rattle.genie_input.specs.Buffers.{AreBuffers, one_input}
use Rattle.genie_input.specs.Pools.{PoolState}
use Rattle.genie_object.specs.declared.memory.Memory.{Memory}
use Rattle.genie_object.specs.declared.objects.Entry.{Entry}
use Rattle.genie_object.specs.Memory.{seen}
use Rattle.genie_object.specs.Objects.{is_absent, object_at}
use Rattle.genie_object.specs.Sound.{FitsHidden}
use Rattle.genie_object.specs.Touching.{is_in_range}
use Rattle.genie_plan.specs.Loans.{input_loans, less}
use Rattle.genie_plan.specs.Plans.{input_frames, times}
use Rattle.genie_plan.specs.Lemmas.Ending.{some_or}
use Rattle.genie_plan.specs.Lemmas.Landings.{times_some}
use Rattle.genie_region.specs.declared.region.Region.{Region}
use Rattle.genie_model.specs.Lemmas.Lists.{Has, find_has, has_at, has_any, pairs_head, pairs_tail}
use Rattle.genie_model.specs.Pending.{is_ready}
use Rattle.genie_model.specs.Tables.{entry, without}
use Rattle.genie_kernel.specs.declared.kernel.Kernel.{Kernel}
use Rattle.genie_kernel.specs.declared.transfer.Transfer.{Transfer}
use Rattle.genie_kernel.specs.Backed.{AreGuarded, all_regions}
use Rattle.genie_kernel.specs.Calls.{has_number, is_strong_call, names_weakly, number_of}
use Rattle.genie_kernel.specs.Counted.{pool_on, wires_on}
use Rattle.genie_kernel.specs.Good.{IsGood}
use Rattle.genie_kernel.specs.Held.{weak_transfers}
use Rattle.genie_kernel.specs.Kept.{Kept, KeepsOwner}
use Rattle.genie_kernel.specs.Lending.{GivesBack, without_loans}
use Rattle.genie_kernel.specs.Loans.{frames_of, has_frame, loans_of}
use Rattle.genie_kernel.specs.Owners.{holders}
use Rattle.genie_kernel.specs.Owning.{LetsGo}
use Rattle.genie_kernel.specs.Planned.{AreItsOwn, is_early_device}
use Rattle.genie_kernel.specs.Regions.{has_id, owned_regions}
use Rattle.genie_kernel.specs.Same.{SameFrames, ShowSame}
use Rattle.genie_kernel.specs.Lemmas.Beside.{all_without, find_beside}
use Rattle.genie_kernel.specs.Lemmas.Keeping.{transfer_lent}
use Rattle.genie_kernel.specs.Lemmas.Lending.{counts_shrink}
use Rattle.genie_kernel.specs.Lemmas.Owning.{owned_less}
use Rattle.genie_kernel.specs.Lemmas.Staying.{lent_true, pool_same, system_same, weak_held, weak_there}
use Rattle.genie_changes.specs.Ending.{without_call}
use Rattle.genie_changes.specs.Pages.{EachFrame, StaysInFrame}
use Rattle.genie_changes.specs.Pending.{OwnFramesStay}
use Rattle.genie_changes.specs.Settled.{IsSettled}
use Rattle.genie_arrivals.specs.EndLaws.{EndLaws}
use Rattle.genie_arrivals.specs.Stored.{StoresBuffer}
use Rattle.genie_arrivals.specs.SwapLaws.{SwapLaws}
use Rattle.genie_arrivals.proofs.Alone.{are_buffers, frame_there, others_unheld, times_none, times_some as counted_some}
use Rattle.genie_arrivals.proofs.Found.{IsIdle, ready_idle}
use Rattle.genie_arrivals.proofs.Joining.{less_by}
use Rattle.genie_arrivals.proofs.Quiet.{unbuffered}

left_has : {X : Type 0} (p : X → Bool) (x : X) (xs : List X) → Has x (without p xs) → Has x xs
left_has p x [] h = h
left_has p x (y ∷ ys) h = elim (p y) as (λ b. Has x (cond b ys (y ∷ without p ys)) → Has x (y ∷ ys)) [
  | true ↦ λ i. inr i
  | false ↦ λ i. ⊎_elim (λ (same : y ≡ x). inl same) (λ later. inr (left_has p x ys later)) i
] h

pairs_less : (n : ℕ) (ts : List Transfer) → AllPairs (λ (x y : Transfer). x.id.0 < y.id.0) ts → AllPairs (λ (x y : Transfer). x.id.0 < y.id.0) (without (has_number n) ts)
pairs_less n [] a = a
pairs_less n (x ∷ ts) a =
    let rest = pairs_tail (λ (y z : Transfer). y.id.0 < z.id.0) x ts a in
    elim (has_number n x) as (λ b. AllPairs (λ (y z : Transfer). y.id.0 < z.id.0) (cond b ts (x ∷ without (has_number n) ts))) [
      | true ↦ rest
      | false ↦ AllPairs-cons (λ (y z : Transfer). y.id.0 < z.id.0) x (without (has_number n) ts)
          (λ i d l. pairs_head (λ (y z : Transfer). y.id.0 < z.id.0) x ts a (get_or (without (has_number n) ts) i d) (left_has (has_number n) (get_or (without (has_number n) ts) i d) ts (has_at (without (has_number n) ts) i d l)))
          (pairs_less n ts rest)
    ]

-- the others have other numbers
others_differ : (n : ℕ) (ts : List Transfer) (t : Transfer) → AllPairs (λ (x y : Transfer). x.id.0 < y.id.0) ts → find (has_number n) ts ≡ Some t → (x : Transfer) → Has x (without (has_number n) ts) → x.id.0 ≢ n
others_differ n [] t order e x h = absurd h
others_differ n (y ∷ ts) t order e x h = elim (has_number n y) as (λ b. has_number n y ≡ b → cond b (Some y) (find (has_number n) ts) ≡ Some t → Has x (cond b ts (y ∷ without (has_number n) ts)) → x.id.0 ≢ n) [
  | true ↦ λ is f i same.
      let number : y.id.0 ≡ n = grind (arith, rules, is) in
      let less = pairs_head (λ (a b : Transfer). a.id.0 < b.id.0) y ts order x i in
      omega (arith, number, less, same)
  | false ↦ λ is f i. ⊎_elim
      (λ (here : y ≡ x) (same : x.id.0 ≡ n).
      let number : y.id.0 ≡ n = ap (λ (u : Transfer). u.id.0) here ∙ same in
      let clash : has_number n y ≡ true = grind (arith, rules, number) in
      let never : false ≡ true = sym is ∙ clash in cc)
      (λ later. others_differ n ts t (pairs_tail (λ (a b : Transfer). a.id.0 < b.id.0) y ts order) f x later) i
] refl e h

-- a frame that one number alone holds is held by a transfer of that number
record IsHolder (n f : ℕ) (ts : List Transfer) : Type 0 where
  u : Transfer
  there : Has u ts
  on : has_frame f u ≡ true
  number : u.id.0 ≡ n

first_is : (a b : ℕ) (xs : List ℕ) → a ∷ xs ≡ b ∷ [] → a ≡ b
first_is a b xs e = cc

holder_in : (n f : ℕ) (ts : List Transfer) → holders ts f ≡ n ∷ [] → IsHolder n f ts
holder_in n f [] e = absurd (cc)
holder_in n f (x ∷ ts) e = elim (has_frame f x) as (λ b. has_frame f x ≡ b → map number_of (cond b (x ∷ filter (has_frame f) ts) (filter (has_frame f) ts)) ≡ n ∷ [] → IsHolder n f (x ∷ ts)) [
  | true ↦ λ on is. record { u = x; there = inl refl; on = on; number = first_is (number_of x) n (map number_of (filter (has_frame f) ts)) is }
  | false ↦ λ off is. let h = holder_in n f ts is in record { u = h.u; there = inr h.there; on = h.on; number = h.number }
] refl e

absent_same : (a b : List Entry) → length b ≡ length a → is_absent a ≡ is_absent b
absent_same [] [] e = refl
absent_same [] (y ∷ b) e = absurd (omega (arith, e))
absent_same (x ∷ a) [] e = absurd (omega (arith, e))
absent_same (x ∷ a) (y ∷ b) e = refl

module _ (laws : EndLaws) (swap : SwapLaws) (k : Kernel) (n : ℕ) (t : Transfer) (g : IsGood k) (found : find (has_number n) k.transfers ≡ Some t) (ready : is_ready t.phase ≡ true) (early : is_early_device (entry k.devices t.dev) ≡ true) (strong : is_strong_call t ≡ true) (L : List InLoan) (is_loans : loans_of t.loans ≡ input_loans L) (is_frames : frames_of t.loans ≡ input_frames L) (own : AreItsOwn k.memory.frames.owners n (frames_of t.loans)) (m : Memory) (o off len : ℕ) (x : StoresBuffer k.memory m o off len (frames_of t.loans)) (unhidden : (a i : ℕ) → is_among a (objects_of k.hidden) ≡ true → is_in_range o (off / k.memory.frames.page) (span k.memory.frames.page off len) a i ≡ false) (guarded : AreGuarded m.objects (owned_regions k.spaces.processes)) where
  abbrev ts : List Transfer
  ts = k.transfers

  abbrev us : List Transfer
  us = without (has_number n) k.transfers

  abbrev rs : List Region
  rs = owned_regions k.spaces.processes

  abbrev fs : List ℕ
  fs = frames_of t.loans

  abbrev idle : IsIdle t.phase
  idle = ready_idle t.phase ready

  settled : IsSettled k
  settled = laws.settled k g

  buffers : AreBuffers k.memory.frames fs
  buffers = subst (AreBuffers k.memory.frames) (sym is_frames) (are_buffers k n t g found strong L is_loans is_frames own)

  -- its frames are its own, and no other frame is
  its_own : (f : ℕ) → 0 < times fs f → owner_at k.memory.frames f ≡ System n
  its_own f l = let h = times_some fs f l in subst (λ j. owner_at k.memory.frames j ≡ System n) h.2 (own.own h.0 0 h.1)

  its_counts : (f : ℕ) → 0 < times fs f → counts_at k.memory.frames f ≡ one_input
  its_counts f l = let h = times_some fs f l in subst (λ j. counts_at k.memory.frames j ≡ one_input) h.2 (buffers.each h.0 h.1).lent

  on_frame : (f : ℕ) → 0 < times fs f → has_frame f t ≡ true
  on_frame f l = ⊎_elim (λ (yes : has_frame f t ≡ true). yes) (λ (no : has_frame f t ≡ false). absurd (omega (arith, l, times_none f fs no))) (cases_Bool (has_frame f t))

  not_its : (f : ℕ) → has_frame f t ≡ false → times fs f ≡ 0
  not_its f e = times_none f fs e

  -- another transfer has none of them
  others_off : (f : ℕ) (u : Transfer) → Has u us → has_frame f u ≡ true → times fs f ≡ 0
  others_off f u has on = ⊎_elim
      (λ (some : 0 < times fs f).
      let off = others_unheld n f ts t found (on_frame f some) (g.owners.system f n (its_own f some)) u has in
      let clash : true ≡ false = sym on ∙ off in absurd (cc))
      (λ (none : times fs f ≡ 0). none)
      (some_or (times fs f))

  system_its : (f : ℕ) → owner_at k.memory.frames f ≡ System n → 0 < times fs f
  system_its f e =
      let h = holder_in n f ts (g.owners.system f n e) in
      let same : h.u ≡ t = ⊎_elim
      (λ (is : h.u ≡ t). is)
      (λ (later : Has h.u us). absurd (others_differ n ts t settled.rising found h.u later h.number))
      (among h.u h.there) in
      counted_some f fs (sym (ap (has_frame f) same) ∙ h.on)
    where
      among : (u : Transfer) → Has u ts → (u ≡ t) ⊎ Has u us
      among u has = split ts u has found
        where
          split : (zs : List Transfer) (u : Transfer) → Has u zs → find (has_number n) zs ≡ Some t → (u ≡ t) ⊎ Has u (without (has_number n) zs)
          split [] u h e = absurd h
          split (z ∷ zs) u h e = elim (has_number n z) as (λ b. cond b (Some z) (find (has_number n) zs) ≡ Some t → (u ≡ t) ⊎ Has u (cond b zs (z ∷ without (has_number n) zs))) [
            | true ↦ λ f. let is : z ≡ t = cc in ⊎_elim (λ (here : z ≡ u). inl (sym here ∙ is)) (λ later. inr later) h
            | false ↦ λ f. ⊎_elim (λ (here : z ≡ u). inr (inl here)) (λ later. ⊎_elim (λ (same : u ≡ t). inl same) (λ more. inr (inr more)) (split zs u later f)) h
          ] e

  cached : FitsHidden m (objects_of k.hidden)
  cached = fits_kept (is_in_range o (off / k.memory.frames.page) (span k.memory.frames.page off len)) k.memory m (objects_of k.hidden) g.sound x.touches x.keeps.entries unhidden g.cached

  without_as : (f j : ℕ) (c : Counts) → times fs f ≡ j → without_loans t f c ≡ record c { input = c.input - j }
  without_as f j c e =
      let wires : wires_on f t ≡ 0 = ap (λ b. if not b && not (is_emulated t.sem) then times fs f else 0) strong in
      let same : c.wires - wires_on f t ≡ c.wires = omega (arith, wires) in
      let lost : less (loans_of t.loans) f c ≡ record c { input = c.input - j } = ap (λ l. less l f c) is_loans ∙ less_by f L c j (ap (λ l. times l f) (sym is_frames) ∙ e) in
      (λ i. record (lost i) { wires = same i })

  gives : GivesBack t k.memory.frames.counts m.frames.counts
  gives f = ⊎_elim
      (λ (some : 0 < times fs f).
      let one : times fs f ≡ 1 = omega (arith, some, own.apart f) in
      x.ended f some ∙ sym (without_as f 1 (counts_at k.memory.frames f) one ∙ ap (λ (c : Counts). record c { input = c.input - 1 }) (its_counts f some)))
      (λ (none : times fs f ≡ 0).
      let same : (counts_at k.memory.frames f).input - 0 ≡ (counts_at k.memory.frames f).input = omega arith in
      x.keeps.counts f none ∙ sym (without_as f 0 (counts_at k.memory.frames f) none ∙ (λ i. record (counts_at k.memory.frames f) { input = same i })))
      (some_or (times fs f))

  goes : LetsGo n k.memory.frames.owners m.frames.owners
  goes = record {
    system = λ f j e. ⊎_elim
        (λ (some : 0 < times fs f). let clash : true ≡ false = sym (ap is_system e) ∙ x.unowned f some in absurd (cc))
        (λ (none : times fs f ≡ 0).
        let was : owner_at k.memory.frames f ≡ System j = system_same (owner_at m.frames f) (owner_at k.memory.frames f) j (x.keeps.systems f none) e in
        (was, λ (same : j ≡ n). let some = system_its f (was ∙ ap System same) in absurd (omega (arith, some, none))))
        (some_or (times fs f));
    pool = λ f d e. ⊎_elim
        (λ (some : 0 < times fs f). let clash : true ≡ false = sym (ap is_system e) ∙ x.unowned f some in absurd (cc))
        (λ (none : times fs f ≡ 0). pool_same (owner_at m.frames f) (owner_at k.memory.frames f) d (x.keeps.systems f none) e)
        (some_or (times fs f));
    pool_kept = λ f d e. ⊎_elim
        (λ (some : 0 < times fs f). let clash : System n ≡ Pool d = sym (its_own f some) ∙ e in absurd (cc))
        (λ (none : times fs f ≡ 0). pool_same (owner_at k.memory.frames f) (owner_at m.frames f) d (sym (x.keeps.systems f none)) e)
        (some_or (times fs f));
  }

  own_stay : OwnFramesStay k.memory.frames.owners m.frames.owners us
  own_stay i d l f e = ⊎_elim
      (λ (some : 0 < times fs f).
      let u : Transfer = get_or us i d in
      let clash : System n ≡ System u.id.0 = sym (its_own f some) ∙ e in
      let number : u.id.0 ≡ n = cc in
      absurd (others_differ n ts t settled.rising found u (has_at us i d l) number))
      (λ (none : times fs f ≡ 0). system_same (owner_at k.memory.frames f) (owner_at m.frames f) (get_or us i d).id.0 (sym (x.keeps.systems f none)) e)
      (some_or (times fs f))

  stays : EachFrame (StaysInFrame k.memory m) (weak_transfers us)
  stays i d l j lj =
      let u : Transfer = get_or (weak_transfers us) i d in
      let weak = weak_there us u (has_at (weak_transfers us) i d l) in
      let f : ℕ = get_or (frames_of u.loans) j 0 in
      let none : times fs f ≡ 0 = others_off f u weak.0 (frame_there (frames_of u.loans) j lj) in
      let is : is_strong_call u ≡ false = not_true (is_strong_call u) weak.1 in
      let held = weak_held k u j g (left_has (has_number n) u ts weak.0) is lj in
      record {
        entries = λ a b e. x.keeps.entry_held a b f e held;
        nobody = λ e. ⊎_elim (λ same. same ∙ e) (λ (left : (is_page (owner_at k.memory.frames f) ≡ true) × (owner_at m.frames f ≡ Nobody)). left.1) (x.keeps.lent f none (lent_true (counts_at k.memory.frames f) held));
      }
    where
      not_true : (b : Bool) → not b ≡ true → b ≡ false
      not_true true e = absurd (cc)
      not_true false e = refl

  -- all that is true of it but for the order of its outline
  pub swapped_settled : IsSettled (without_call k m n k.posted)
  swapped_settled = record {
    fits = settled.fits;
    has_bytes = settled.has_bytes;
    sized = record { page = x.keeps.page ∙ g.sized.page; frames = x.keeps.number ∙ g.sized.frames; slots = x.keeps.slots ∙ g.sized.slots; pages = x.keeps.most ∙ g.sized.pages };
    spaced = settled.spaced;
    equipped = settled.equipped;
    numbered = settled.numbered;
    listed = settled.listed;
    ranges = all_without (has_number n) t (λ (u : Transfer). (r : Region) → find (has_id r.id.0) rs ≡ Some r → names_weakly r.id.0 u ≡ true → u.offset + u.len ≤ r.pages * k.config.page) ts settled.ranges;
    rising = pairs_less n ts settled.rising;
    sound = x.sound;
    cached = cached;
    few = settled.few;
    backed = record {
      each = λ i d l. x.keeps.entries (get_or (all_regions k.spaces.processes k.hidden) i d).object.0 ∙ g.backed.each i d l;
      some = g.backed.some;
      one = λ a. g.backed.one a ∙ ap (λ b. if b then 0 else 1) (absent_same (object_at k.memory.objects a) (object_at m.objects a) (x.keeps.entries a));
    };
    guarded = guarded;
    counted = counts_shrink (has_number n) t ts k.pools k.memory.frames.counts m.frames.counts found gives g.counted;
    owners = owned_less n t ts k.pools k.memory.frames.owners m.frames.owners found goes g.owners;
    held = swap.held_stay k.config.page k.memory m rs us stays (swap.held_less k.config.page k.memory rs (has_number n) ts g.held);
    planned = swap.planned_stay k.config.page k.memory.frames.owners m.frames.owners k.devices us own_stay (swap.planned_less k.config.page k.memory.frames.owners k.devices (has_number n) ts g.planned);
    fitting = swap.fitting k.devices (has_number n) ts g.fitting;
    posted = laws.posted (has_number n) t k.posted ts found idle.unposted g.posted;
    sending = swap.sending k.devices (has_number n) t ts found idle.unqueued g.sending;
    receiving = swap.receiving k.devices (has_number n) t ts found idle.unmoved g.receiving;
    arrived = swap.arrived k.devices k.pools (has_number n) t ts found (unbuffered k n t g found early) g.arrived;
  }

  lent_kept : (f : ℕ) → times fs f ≡ 0 → is_lent (counts_at k.memory.frames f) ≡ true → KeepsOwner (owner_at k.memory.frames f) (owner_at m.frames f)
  lent_kept f none lent = record {
    owner = ⊎_elim (λ same. inl same) (λ (left : (is_page (owner_at k.memory.frames f) ≡ true) × (owner_at m.frames f ≡ Nobody)). inr left.1) (x.keeps.lent f none lent);
    unfreed = λ free. let unlent = (x.sound.lent f).free free in let same = ap is_lent (x.keeps.counts f none) in let clash : true ≡ false = sym lent ∙ sym same ∙ unlent in absurd (cc);
  }

  other_has : (j : ℕ) (u : Transfer) → find (has_number j) us ≡ Some u → Has u us
  other_has j u e = (find_has (has_number j) us u e).0

  pub swapped_kept : Kept k (without_call k m n k.posted)
  swapped_kept = record {
    lent = λ j f u v p on still.
        let here = other_has j v p.is in
        lent_kept f (others_off f v here still) (transfer_lent k f v g (left_has (has_number n) v ts here) still);
    pooled = λ d f on still.
        let was = g.owners.pool_frames f d on in
        let is = goes.pool_kept f d was in
        record { owner = inl (is ∙ sym was); unfreed = λ free. let clash : Pool d ≡ Free = sym is ∙ free in cc };
    fresh = λ j f u v p unready still. subst (λ (z : Transfer). has_frame f z ≡ true) (same_found j u v p.was p.is) still;
  }
    where
      -- another transfer is the one that it was
      same_found : (j : ℕ) (u v : Transfer) → find (has_number j) ts ≡ Some u → find (has_number j) us ≡ Some v → v ≡ u
      same_found j u v was is = ⊎_elim
          (λ (fails : has_number j t ≡ false). let e : Some v ≡ Some u = sym is ∙ find_beside (has_number n) t (has_number j) ts found fails ∙ was in cc)
          (λ (passes : has_number j t ≡ true).
          let jt : t.id.0 ≡ j = grind (arith, rules, passes) in
          let nt : t.id.0 ≡ n = let h = (find_has (has_number n) ts t found).1 in grind (arith, rules, h) in
          let jv : v.id.0 ≡ j = let h = (find_has (has_number j) us v is).1 in grind (arith, rules, h) in
          absurd (others_differ n ts t settled.rising found v (other_has j v is) (jv ∙ sym jt ∙ nt)))
          (swap_cases (cases_Bool (has_number j t)))
        where
          swap_cases : {A B : Type 0} → A ⊎ B → B ⊎ A
          swap_cases (inl a) = inr a
          swap_cases (inr b) = inl b

  -- the frames of other transfers and of pools show what they showed
  pub swapped_frames : (slots : ℕ → List ℕ) → ((s : ℕ) → length (slots s) ≡ k.memory.frames.page) → SameFrames us k.pools (seen k.memory slots).kept_bytes (seen m slots).kept_bytes
  swapped_frames slots paged = record {
    lent = λ i d l j e lj.
        let u : Transfer = get_or us i d in
        let f : ℕ = get_or (frames_of u.loans) j e in
        (x.shows slots paged).others f (others_off f u (has_at us i d l) (frame_at (frames_of u.loans) j e lj));
    pooled = λ d. pool_shows (entry k.pools d) d refl;
  }
    where
      frame_at : (frames : List ℕ) (j e : ℕ) → j < length frames → list_any (λ g. g == get_or frames j e) frames ≡ true
      frame_at frames j e l = has_any (λ g. g == get_or frames j e) (get_or frames j e) frames (has_at frames j e l) (eq-eqb (get_or frames j e) (get_or frames j e) refl)

      pool_shows : (p : Option PoolState) (d : ℕ) → entry k.pools d ≡ p → IfSome p (λ (q : PoolState). ShowSame (seen k.memory slots).kept_bytes (seen m slots).kept_bytes (input_frames q.loans))
      pool_shows None d e = tt
      pool_shows (Some q) d e = λ j z l.
          let f : ℕ = get_or (input_frames q.loans) j z in
          let some : 1 ≤ times (input_frames q.loans) f = counted_some f (input_frames q.loans) (frame_at (input_frames q.loans) j z l) in
          let on : pool_on f (entry k.pools d) ≡ times (input_frames q.loans) f = ap (pool_on f) e in
          let owner = g.owners.pool_frames f d (omega (arith, some, on)) in
          let none : times fs f ≡ 0 = ⊎_elim
          (λ (its : 0 < times fs f). let clash : System n ≡ Pool d = sym (its_own f its) ∙ owner in absurd (cc))
          (λ (none : times fs f ≡ 0). none)
          (some_or (times fs f)) in
          (x.shows slots paged).others f none
