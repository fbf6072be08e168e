-- Strong loans for a call: what of the invariant hangs on them.
use Rattle.std.proofs.Common.{◌≡◌, ℕ, ◌+◌, ◌<◌, ◌%◌, zero, suc, Bool, true, false, not, List, [], ◌∷◌, refl, sym, ap, arith, ◌∙◌, ◌⊎◌, ⊎_elim, inl, inr, length, map, get_or}
use Rattle.std.specs.Prelude.{Some, None, All, unwrap_or, ◌==◌, ◌&&◌, ◌||◌, if◌then◌else◌}
use Rattle.std.specs.List.{list_any}
use Rattle.std.proofs.lemmas.Bool.{cases_Bool}
use Rattle.std.proofs.lemmas.List.{length-map}
use Rattle.std.proofs.lemmas.List.Sums.{sum_by-cons}
use Rattle.genie_base.specs.Counts.{span}
use Rattle.genie_base.specs.Lemmas.Places.{num}
use Rattle.genie_base.specs.Transfers.{class_of, is_strong, is_emulated}
use Rattle.genie_base.specs.declared.semantics.Class.{Class}
use Rattle.genie_base.specs.declared.semantics.Class.TheVariants.{Copy, Share, Move, WeakMove}
use Rattle.genie_base.specs.declared.semantics.Direction.TheVariants as direction
use Rattle.genie_frame.specs.declared.frame.OutLoan.{OutLoan}
use Rattle.genie_frame.specs.declared.frame.Owner.TheVariants.{Free, System, Pool, Nobody}
use Rattle.genie_frame.specs.FrameTable.{owner_at, counts_at, is_lent, is_page}
use Rattle.genie_hiding.specs.Hidden.{objects_of, is_among}
use Rattle.genie_hiding.specs.Lemmas.Naming.{fits_kept}
use Rattle.genie_store.specs.StoreView.{StoreView}
use Rattle.genie_object.specs.declared.memory.Memory.{Memory}
use Rattle.genie_object.specs.Sound.{FitsHidden}
use Rattle.genie_object.specs.Touching.{system_owner}
use Rattle.genie_plan.specs.declared.plan.OutPlan.{OutPlan}
use Rattle.genie_plan.specs.Loans.{Loan, LoanKind, output_kind, output_loan, output_loans, more}
use Rattle.genie_plan.specs.Loans as kind
use Rattle.genie_plan.specs.Plans.{output_frames, times}
use Rattle.genie_plan.specs.Lemmas.Ranges.{out_frames_count}
use Rattle.genie_region.specs.declared.region.Region.{Region}
use Rattle.genie_model.specs.Tables.{entry}
use Rattle.genie_kernel.specs.declared.kernel.Kernel.{Kernel}
use Rattle.genie_kernel.specs.declared.transfer.Transfer.{Transfer}
use Rattle.genie_kernel.specs.Backed.{AreGuarded}
use Rattle.genie_kernel.specs.Calls.{begins_at, is_copy_input, is_strong_call}
use Rattle.genie_kernel.specs.Good.{IsGood}
use Rattle.genie_kernel.specs.Lending.{LendsFor}
use Rattle.genie_kernel.specs.Loans.{has_frame}
use Rattle.genie_kernel.specs.Planned.{FitsDevice, LendsOut, LendsRange}
use Rattle.genie_kernel.specs.Regions.{owned_regions}
use Rattle.genie_kernel.specs.Lemmas.Staying.{pool_same, system_same}
use Rattle.genie_changes.specs.Beginning.{Begins, IsNew, TakesFrames}
use Rattle.genie_tcow.specs.Lending.{HasLent, loans_on}
use Rattle.genie_tcow.specs.Ranges.{IsPlanOf}
use Rattle.genie_outputs.specs.declared.call.Call.{Call}
use Rattle.genie_outputs.specs.Calls.{place_in, range_of, transfer_of}

pub none_or : (n : ℕ) → (n ≡ 0) ⊎ (0 < n)
none_or zero = inl refl
none_or (suc n) = inr (omega arith)

-- the loans on a frame are counted by their frames
pub on_times : (loans : List OutLoan) (f : ℕ) → loans_on (output_loans loans) f ≡ times (output_frames loans) f
on_times [] f = refl
on_times (x ∷ xs) f = omega (arith, on_times xs f, sum_by-cons (λ (y : Loan). num (y.frame == f)) (output_loan x) (output_loans xs), sum_by-cons (λ (g : ℕ). num (g == f)) x.frame.0 (output_frames xs))

pub times_none : (frames : List ℕ) (f : ℕ) → times frames f ≡ 0 → list_any (λ g. g == f) frames ≡ false
times_none [] f e = refl
times_none (g ∷ frames) f e = elim (g == f) as (λ b. (g == f) ≡ b → (b || list_any (λ h. h == f) frames) ≡ false) [
  | true ↦ λ same. let one : num (g == f) ≡ 1 = ap num same in absurd (omega (arith, one, e, sum_by-cons (λ (h : ℕ). num (h == f)) g frames))
  | false ↦ λ other. let none : num (g == f) ≡ 0 = ap num other in times_none frames f (omega (arith, none, e, sum_by-cons (λ (h : ℕ). num (h == f)) g frames))
] refl

pub times_some : (frames : List ℕ) (f : ℕ) → 0 < times frames f → list_any (λ g. g == f) frames ≡ true
times_some [] f l = absurd (omega (arith, l))
times_some (g ∷ frames) f l = elim (g == f) as (λ b. (g == f) ≡ b → (b || list_any (λ h. h == f) frames) ≡ true) [
  | true ↦ λ same. refl
  | false ↦ λ other. let none : num (g == f) ≡ 0 = ap num other in times_some frames f (omega (arith, none, l, sum_by-cons (λ (h : ℕ). num (h == f)) g frames))
] refl

pub mapped_at : {X Y : Type 0} (f : X → Y) (xs : List X) (i : ℕ) (d : X) → get_or (map f xs) i (f d) ≡ f (get_or xs i d)
mapped_at f [] i d = refl
mapped_at f (x ∷ xs) zero d = refl
mapped_at f (x ∷ xs) (suc i) d = mapped_at f xs i d

strong_kind : (b : Bool) → output_kind b ≡ kind.Strong → b ≡ true
strong_kind true e = refl
strong_kind false e = absurd (cc)

pub all_strong : (loans : List OutLoan) → ((k : ℕ) (d : Loan) → k < length (output_loans loans) → (get_or (output_loans loans) k d).kind ≡ kind.Strong) → All (λ (l : OutLoan). l.strong ≡ true) loans
all_strong loans h i d l =
    let long = length-map loans output_loan in
    strong_kind (get_or loans i d).strong (sym (ap (λ (x : Loan). x.kind) (mapped_at output_loan loans i d)) ∙ h i (output_loan d) (omega (arith, l, long)))

-- an output keeps no address
pub no_address : (c : Class) → is_copy_input c direction.Outward ≡ false
no_address Copy = refl
no_address Share = refl
no_address Move = refl
no_address WeakMove = refl

pub begins_there : (k : Kernel) (c : Call) (r : Region) (plan : OutPlan) → begins_at (transfer_of k c r plan) ≡ place_in k.config.page c r
begins_there k c r plan = ap (λ (b : Bool). unwrap_or (if b then Some 0 else None) (place_in k.config.page c r)) (no_address (class_of c.sem))

pub new_output : (k : Kernel) (c : Call) (r : Region) (plan : OutPlan) → IsNew k (transfer_of k c r plan)
new_output k c r plan = record { number = refl; phase = refl; unstored = refl; unbuffered = refl }

-- the plan is on the range of the transfer
pub lends_range : (k : Kernel) (c : Call) (r : Region) (plan : OutPlan) → IsGood k → IsPlanOf k.memory.frames.page (range_of k.config.page c r) plan.loans.items plan.first plan.len → LendsRange k.config.page (begins_at (transfer_of k c r plan)) c.len (output_frames plan.loans.items) plan.first plan.len
lends_range k c r plan g p =
    let page : k.memory.frames.page ≡ k.config.page = g.sized.page in
    let at = begins_there k c r plan in
    record {
      pages = out_frames_count plan.loans.items ∙ p.number ∙ (λ i. span (page i) (sym at i) c.len);
      begins = p.first ∙ (λ i. sym at i % page i);
      length_kept = p.len;
    }

pub lends_out : (k : Kernel) (c : Call) (r : Region) (plan : OutPlan) (strong : Bool) → is_strong (class_of c.sem) ≡ strong → IsGood k → All (λ (l : OutLoan). l.strong ≡ strong) plan.loans.items → IsPlanOf k.memory.frames.page (range_of k.config.page c r) plan.loans.items plan.first plan.len → LendsOut k.config.page (transfer_of k c r plan) (transfer_of k c r plan).loans
lends_out k c r plan strong is g all p = (λ i d l. all i d l ∙ sym is, lends_range k c r plan g p)

module _ (k : Kernel) (m : Memory) (c : Call) (r : Region) (plan : OutPlan) (v w : StoreView) (spoken : ℕ → ℕ → Bool) (g : IsGood k) (strong : is_strong (class_of c.sem) ≡ true) (x : HasLent kind.Strong k.next spoken (output_loans plan.loans.items) k.memory m v w) where
  abbrev t : Transfer
  t = transfer_of k c r plan

  abbrev loans : List Loan
  loans = output_loans plan.loans.items

  off_frame : (f : ℕ) → loans_on loans f ≡ 0 → has_frame f t ≡ false
  off_frame f e = times_none (output_frames plan.loans.items) f (sym (on_times plan.loans.items f) ∙ e)

  on_frame : (f : ℕ) → 0 < loans_on loans f → has_frame f t ≡ true
  on_frame f l = times_some (output_frames plan.loans.items) f (let same = on_times plan.loans.items f in omega (arith, l, same))

  lends : LendsFor t k.memory.frames.counts m.frames.counts
  lends f =
      let none : (if not (is_strong_call t) && not (is_emulated c.sem) then times (output_frames plan.loans.items) f else 0) ≡ 0 = ap (λ (b : Bool). if not b && not (is_emulated c.sem) then times (output_frames plan.loans.items) f else 0) strong in
      let old = counts_at k.memory.frames f in
      let same : old.wires ≡ old.wires + (if not (is_strong_call t) && not (is_emulated c.sem) then times (output_frames plan.loans.items) f else 0) = omega (arith, none) in
      x.counts f ∙ (λ i. record (more loans f old) { wires = same i })

  -- a frame that is the transfer's now wasn't lent
  unlent : (f : ℕ) → 0 < loans_on loans f → owner_at m.frames f ≡ System k.next → is_lent (counts_at k.memory.frames f) ≡ false
  unlent f l is = ⊎_elim
      (λ lent. ⊎_elim
      (λ (same : owner_at m.frames f ≡ owner_at k.memory.frames f). let was : system_owner (owner_at k.memory.frames f) ≡ System k.next = ap system_owner (sym same ∙ is) in let no = (x.keeps.taken f l).was in let clash : System k.next ≡ Free = sym was ∙ no in absurd (cc))
      (λ (left : (is_page (owner_at k.memory.frames f) ≡ true) × (owner_at m.frames f ≡ Nobody)). let clash : Nobody ≡ System k.next = sym left.1 ∙ is in absurd (cc))
      (x.keeps.lent f lent).owner)
      (λ none. none)
      (cases_Bool (is_lent (counts_at k.memory.frames f)))

  taken_number : (f j : ℕ) → 0 < loans_on loans f → owner_at m.frames f ≡ System j → j ≡ k.next
  taken_number f j l is = ⊎_elim
      (λ (free : system_owner (owner_at m.frames f) ≡ Free). let clash : System j ≡ Free = sym (ap system_owner is) ∙ free in absurd (cc))
      (λ (own : system_owner (owner_at m.frames f) ≡ System k.next). let same : System j ≡ System k.next = sym (ap system_owner is) ∙ own in cc)
      (x.keeps.taken f l).is

  not_pool : (f d : ℕ) → 0 < loans_on loans f → owner_at m.frames f ≡ Pool d → ⊥
  not_pool f d l is = ⊎_elim
      (λ (free : system_owner (owner_at m.frames f) ≡ Free). let clash : Pool d ≡ Free = sym (ap system_owner is) ∙ free in cc)
      (λ (own : system_owner (owner_at m.frames f) ≡ System k.next). let clash : Pool d ≡ System k.next = sym (ap system_owner is) ∙ own in cc)
      (x.keeps.taken f l).is

  takes : TakesFrames t k.memory.frames m.frames
  takes = record {
    system = λ f j is. ⊎_elim
        (λ none. inl (system_same (owner_at m.frames f) (owner_at k.memory.frames f) j (x.keeps.systems f none) is, off_frame f none))
        (λ some. let number = taken_number f j some is in inr (number, on_frame f some, unlent f some (is ∙ ap (λ n. System n) number)))
        (none_or (loans_on loans f));
    pool = λ f d is. ⊎_elim
        (λ none. (pool_same (owner_at m.frames f) (owner_at k.memory.frames f) d (x.keeps.systems f none) is, off_frame f none))
        (λ some. absurd (not_pool f d some is))
        (none_or (loans_on loans f));
  }

  pub hidden_fit : ((o i : ℕ) → is_among o (objects_of k.hidden) ≡ true → spoken o i ≡ false) → FitsHidden m (objects_of k.hidden)
  hidden_fit silent = fits_kept spoken k.memory m (objects_of k.hidden) g.sound x.touches x.keeps.entries silent g.cached

  pub strong_begins : IsPlanOf k.memory.frames.page (range_of k.config.page c r) plan.loans.items plan.first plan.len → FitsDevice c.len (entry k.devices c.dev) → FitsHidden m (objects_of k.hidden) → AreGuarded m.objects (owned_regions k.spaces.processes) → Begins k m t
  strong_begins p device cached guarded = record {
    sound = x.sound;
    cached = cached;
    guarded = guarded;
    places = record { entries = x.keeps.entries; number = x.keeps.number; page = x.keeps.page; slots = x.keeps.slots; most = x.keeps.most };
    entry_held = x.keeps.entry_held;
    lasts = x.keeps.lent;
    lends = lends;
    takes = takes;
    holds = inl strong;
    plan = lends_out k c r plan true strong g (all_strong plan.loans.items x.kinds) p;
    device = device;
  }
