-- What is lent in a settled kernel, and what a call leaves of it that gives up pages and changes no count.
use Rattle.std.proofs.Common.{◌≡◌, ◌≢◌, ℕ, ◌+◌, ◌-◌, ◌<◌, ◌≤◌, zero, suc, Bool, true, false, cond, List, [], ◌∷◌, ◌++◌, refl, sym, ap, ap₂, subst, arith, rules, ◌∙◌, ◌⊎◌, ⊎_elim, inl, inr, length, map, find, get_or, eq-eqb}
use Rattle.std.specs.Prelude.{Option, Some, None, All, IfSome, ◌==◌, ◌&&◌, ◌||◌, count_by, if◌then◌else◌, slice_index}
use Rattle.std.specs.List.{list_any}
use Rattle.std.proofs.lemmas.List.Sums.{sum_by-cons}
use Rattle.genie_base.specs.declared.semantics.Direction.{Direction}
use Rattle.genie_base.specs.declared.semantics.Direction.TheVariants as direction
use Rattle.genie_base.specs.Bytes.{part}
use Rattle.genie_base.specs.Lemmas.Places.{num}
use Rattle.genie_frame.specs.declared.frame.Counts.{Counts}
use Rattle.genie_frame.specs.declared.frame.InLoan.{InLoan}
use Rattle.genie_frame.specs.declared.frame.OutLoan.{OutLoan}
use Rattle.genie_frame.specs.declared.frame.Owner.{Owner}
use Rattle.genie_frame.specs.declared.frame.Owner.TheVariants.{Free, Page, System, Pool, Nobody}
use Rattle.genie_frame.specs.FrameTable.{FrameTable, Agree, owner_at, counts_at, bytes_at, is_held, is_lent, is_page}
use Rattle.genie_input.specs.Pools.{PoolState}
use Rattle.genie_object.specs.declared.memory.Memory.{Memory}
use Rattle.genie_object.specs.Memory.{is_kept}
use Rattle.genie_object.specs.Touching.{Lasts, system_owner}
use Rattle.genie_plan.specs.Loans.{Loan, LoanKind, is_kind, loan_times, output_loan, output_loans, input_loan}
use Rattle.genie_plan.specs.Loans as kind
use Rattle.genie_plan.specs.Plans.{output_frames, input_frames}
use Rattle.genie_region.specs.declared.region.Region.{Region}
use Rattle.genie_model.specs.Lemmas.Lists.{Has, all_has, has_any, has_at, find_has, find_none}
use Rattle.genie_model.specs.Tables.{entry}
use Rattle.genie_kernel.specs.declared.kernel.Kernel.{Kernel}
use Rattle.genie_kernel.specs.declared.transfer.Loans.{Loans}
use Rattle.genie_kernel.specs.declared.transfer.Loans.TheVariants.{Nothing, Outward, Inward}
use Rattle.genie_kernel.specs.declared.transfer.Transfer.{Transfer}
use Rattle.genie_kernel.specs.Calls.{has_number, is_strong_call, is_named, region_number}
use Rattle.genie_kernel.specs.Counted.{AreCounted, lent_of, loans_on, pool_on}
use Rattle.genie_kernel.specs.Held.{HoldsPages, IsInFrame, region_named, page_of_loan, weak_transfers}
use Rattle.genie_kernel.specs.Kept.{KeepsOwner}
use Rattle.genie_kernel.specs.Loans.{bytes_in_frames, first_of, frames_of, loans_of, has_frame}
use Rattle.genie_kernel.specs.Orphans.{covers, is_orphan, is_owned, byte_under, orphan_byte}
use Rattle.genie_kernel.specs.Owners.{AreOwned}
use Rattle.genie_kernel.specs.Planned.{Lends, LendsOut, LendsIn, LendsInput, LendsStrongly, is_early_device}
use Rattle.genie_kernel.specs.Regions.{has_id, owned_regions}
use Rattle.genie_kernel.specs.Same.{SameNeeded, ShowSame}
use Rattle.genie_kernel.specs.Lemmas.Staying.{at_least, lent_true, pool_same, system_same, weak_there}
use Rattle.genie_changes.specs.Pages.{EachFrame}
use Rattle.genie_changes.specs.Settled.{IsSettled}
use Rattle.genie_changes.proofs.Premises.{named_region, weak_has}

-- a loan counts on its frame
counted_loan : {X : Type 0} (frame : X → ℕ) (loan : X → Loan) (wanted : LoanKind) (xs : List X) → ((x : X) → (loan x).frame ≡ frame x) → All (λ x. is_kind wanted (loan x).kind ≡ true) xs → (j : ℕ) → j < length (map frame xs) → 0 < loan_times (map loan xs) wanted (get_or (map frame xs) j 0)
counted_loan frame loan wanted [] same a j l = absurd (omega (arith, l))
counted_loan frame loan wanted (x ∷ xs) same a zero l =
    let passes : (is_kind wanted (loan x).kind && ((loan x).frame == frame x)) ≡ true = grind (arith, rules, a 0 x (omega arith), same x) in
    let one : num (is_kind wanted (loan x).kind && ((loan x).frame == frame x)) ≡ 1 = ap num passes in
    omega (arith, sum_by-cons (λ (y : Loan). cond (is_kind wanted y.kind && (y.frame == frame x)) 1 0) (loan x) (map loan xs), one)
counted_loan frame loan wanted (x ∷ xs) same a (suc j) l =
    let f : ℕ = get_or (map frame xs) j 0 in
    let later = counted_loan frame loan wanted xs same (λ k d m. a (suc k) d (omega arith)) j (omega (arith, l)) in
    omega (arith, sum_by-cons (λ (y : Loan). cond (is_kind wanted y.kind && (y.frame == f)) 1 0) (loan x) (map loan xs), later)

weak_kind : (strong : Bool) → strong ≡ false → is_kind kind.Weak (kind.output_kind strong) ≡ true
weak_kind true e = absurd (cc)
weak_kind false e = refl

out_held : (page : ℕ) (t : Transfer) (loans : Loans) → is_strong_call t ≡ false → LendsOut page t loans → (j : ℕ) → j < length (frames_of loans) → 0 < loan_times (loans_of loans) kind.Weak (get_or (frames_of loans) j 0)
out_held page t Nothing weak h j l = absurd h
out_held page t (Outward p) weak h j l = counted_loan (λ (x : OutLoan). x.frame.0) output_loan kind.Weak p.loans.items (λ x. refl) (λ i d m. weak_kind _ (h.0 i d m ∙ weak)) j l
out_held page t (Inward p) weak h j l = absurd h

in_held : (page : ℕ) (t : Transfer) (loans : Loans) → LendsIn page t loans → (j : ℕ) → j < length (frames_of loans) → 0 < loan_times (loans_of loans) kind.Input (get_or (frames_of loans) j 0)
in_held page t Nothing h j l = absurd h
in_held page t (Outward p) h j l = absurd h
in_held page t (Inward p) h j l = counted_loan (λ (x : InLoan). x.frame.0) input_loan kind.Input p.loans.items (λ x. refl) (λ i d m. refl) j l

held_by : (page : ℕ) (owners : List Owner) (early : Bool) (t : Transfer) (d : Direction) → is_strong_call t ≡ false → Lends page owners early t d → (j : ℕ) → j < length (frames_of t.loans) → (0 < loans_on kind.Weak (get_or (frames_of t.loans) j 0) t) ⊎ (0 < loans_on kind.Input (get_or (frames_of t.loans) j 0) t)
held_by page owners early t direction.Outward weak h j l = inl (out_held page t t.loans weak h j l)
held_by page owners early t direction.Inward weak h j l = inr (in_held page t t.loans (subst (LendsInput page owners early t) weak h) j l)

held_true : (c : Counts) → (0 < c.weak) ⊎ (0 < c.input) → is_held c ≡ true
held_true c (inl l) = grind (arith, rules, l)
held_true c (inr l) = grind (arith, rules, l)

one_kind : (k : LoanKind) (b : Bool) → b ≡ true → cond (is_kind kind.Strong k && b) 1 0 + cond (is_kind kind.Weak k && b) 1 0 + cond (is_kind kind.Input k && b) 1 0 ≡ 1
one_kind kind.Strong b e = rw e refl
one_kind kind.Weak b e = rw e refl
one_kind kind.Input b e = rw e refl

abbrev all_times : List Loan → ℕ → ℕ
all_times loans f = loan_times loans kind.Strong f + loan_times loans kind.Weak f + loan_times loans kind.Input f

-- a frame of a plan has a loan of it
some_loan : {X : Type 0} (frame : X → ℕ) (loan : X → Loan) (f : ℕ) (xs : List X) → ((x : X) → (loan x).frame ≡ frame x) → list_any (λ g. g == f) (map frame xs) ≡ true → 0 < all_times (map loan xs) f
some_loan frame loan f [] same e = absurd (cc)
some_loan frame loan f (x ∷ xs) same e =
    let strong = sum_by-cons (λ (y : Loan). cond (is_kind kind.Strong y.kind && (y.frame == f)) 1 0) (loan x) (map loan xs) in
    let weak = sum_by-cons (λ (y : Loan). cond (is_kind kind.Weak y.kind && (y.frame == f)) 1 0) (loan x) (map loan xs) in
    let input = sum_by-cons (λ (y : Loan). cond (is_kind kind.Input y.kind && (y.frame == f)) 1 0) (loan x) (map loan xs) in
    elim (frame x == f) as (λ b. (frame x == f) ≡ b → (b || list_any (λ g. g == f) (map frame xs)) ≡ true → 0 < all_times (loan x ∷ map loan xs) f) [
      | true ↦ λ is h. let on : ((loan x).frame == f) ≡ true = ap (λ n. n == f) (same x) ∙ is in let one = one_kind (loan x).kind ((loan x).frame == f) on in omega (arith, strong, weak, input, one)
      | false ↦ λ is h. let later = some_loan frame loan f xs same h in omega (arith, strong, weak, input, later)
    ] refl e

lent_for : (f : ℕ) (loans : Loans) → list_any (λ g. g == f) (frames_of loans) ≡ true → 0 < all_times (loans_of loans) f
lent_for f Nothing e = absurd (cc)
lent_for f (Outward p) e = some_loan (λ (x : OutLoan). x.frame.0) output_loan f p.loans.items (λ x. refl) e
lent_for f (Inward p) e = some_loan (λ (x : InLoan). x.frame.0) input_loan f p.loans.items (λ x. refl) e

some_lent : (c : Counts) → 0 < c.strong + c.weak + c.input → is_lent c ≡ true
some_lent c l = grind (arith, rules, l)

lent_unfree : (owner : Owner) (c : Counts) → Agree owner c → is_lent c ≡ true → owner ≢ Free
lent_unfree owner c agree lent free = let no = agree.free free in cc

owner_kept : (old new : FrameTable) (f : ℕ) → Agree (owner_at old f) (counts_at old f) → is_lent (counts_at old f) ≡ true → Lasts old new f → KeepsOwner (owner_at old f) (owner_at new f)
owner_kept old new f agree lent lasts = ⊎_elim
    (λ same. record { owner = inl same; unfreed = λ free. lent_unfree (owner_at old f) (counts_at old f) agree lent (sym same ∙ free) })
    (λ (left : (is_page (owner_at old f) ≡ true) × (owner_at new f ≡ Nobody)). record { owner = inr left.1; unfreed = λ free. let clash : Nobody ≡ Free = sym left.1 ∙ free in cc })
    lasts.owner

pooled_kept : (before after : Owner) (d : ℕ) → before ≡ Pool d → after ≡ Pool d → KeepsOwner before after
pooled_kept before after d was is = record { owner = inl (is ∙ sym was); unfreed = λ free. let clash : Pool d ≡ Free = sym is ∙ free in cc }

pub same_one : (o : Option Transfer) (t u : Transfer) → o ≡ Some t → o ≡ Some u → t ≡ u
same_one o t u a b = let e : Some t ≡ Some u = sym a ∙ b in cc

-- a strong output has a strong loan on each of its frames
strong_loan : (f : ℕ) (xs : List OutLoan) → All (λ (l : OutLoan). l.strong ≡ true) xs → Has f (output_frames xs) → 1 ≤ loan_times (output_loans xs) kind.Strong f
strong_loan f [] a h = absurd h
strong_loan f (x ∷ xs) a (inl e) =
    let passes : (is_kind kind.Strong (kind.output_kind x.strong) && (x.frame.0 == f)) ≡ true = ap (λ b. is_kind kind.Strong (kind.output_kind b) && (x.frame.0 == f)) (a 0 x (omega arith)) ∙ eq-eqb x.frame.0 f e in
    let one : num (is_kind kind.Strong (kind.output_kind x.strong) && (x.frame.0 == f)) ≡ 1 = ap num passes in
    omega (arith, sum_by-cons (λ (y : Loan). cond (is_kind kind.Strong y.kind && (y.frame == f)) 1 0) (output_loan x) (output_loans xs), one)
strong_loan f (x ∷ xs) a (inr h) = let later = strong_loan f xs (λ k d l. a (suc k) d (omega (arith, l))) h in omega (arith, sum_by-cons (λ (y : Loan). cond (is_kind kind.Strong y.kind && (y.frame == f)) 1 0) (output_loan x) (output_loans xs), later)

-- a frame of a strong call is a page's only where it is lent strongly
out_strong : (page f : ℕ) (t : Transfer) (loans : Loans) → is_strong_call t ≡ true → LendsOut page t loans → Has f (frames_of loans) → 1 ≤ loan_times (loans_of loans) kind.Strong f
out_strong page f t Nothing strong h has = absurd h
out_strong page f t (Outward p) strong h has = strong_loan f p.loans.items (λ i d m. h.0 i d m ∙ strong) has
out_strong page f t (Inward p) strong h has = absurd h

no_frames : (f : ℕ) (loans : Loans) → loans ≡ Nothing → Has f (frames_of loans) → ⊥
no_frames f loans e h = subst (λ l. Has f (frames_of l)) e h

in_system : (page f : ℕ) (owners : List Owner) (early : Bool) (t : Transfer) → LendsStrongly page owners early t t.loans → Has f (frames_of t.loans) → is_page (get_or owners f Free) ≡ false
in_system page f owners false t h has = absurd (no_frames f t.loans h has)
in_system page f owners true t h has = ap is_page (all_has (λ g. get_or owners g Free ≡ System t.id.0) (frames_of t.loans) h.1.own f has)

strong_lends : (page f : ℕ) (owners : List Owner) (early : Bool) (t : Transfer) (d : Direction) → is_strong_call t ≡ true → Lends page owners early t d → Has f (frames_of t.loans) → is_page (get_or owners f Free) ≡ true → 1 ≤ loans_on kind.Strong f t
strong_lends page f owners early t direction.Outward strong h has paged = out_strong page f t t.loans strong h has
strong_lends page f owners early t direction.Inward strong h has paged = let no = in_system page f owners early t (subst (LendsInput page owners early t) strong h) has in absurd (cc)

paged_kept : (owner : Owner) (c : Counts) → is_page owner ≡ true → 1 ≤ c.strong → is_kept owner c ≡ true
paged_kept Free c e l = absurd (cc)
paged_kept (Page p) c e l = grind (arith, rules, l)
paged_kept (System t) c e l = absurd (cc)
paged_kept (Pool d) c e l = absurd (cc)
paged_kept Nobody c e l = absurd (cc)

flat_same : (old new : ℕ → List ℕ) (fs : List ℕ) → ((j : ℕ) → j < length fs → new (get_or fs j 0) ≡ old (get_or fs j 0)) → bytes_in_frames new fs ≡ bytes_in_frames old fs
flat_same old new [] h = refl
flat_same old new (f ∷ fs) h = ap₂ ◌++◌ (h 0 (omega arith)) (flat_same old new fs (λ j l. h (suc j) (omega (arith, l))))

times_has : (f : ℕ) (xs : List ℕ) → Has f xs → 1 ≤ count_by (λ g. g == f) xs
times_has f [] h = absurd h
times_has f (x ∷ xs) (inl e) = let here : num (x == f) ≡ 1 = ap num (eq-eqb x f e) in omega (arith, sum_by-cons (λ g. num (g == f)) x xs, here)
times_has f (x ∷ xs) (inr h) = let later = times_has f xs h in omega (arith, sum_by-cons (λ g. num (g == f)) x xs, later)

-- of the frames nothing but owners has changed: a lent one's only where its page leaves it to nobody
pub record LeavesOwners (old new : Memory) : Type 0 where
  pub lent : (f : ℕ) → is_lent (counts_at old.frames f) ≡ true → Lasts old.frames new.frames f
  pub systems : (f : ℕ) → system_owner (owner_at new.frames f) ≡ system_owner (owner_at old.frames f)
  pub frames : new.frames ≡ record (old.frames) { owners = new.frames.owners }

module _ (k : Kernel) (g : IsSettled k) where
  abbrev owned : List Region
  owned = owned_regions k.spaces.processes

  abbrev LendsIt : Transfer → Type 0
  LendsIt u = Lends k.config.page k.memory.frames.owners (is_early_device (entry k.devices u.dev)) u u.dir

  -- a frame under a weak transfer's loan is held
  pub weak_held : (t : Transfer) (j : ℕ) → Has t k.transfers → is_strong_call t ≡ false → j < length (frames_of t.loans) → is_held (counts_at k.memory.frames (get_or (frames_of t.loans) j 0)) ≡ true
  weak_held t j there weak l =
      let f : ℕ = get_or (frames_of t.loans) j 0 in
      let lends : LendsIt t = all_has LendsIt k.transfers g.planned t there in
      subst (λ c. is_held c ≡ true) (sym (g.counted f)) (held_true (lent_of k.transfers k.pools f) (⊎_elim
      (λ w. inl (omega (arith, w, at_least (loans_on kind.Weak f) k.transfers t there)))
      (λ i. inr (omega (arith, i, at_least (loans_on kind.Input f) k.transfers t there)))
      (held_by k.config.page k.memory.frames.owners (is_early_device (entry k.devices t.dev)) t t.dir weak lends j l)))

  pub weak_frames_held : EachFrame (λ f. is_held (counts_at k.memory.frames f) ≡ true) (weak_transfers k.transfers)
  weak_frames_held i d l j m =
      let t : Transfer = get_or (weak_transfers k.transfers) i d in
      let there = weak_there k.transfers t (has_at (weak_transfers k.transfers) i d l) in
      let weak : is_strong_call t ≡ false = (let w = there.1 in grind (arith, rules, w)) in
      weak_held t j there.0 weak m

  -- a frame of a pending transfer is lent
  pub transfer_lent : (f : ℕ) (t : Transfer) → Has t k.transfers → has_frame f t ≡ true → is_lent (counts_at k.memory.frames f) ≡ true
  transfer_lent f t there on =
      let some = lent_for f t.loans on in
      subst (λ c. is_lent c ≡ true) (sym (g.counted f)) (some_lent (lent_of k.transfers k.pools f) (omega (arith, some, at_least (loans_on kind.Strong f) k.transfers t there, at_least (loans_on kind.Weak f) k.transfers t there, at_least (loans_on kind.Input f) k.transfers t there)))

  pub frame_lent : (t : Transfer) (j : ℕ) → Has t k.transfers → j < length (frames_of t.loans) → is_lent (counts_at k.memory.frames (get_or (frames_of t.loans) j 0)) ≡ true
  frame_lent t j there l = let f : ℕ = get_or (frames_of t.loans) j 0 in transfer_lent f t there (has_any (λ h. h == f) f (frames_of t.loans) (has_at (frames_of t.loans) j 0 l) (eq-eqb f f refl))

  module _ (m : Memory) (d : LeavesOwners k.memory m) where
    pub counts_same : (f : ℕ) → counts_at m.frames f ≡ counts_at k.memory.frames f
    counts_same f = ap (λ (t : FrameTable). counts_at t f) d.frames

    -- no frame that a transfer or a pool has is freed, or gets another owner
    pub lent_kept : (n f : ℕ) (t : Transfer) → find (has_number n) k.transfers ≡ Some t → has_frame f t ≡ true → KeepsOwner (owner_at k.memory.frames f) (owner_at m.frames f)
    lent_kept n f t was on = let lent = transfer_lent f t (find_has (has_number n) k.transfers t was).0 on in owner_kept k.memory.frames m.frames f (g.sound.lent f) lent (d.lent f lent)

    pub pool_kept : (j f : ℕ) → 0 < pool_on f (entry k.pools j) → KeepsOwner (owner_at k.memory.frames f) (owner_at m.frames f)
    pool_kept j f on = let was = g.owners.pool_frames f j on in pooled_kept (owner_at k.memory.frames f) (owner_at m.frames f) j was (pool_same (owner_at k.memory.frames f) (owner_at m.frames f) j (sym (d.systems f)) was)

    pub counted_still : AreCounted m.frames.counts k.transfers k.pools
    counted_still f = counts_same f ∙ g.counted f

    pub owned_still : AreOwned m.frames.owners k.transfers k.pools
    owned_still = record {
      system = λ f j e. g.owners.system f j (system_same (owner_at m.frames f) (owner_at k.memory.frames f) j (d.systems f) e);
      pooled = λ f j e. g.owners.pooled f j (pool_same (owner_at m.frames f) (owner_at k.memory.frames f) j (d.systems f) e);
      spare = λ f j e. g.owners.spare f j (pool_same (owner_at m.frames f) (owner_at k.memory.frames f) j (d.systems f) e);
      pool_frames = λ f j l. pool_same (owner_at k.memory.frames f) (owner_at m.frames f) j (sym (d.systems f)) (g.owners.pool_frames f j l);
    }

    -- a frame of nobody's that a transfer has stays so
    pub nobody_still : (f : ℕ) → is_held (counts_at k.memory.frames f) ≡ true → owner_at k.memory.frames f ≡ Nobody → owner_at m.frames f ≡ Nobody
    nobody_still f held e = ⊎_elim (λ same. same ∙ e) (λ (left : (is_page (owner_at k.memory.frames f) ≡ true) × (owner_at m.frames f ≡ Nobody)). left.1) (d.lent f (lent_true (counts_at k.memory.frames f) held)).owner

    abbrev was_kept : ℕ → List ℕ
    was_kept f = if is_kept (owner_at k.memory.frames f) (counts_at k.memory.frames f) then bytes_at k.memory.frames f else []

    abbrev now_kept : ℕ → List ℕ
    now_kept f = if is_kept (owner_at m.frames f) (counts_at m.frames f) then bytes_at m.frames f else []

    pub bytes_same : (f : ℕ) → bytes_at m.frames f ≡ bytes_at k.memory.frames f
    bytes_same f = ap (λ (t : FrameTable). bytes_at t f) d.frames

    -- a frame that is seen by itself before and afterwards shows the same, and one whose owner stays
    shows_kept : (f : ℕ) → is_kept (owner_at m.frames f) (counts_at m.frames f) ≡ is_kept (owner_at k.memory.frames f) (counts_at k.memory.frames f) → now_kept f ≡ was_kept f
    shows_kept f e = ap₂ (λ b (l : List ℕ). if b then l else []) e (bytes_same f)

    owner_same : (f : ℕ) → owner_at m.frames f ≡ owner_at k.memory.frames f → now_kept f ≡ was_kept f
    owner_same f e = shows_kept f (ap₂ is_kept e (counts_same f))

    strong_same : (t : Transfer) (f : ℕ) → Has t k.transfers → is_strong_call t ≡ true → Has f (frames_of t.loans) → now_kept f ≡ was_kept f
    strong_same t f there strong on =
        let lends : LendsIt t = all_has LendsIt k.transfers g.planned t there in
        let lent = transfer_lent f t there (has_any (λ h. h == f) f (frames_of t.loans) on (eq-eqb f f refl)) in
        ⊎_elim
        (λ same. owner_same f same)
        (λ (left : (is_page (owner_at k.memory.frames f) ≡ true) × (owner_at m.frames f ≡ Nobody)).
        let some = strong_lends k.config.page f k.memory.frames.owners (is_early_device (entry k.devices t.dev)) t t.dir strong lends on left.0 in
        let counted : (counts_at k.memory.frames f).strong ≡ (lent_of k.transfers k.pools f).strong = ap (λ (c : Counts). c.strong) (g.counted f) in
        let was = paged_kept (owner_at k.memory.frames f) (counts_at k.memory.frames f) left.0 (omega (arith, some, counted, at_least (loans_on kind.Strong f) k.transfers t there)) in
        shows_kept f (ap (λ o. is_kept o (counts_at m.frames f)) left.1 ∙ sym was))
        (d.lent f lent).owner

    pool_shows : (j : ℕ) (o : Option PoolState) → entry k.pools j ≡ o → IfSome o (λ (q : PoolState). ShowSame was_kept now_kept (input_frames q.loans))
    pool_shows j None is = tt
    pool_shows j (Some q) is = λ i e l.
        let f : ℕ = get_or (input_frames q.loans) i e in
        let some = times_has f (input_frames q.loans) (has_at (input_frames q.loans) i e l) in
        let was = g.owners.pool_frames f j (subst (λ x. 0 < pool_on f x) (sym is) (omega (arith, some))) in
        let now = pool_same (owner_at k.memory.frames f) (owner_at m.frames f) j (sym (d.systems f)) was in
        owner_same f (now ∙ sym was)

    -- and a frame of an orphan
    orphan_frame : (n x : ℕ) (t : Transfer) → is_orphan owned k.transfers n ≡ true → find (covers n x) k.transfers ≡ Some t → (j : ℕ) → j < length (frames_of t.loans) → now_kept (get_or (frames_of t.loans) j 0) ≡ was_kept (get_or (frames_of t.loans) j 0)
    orphan_frame n x t orphan e j l =
        let f : ℕ = get_or (frames_of t.loans) j 0 in
        let found = find_has (covers n x) k.transfers t e in
        let passes : covers n x t ≡ true = found.1 in
        let weak : is_strong_call t ≡ false = grind (arith, rules, passes) in
        let named : is_named t.region n ≡ true = grind (arith, rules, passes) in
        let unowned : is_owned owned n ≡ false = grind (arith, rules, orphan) in
        let none : region_named owned (region_number t) ≡ None = ap (region_named owned) (named_region t n named) ∙ find_none (has_id n) owned unowned in
        let holds = all_has (HoldsPages k.config.page k.memory owned g.held.page_in g.held.frame_of) (weak_transfers k.transfers) g.held.each t (weak_has t k.transfers weak found.0) in
        let nobody : owner_at k.memory.frames f ≡ Nobody = subst (λ (r : Option Region). IsInFrame k.memory r (page_of_loan k.config.page t j).index f) none (holds.held j l) in
        owner_same f (nobody_still f (weak_held t j found.0 weak l) nobody ∙ sym nobody)

    orphan_shows : (n x : ℕ) → is_orphan owned k.transfers n ≡ true → orphan_byte now_kept k.transfers n x ≡ orphan_byte was_kept k.transfers n x
    orphan_shows n x orphan = elim (find (covers n x) k.transfers) as (λ o. find (covers n x) k.transfers ≡ o → byte_under now_kept x o ≡ byte_under was_kept x o) [
      | None ↦ λ e. refl
      | Some t ↦ λ e. ap (λ (l : List ℕ). (x, slice_index (part (first_of t.loans) t.len l) (x - t.offset)) ∷ []) (flat_same was_kept now_kept (frames_of t.loans) (orphan_frame n x t orphan e))
    ] refl

    -- what is needed of the frames shows the same
    pub needed_same : SameNeeded owned k.transfers k.pools was_kept now_kept
    needed_same = record {
      lent = λ i e l strong j h lt. let t : Transfer = get_or k.transfers i e in strong_same t (get_or (frames_of t.loans) j h) (has_at k.transfers i e l) strong (has_at (frames_of t.loans) j h lt);
      pooled = λ j. pool_shows j (entry k.pools j) refl;
      orphans = orphan_shows;
    }
