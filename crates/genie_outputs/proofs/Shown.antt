-- What is seen once strong loans are out.
use Rattle.std.proofs.Common.{◌≡◌, ℕ, ◌+◌, ◌*◌, ◌/◌, ◌%◌, ◌<◌, ◌≤◌, zero, suc, Bool, true, false, List, [], ◌∷◌, refl, sym, ap, subst, arith, rules, ◌∙◌, ⊎_elim, length, get_or}
use Rattle.std.specs.Prelude.{Option, Some, None, All, IfSome, sum_by, flat_map, replicate, nat_lt, ◌==◌, ◌&&◌, if◌then◌else◌}
use Rattle.std.proofs.lemmas.Bool.{cases_Bool, eq-eqb}
use Rattle.std.proofs.lemmas.List.Sums.{sum_by-cons}
use Rattle.genie_base.specs.Bytes.{part}
use Rattle.genie_base.specs.Counts.{span}
use Rattle.genie_base.specs.Lemmas.Places.{num, any_default}
use Rattle.genie_base.specs.Transfers.{class_of, is_strong}
use Rattle.genie_frame.specs.declared.frame.Counts.{Counts}
use Rattle.genie_frame.specs.declared.frame.OutLoan.{OutLoan}
use Rattle.genie_frame.specs.declared.frame.Owner.{Owner}
use Rattle.genie_frame.specs.declared.frame.Owner.TheVariants.{Free, Page, System, Pool, Nobody}
use Rattle.genie_frame.specs.FrameTable.{owner_at, counts_at, bytes_at, is_held, is_lent, is_page, is_system}
use Rattle.genie_input.specs.Pools.{PoolState}
use Rattle.genie_store.specs.StoreView.{StoreView}
use Rattle.genie_object.specs.declared.memory.Memory.{Memory}
use Rattle.genie_object.specs.Memory.{Seen, seen, is_kept}
use Rattle.genie_object.specs.Objects.{entry_at}
use Rattle.genie_object.specs.Sound.{IsSized}
use Rattle.genie_plan.specs.declared.plan.OutPlan.{OutPlan}
use Rattle.genie_plan.specs.Loans.{Loan, loan_times, output_loan, output_loans}
use Rattle.genie_plan.specs.Loans as kind
use Rattle.genie_plan.specs.Landings.{entries_bytes}
use Rattle.genie_plan.specs.Plans.{joined, output_frames, input_frames, range_bytes, times, CanSend}
use Rattle.genie_plan.specs.Lemmas.Ranges.{out_frames_count, times_at}
use Rattle.genie_region.specs.declared.region.Region.{Region}
use Rattle.genie_model.specs.Lemmas.Lists.{has_any, has_at}
use Rattle.genie_model.specs.Tables.{entry}
use Rattle.genie_kernel.specs.declared.kernel.Kernel.{Kernel}
use Rattle.genie_kernel.specs.declared.transfer.Transfer.{Transfer}
use Rattle.genie_kernel.specs.Counted.{lent_of, pool_on}
use Rattle.genie_kernel.specs.Good.{IsGood}
use Rattle.genie_kernel.specs.Loans.{frames_of, has_frame}
use Rattle.genie_kernel.specs.Orphans.{lent_bytes}
use Rattle.genie_kernel.specs.Regions.{object_bytes, owned_regions}
use Rattle.genie_kernel.specs.Same.{SameFrames, SameNeeded, ShowSame}
use Rattle.genie_kernel.specs.View.{no_bytes}
use Rattle.genie_kernel.specs.Lemmas.Alike.{lent_suffice}
use Rattle.genie_kernel.specs.Lemmas.Keeping.{transfer_lent}
use Rattle.genie_tcow.specs.Lending.{HasLent, see_lent, loans_on}
use Rattle.genie_tcow.specs.Ranges.{IsPlanOf}
use Rattle.genie_outputs.specs.declared.call.Call.{Call}
use Rattle.genie_outputs.specs.Calls.{Reaches, place_in, range_of, transfer_of}
use Rattle.genie_outputs.proofs.Loaned.{all_strong, none_or, on_times}
use Rattle.genie_outputs.proofs.Pages.{HasPages, bytes_size, part_of_pages, shown_joined, span_within, zeros_of_pages}
use Rattle.genie_outputs.proofs.Reached.{range_inside, some_page}

-- what is seen before and after a call that takes or lends frames: entries and what devices need show the same, and a
-- strong call's frames the bytes of its range
pub record Shows (k : Kernel) (c : Call) (r : Region) (plan : OutPlan) (old new : Seen) : Type 0 where
  pub entries : new.entry_bytes ≡ old.entry_bytes
  pub same : SameNeeded (owned_regions k.spaces.processes) k.transfers k.pools old.kept_bytes new.kept_bytes
  pub payload : is_strong (class_of c.sem) ≡ true → lent_bytes new.kept_bytes (transfer_of k c r plan) ≡ part (place_in k.config.page c r) c.len (object_bytes old.entry_bytes r.object.0 r.pages)

-- nothing has changed of what is needed where nothing has changed
pub needed_same : (k : Kernel) (s : ℕ → List ℕ) → SameNeeded (owned_regions k.spaces.processes) k.transfers k.pools s s
needed_same k s = record { lent = λ i d l strong j e n. refl; pooled = λ d. nothing (entry k.pools d); orphans = λ n x e. refl }
  where
    nothing : (o : Option PoolState) → IfSome o (λ (p : PoolState). ShowSame s s (input_frames p.loans))
    nothing None = tt
    nothing (Some p) = λ j e n. refl

strong_times : (loans : List OutLoan) (f : ℕ) → All (λ (l : OutLoan). l.strong ≡ true) loans → loan_times (output_loans loans) kind.Strong f ≡ loans_on (output_loans loans) f
strong_times [] f a = refl
strong_times (x ∷ xs) f a =
    let here = a 0 x (omega arith) in
    let same : num (kind.is_kind kind.Strong (kind.output_kind x.strong) && (x.frame.0 == f)) ≡ num (x.frame.0 == f) = ap (λ (b : Bool). num (kind.is_kind kind.Strong (kind.output_kind b) && (x.frame.0 == f))) here in
    let later = strong_times xs f (λ i d l. a (suc i) d (omega (arith, l))) in
    omega (arith, same, later, sum_by-cons (λ (y : Loan). num (kind.is_kind kind.Strong y.kind && (y.frame == f))) (output_loan x) (output_loans xs), sum_by-cons (λ (y : Loan). num (y.frame == f)) (output_loan x) (output_loans xs))

pool_most : (f : ℕ) (pools : List (Option PoolState)) (d : ℕ) → pool_on f (entry pools d) ≤ sum_by (pool_on f) pools
pool_most f [] d = omega arith
pool_most f (p ∷ ps) zero = omega (arith, sum_by-cons (pool_on f) p ps)
pool_most f (p ∷ ps) (suc d) = omega (arith, sum_by-cons (pool_on f) p ps, pool_most f ps d)

input_lent : (c : Counts) → 0 < c.input → is_lent c ≡ true
input_lent c l = grind (arith, rules, l)

-- a lent frame that isn't strongly lent is held
lent_held : (c : Counts) → is_lent c ≡ true → nat_lt 0 c.strong ≡ false → is_held c ≡ true
lent_held c l n = grind (arith, rules, l, n)

module _ (k : Kernel) (m : Memory) (c : Call) (r : Region) (plan : OutPlan) (v w : StoreView) (spoken : ℕ → ℕ → Bool) (g : IsGood k) (x : HasLent kind.Strong k.next spoken (output_loans plan.loans.items) k.memory m v w) where
  abbrev loans : List Loan
  loans = output_loans plan.loans.items

  -- no page that a device holds is under these loans
  unheld : (f p : ℕ) → owner_at k.memory.frames f ≡ Page p → is_held (counts_at k.memory.frames f) ≡ true → is_lent (counts_at k.memory.frames f) ≡ true → 0 < loans_on loans f → ⊥
  unheld f p is held lent l =
      let after = x.keeps.held f held in
      let outside : is_system (owner_at m.frames f) ≡ false = ⊎_elim (λ same. ap is_system (same ∙ is)) (λ (left : (is_page (owner_at k.memory.frames f) ≡ true) × (owner_at m.frames f ≡ Nobody)). ap is_system left.1) (x.keeps.lent f lent).owner in
      let none : (counts_at m.frames f).strong ≡ 0 = x.sound.held.unlent f outside after in
      let count : (counts_at m.frames f).strong ≡ (counts_at k.memory.frames f).strong + loan_times loans kind.Strong f = ap (λ (d : Counts). d.strong) (x.counts f) in
      let strong = strong_times plan.loans.items f (all_strong plan.loans.items x.kinds) in
      omega (arith, none, count, strong, l)

  -- so a frame that was lent, and is lent strongly now, was seen by itself
  was_kept : (f : ℕ) → is_lent (counts_at k.memory.frames f) ≡ true → 0 < loans_on loans f → (o : Owner) → owner_at k.memory.frames f ≡ o → is_kept o (counts_at k.memory.frames f) ≡ true
  was_kept f lent l Free is = let none = (g.sound.lent f).free is in let clash : true ≡ false = sym lent ∙ none in absurd (cc)
  was_kept f lent l (Page p) is = ⊎_elim (λ yes_kept. yes_kept) (λ (none : nat_lt 0 (counts_at k.memory.frames f).strong ≡ false). absurd (unheld f p is (lent_held (counts_at k.memory.frames f) lent none) lent l)) (cases_Bool (nat_lt 0 (counts_at k.memory.frames f).strong))
  was_kept f lent l (System n) is = refl
  was_kept f lent l (Pool d) is = refl
  was_kept f lent l Nobody is = refl

  module _ (slots : ℕ → List ℕ) where
    abbrev old : Seen
    old = seen k.memory slots

    abbrev new : Seen
    new = see_lent kind.Strong loans m.frames old

    shown : (f : ℕ) → 0 < loans_on loans f → new.kept_bytes f ≡ bytes_at m.frames f
    shown f l = let some : nat_lt 0 (loans_on loans f) ≡ true = grind (arith, rules, l) in ap (λ (b : Bool). if b then bytes_at m.frames f else old.kept_bytes f) some

    -- what was lent shows what it showed
    lent_same : (f : ℕ) → is_lent (counts_at k.memory.frames f) ≡ true → new.kept_bytes f ≡ old.kept_bytes f
    lent_same f lent = ⊎_elim
        (λ none. ap (λ n. if nat_lt 0 n then bytes_at m.frames f else old.kept_bytes f) none)
        (λ some. shown f some ∙ (x.keeps.lent f lent).bytes ∙ sym (ap (λ (b : Bool). if b then bytes_at k.memory.frames f else []) (was_kept f lent some (owner_at k.memory.frames f) refl)))
        (none_or (loans_on loans f))

    frame_on : (t : Transfer) (j e : ℕ) → j < length (frames_of t.loans) → has_frame (get_or (frames_of t.loans) j e) t ≡ true
    frame_on t j e l = let f = get_or (frames_of t.loans) j e in has_any (λ h. h == f) f (frames_of t.loans) (has_at (frames_of t.loans) j e l) (eq-eqb f f refl)

    pool_same_bytes : (d : ℕ) (o : Option PoolState) → entry k.pools d ≡ o → IfSome o (λ (p : PoolState). ShowSame old.kept_bytes new.kept_bytes (input_frames p.loans))
    pool_same_bytes d None e = tt
    pool_same_bytes d (Some p) e = λ j z l.
        let f = get_or (input_frames p.loans) j z in
        let same : get_or (input_frames p.loans) j 0 ≡ f = any_default (input_frames p.loans) j 0 z l in
        let on : 0 < times (input_frames p.loans) f = subst (λ n. 0 < times (input_frames p.loans) n) same (times_at (input_frames p.loans) j l) in
        let all : 0 < pool_on f (entry k.pools d) = subst (λ q. 0 < pool_on f q) (sym e) on in
        let most = pool_most f k.pools d in
        lent_same f (subst (λ n. is_lent n ≡ true) (sym (g.counted f)) (input_lent (lent_of k.transfers k.pools f) (omega (arith, all, most))))

    frames_same : SameFrames k.transfers k.pools old.kept_bytes new.kept_bytes
    frames_same = record {
      lent = λ i d l j e n. let t : Transfer = get_or k.transfers i d in let f = get_or (frames_of t.loans) j e in lent_same f (transfer_lent k f t g (has_at k.transfers i d l) (frame_on t j e n));
      pooled = λ d. pool_same_bytes d (entry k.pools d) refl;
    }

    -- the frames of the loans show what was sent for
    frames_shown : flat_map new.kept_bytes (output_frames plan.loans.items) ≡ joined m.frames.bytes (output_frames plan.loans.items)
    frames_shown = shown_joined new.kept_bytes m.frames (output_frames plan.loans.items) (λ j l. let f = get_or (output_frames plan.loans.items) j 0 in let same = on_times plan.loans.items f in let some = times_at (output_frames plan.loans.items) j l in shown f (omega (arith, same, some)))

    payload_shown : IsSized k.memory v → HasPages v slots → Reaches k c r → IsPlanOf k.memory.frames.page (range_of k.config.page c r) plan.loans.items plan.first plan.len → CanSend m.frames plan.loans.items plan.first plan.len
        → range_bytes m.frames (output_frames plan.loans.items) plan.first plan.len ≡ part plan.first plan.len (entries_bytes old r.object.0 (place_in k.config.page c r / k.memory.frames.page) (span k.memory.frames.page (place_in k.config.page c r) c.len))
        → lent_bytes new.kept_bytes (transfer_of k c r plan) ≡ part (place_in k.config.page c r) c.len (object_bytes old.entry_bytes r.object.0 r.pages)
    payload_shown sized paged reached p ready sends =
        let size = k.memory.frames.page in
        let at = place_in k.config.page c r in
        let page : size ≡ k.config.page = g.sized.page in
        let inside = range_inside k c r reached in
        let some = some_page k g in
        let within : at / size + span size at c.len ≤ r.pages = subst (λ z. at / z + span z at c.len ≤ r.pages) (sym page) (span_within k.config.page at c.len r.pages some inside.first inside.last) in
        let count = out_frames_count plan.loans.items in
        let long : length (output_frames plan.loans.items) ≡ span size at c.len = count ∙ p.number in
        let fits : 0 < c.len → at % size + c.len ≤ size * span size at c.len = λ l.
        let send = ready.within (omega (arith, l, p.len)) in
        let same : m.frames.page * length (output_frames plan.loans.items) ≡ size * span size at c.len = λ i. x.keeps.page i * long i in
        omega (arith, send, same, p.first, p.len) in
        ap (λ l. part plan.first c.len l) frames_shown
        ∙ (λ i. part plan.first (sym p.len i) (joined m.frames.bytes (output_frames plan.loans.items)))
        ∙ sends
        ∙ (λ i. part (p.first i) (p.len i) (entries_bytes old r.object.0 (at / size) (span size at c.len)))
        ∙ part_of_pages (old.entry_bytes r.object.0) size at c.len (span size at c.len) r.pages (λ i. bytes_size k.memory v slots (entry_at k.memory.objects r.object.0 i).page g.sound sized paged) (omega (arith, some, page)) within fits

    pub strong_shows : IsSized k.memory v → HasPages v slots → Reaches k c r → IsPlanOf k.memory.frames.page (range_of k.config.page c r) plan.loans.items plan.first plan.len → CanSend m.frames plan.loans.items plan.first plan.len
        → range_bytes m.frames (output_frames plan.loans.items) plan.first plan.len ≡ part plan.first plan.len (entries_bytes old r.object.0 (place_in k.config.page c r / k.memory.frames.page) (span k.memory.frames.page (place_in k.config.page c r) c.len))
        → Shows k c r plan old new
    strong_shows sized paged reached p ready sends = record {
      entries = refl;
      same = lent_suffice (owned_regions k.spaces.processes) k.transfers k.pools old.kept_bytes new.kept_bytes frames_same;
      payload = λ strong. payload_shown sized paged reached p ready sends;
    }

-- the outline shows zeros before and afterwards
pub outline_shows : (k : Kernel) (m : Memory) (c : Call) (r : Region) (plan : OutPlan) → IsGood k → Reaches k c r → m.frames.page ≡ k.memory.frames.page → IsPlanOf k.memory.frames.page (range_of k.config.page c r) plan.loans.items plan.first plan.len → CanSend m.frames plan.loans.items plan.first plan.len → Shows k c r plan (no_bytes k.config.page).seen (no_bytes k.config.page).seen
outline_shows k m c r plan g reached same p ready =
    let size = k.config.page in
    let at = place_in size c r in
    let page : k.memory.frames.page ≡ size = g.sized.page in
    let inside = range_inside k c r reached in
    let some = some_page k g in
    let frames = output_frames plan.loans.items in
    let long : length frames ≡ span size at c.len = out_frames_count plan.loans.items ∙ p.number ∙ ap (λ z. span z at c.len) page in
    let first : plan.first ≡ at % size = p.first ∙ ap (λ z. at % z) page in
    let within = span_within size at c.len r.pages some inside.first inside.last in
    let fits : 0 < c.len → at % size + c.len ≤ size * length frames = λ l.
    let send = ready.within (omega (arith, l, p.len)) in
    let whole : m.frames.page * length frames ≡ size * length frames = ap (λ z. z * length frames) (same ∙ page) in
    omega (arith, send, whole, first, p.len) in
    record {
      entries = refl;
      same = needed_same k (no_bytes size).seen.kept_bytes;
      payload = λ strong. ap (λ z. part z c.len (flat_map (λ (f : ℕ). replicate size 0) frames)) first ∙ zeros_of_pages frames size at c.len r.pages some (omega (arith, within, long)) fits;
    }
