-- No device holds a page of a region that is held for a move input.
use Rattle.std.proofs.Common.{◌≡◌, ◌≢◌, ℕ, ◌+◌, ◌<◌, ◌≤◌, zero, suc, Bool, true, false, not, List, [], ◌∷◌, refl, sym, ap, subst, arith, rules, ◌∙◌, length, get_or, ⊎_elim, inl, inr, eqb-true, eq-eqb}
use Rattle.std.specs.Prelude.{Option, Some, None, All, find, sum_by, count_by, ◌⊎◌, ◌==◌, ◌&&◌, if◌then◌else◌}
use Rattle.std.proofs.lemmas.Bool.{cases_Bool}
use Rattle.std.proofs.lemmas.List.Sums.{sum_by-cons}
use Rattle.genie_base.specs.Lemmas.Places.{num}
use Rattle.genie_base.specs.declared.semantics.Direction.{Direction}
use Rattle.genie_base.specs.declared.semantics.Direction.TheVariants as direction
use Rattle.genie_base.specs.Transfers.{class_of, is_strong}
use Rattle.genie_model.specs.Space.{is_move}
use Rattle.genie_base.specs.declared.semantics.Class.TheVariants.{Move}
use Rattle.genie_frame.specs.declared.frame.Counts.{Counts}
use Rattle.genie_frame.specs.declared.frame.OutLoan.{OutLoan}
use Rattle.genie_frame.specs.declared.frame.Owner.TheVariants.{Page, System, Pool, Nobody}
use Rattle.genie_frame.specs.FrameTable.{counts_at, is_held, is_system, owner_at}
use Rattle.genie_input.specs.Pools.{PoolState}
use Rattle.genie_object.specs.declared.memory.Memory.{Memory}
use Rattle.genie_object.specs.Leaving.{IsUnheld}
use Rattle.genie_object.specs.Memory.{entry_frame}
use Rattle.genie_object.specs.Lemmas.Naming.{named_once}
use Rattle.genie_plan.specs.Loans.{Loan, is_kind, loan_times, output_loan, output_loans}
use Rattle.genie_plan.specs.Loans as kind
use Rattle.genie_plan.specs.Plans.{output_frames, times}
use Rattle.genie_plan.specs.Lemmas.Landings.{page_in, times_some}
use Rattle.genie_region.specs.declared.region.Region.{Region}
use Rattle.genie_model.specs.Lemmas.Lists.{Has, all_has, find_has, has_any, has_map}
use Rattle.genie_model.specs.Pending as pending
use Rattle.genie_model.specs.State as flat
use Rattle.genie_model.specs.Tables.{entry}
use Rattle.genie_orderly.specs.Orderly.{moves_into}
use Rattle.genie_kernel.specs.declared.kernel.Kernel.{Kernel}
use Rattle.genie_kernel.specs.declared.transfer.Loans.{Loans}
use Rattle.genie_kernel.specs.declared.transfer.Loans.TheVariants.{Nothing, Outward, Inward}
use Rattle.genie_kernel.specs.declared.transfer.Transfer.{Transfer}
use Rattle.genie_kernel.specs.Calls.{has_number, is_strong_call, number_of, region_number}
use Rattle.genie_kernel.specs.Counted.{lent_of, loans_on, pool_on}
use Rattle.genie_kernel.specs.Good.{IsGood}
use Rattle.genie_kernel.specs.Held.{HoldsPages, IsInFrame, page_of_loan, region_named, weak_transfers}
use Rattle.genie_kernel.specs.Loans.{frames_of, loans_of}
use Rattle.genie_kernel.specs.Planned.{Lends, LendsInput, LendsOut, LendsStrongly, is_early_device}
use Rattle.genie_kernel.specs.Regions.{has_id, owned_regions}
use Rattle.genie_kernel.specs.View.{no_bytes, outline}
use Rattle.genie_kernel.specs.Lemmas.Staying.{at_least}
use Rattle.genie_changes.specs.Lemmas.Once.{same_object}
use Rattle.genie_arrivals.proofs.Alone.{loans_few}
use Rattle.genie_arrivals.proofs.Found.{seen_as}
use Rattle.genie_arrivals.proofs.Lent.{lends_at}

sum_some : {X : Type 0} (h : X → ℕ) (xs : List X) → 0 < sum_by h xs → (x : X) × Has x xs × (0 < h x)
sum_some h [] l = absurd (omega (arith, l))
sum_some h (x ∷ xs) l = elim (some_or_none (h x)) [
  | inl here ↦ (x, inl refl, here)
  | inr none ↦ let later = sum_some h xs (omega (arith, l, none, sum_by-cons h x xs)) in (later.0, inr later.1, later.2)
]
  where
    some_or_none : (n : ℕ) → (0 < n) ⊎ (n ≡ 0)
    some_or_none zero = inr refl
    some_or_none (suc n) = inl (omega arith)

pool_some : (f : ℕ) (pools : List (Option PoolState)) → 0 < sum_by (pool_on f) pools → (d : ℕ) × (0 < pool_on f (entry pools d))
pool_some f [] l = absurd (omega (arith, l))
pool_some f (p ∷ pools) l = elim (some_or_none (pool_on f p)) [
  | inl here ↦ (zero, here)
  | inr none ↦ let later = pool_some f pools (omega (arith, l, none, sum_by-cons (pool_on f) p pools)) in (suc later.0, later.1)
]
  where
    some_or_none : (n : ℕ) → (0 < n) ⊎ (n ≡ 0)
    some_or_none zero = inr refl
    some_or_none (suc n) = inl (omega arith)

-- loans for output that are all strong
all_strong : (f : ℕ) (xs : List OutLoan) → All (λ (l : OutLoan). l.strong ≡ true) xs → loan_times (output_loans xs) kind.Strong f ≡ times (output_frames xs) f
all_strong f [] h = refl
all_strong f (x ∷ xs) h =
    let is : x.strong ≡ true = h zero x (omega arith) in
    let one : num (is_kind kind.Strong (kind.output_kind x.strong) && (x.frame.0 == f)) ≡ num (x.frame.0 == f) = ap (λ b. num (is_kind kind.Strong (kind.output_kind b) && (x.frame.0 == f))) is in
    omega (arith, one, all_strong f xs (λ k d l. h (suc k) d (omega (arith, l))), sum_by-cons (λ (y : Loan). num (is_kind kind.Strong y.kind && (y.frame == f))) (output_loan x) (output_loans xs), sum_by-cons (λ (g : ℕ). num (g == f)) x.frame.0 (output_frames xs))

count_one : {X : Type 0} (p : X → Bool) (xs : List X) (x : X) → Has x xs → p x ≡ true → 1 ≤ count_by p xs
count_one p [] x h e = absurd h
count_one p (z ∷ zs) x (inl h) e = let here : num (p z) ≡ 1 = ap num (ap p h ∙ e) in omega (arith, here, sum_by-cons (λ w. num (p w)) z zs)
count_one p (z ∷ zs) x (inr h) e = omega (arith, count_one p zs x h e, sum_by-cons (λ w. num (p w)) z zs)

-- two that pass are counted
count_two : {X : Type 0} (p : X → Bool) (xs : List X) (x y : X) → Has x xs → Has y xs → x ≢ y → p x ≡ true → p y ≡ true → 2 ≤ count_by p xs
count_two p [] x y a b ne px py = absurd a
count_two p (z ∷ zs) x y (inl a) (inl b) ne px py = absurd (ne (sym a ∙ b))
count_two p (z ∷ zs) x y (inl a) (inr b) ne px py = let here : num (p z) ≡ 1 = ap num (ap p a ∙ px) in omega (arith, here, count_one p zs y b py, sum_by-cons (λ w. num (p w)) z zs)
count_two p (z ∷ zs) x y (inr a) (inl b) ne px py = let here : num (p z) ≡ 1 = ap num (ap p b ∙ py) in omega (arith, here, count_one p zs x a px, sum_by-cons (λ w. num (p w)) z zs)
count_two p (z ∷ zs) x y (inr a) (inr b) ne px py = omega (arith, count_two p zs x y a b ne px py, sum_by-cons (λ w. num (p w)) z zs)

held_parts : (c : Counts) → is_held c ≡ true → 0 < c.weak + c.input
held_parts c h = grind (arith, rules, h)

named_by : (rs : List Region) (o : Option ℕ) (q : Region) → region_named rs o ≡ Some q → o ≡ Some q.id.0
named_by rs None q e = absurd (cc)
named_by rs (Some j) q e = let h = find_has (has_id j) rs q e in let same : q.id.0 ≡ j = eqb-true q.id.0 j h.1 in ap Some (sym same)

weak_has : (t : Transfer) (ts : List Transfer) → is_strong_call t ≡ false → Has t ts → Has t (weak_transfers ts)
weak_has t [] weak h = absurd h
weak_has t (x ∷ ts) weak (inl same) =
    let is : is_strong_call x ≡ false = ap is_strong_call same ∙ weak in
    subst (λ (b : Bool). Has t (if not b then x ∷ weak_transfers ts else weak_transfers ts)) (sym is) (inl same)
weak_has t (x ∷ ts) weak (inr later) =
    let rest = weak_has t ts weak later in
    elim (is_strong_call x) as (λ b. Has t (if not b then x ∷ weak_transfers ts else weak_transfers ts)) [ true ↦ rest | false ↦ inr rest ]

just_same : (o : Option ℕ) (j : ℕ) → o ≡ Some j → pending.is_just o j ≡ true
just_same o j e = ap (λ z. pending.is_just z j) e ∙ eq-eqb j j refl

module _ (k : Kernel) (n : ℕ) (t : Transfer) (r : Region) (g : IsGood k) (found : find (has_number n) k.transfers ≡ Some t) (strong : is_strong_call t ≡ true) (class : class_of t.sem ≡ Move) (names : region_number t ≡ Some r.id.0) (has : Has r (owned_regions k.spaces.processes)) where
  abbrev m : Memory
  m = k.memory

  abbrev rs : List Region
  rs = owned_regions k.spaces.processes

  abbrev v : Transfer → flat.Transfer
  v = seen_as k (no_bytes k.config.page)

  there : Has t k.transfers
  there = (find_has (has_number n) k.transfers t found).0

  -- no other transfer names the region
  named_alone : (u : Transfer) → Has u k.transfers → is_strong_call u ≡ false → region_number u ≡ Some r.id.0 → ⊥
  named_alone u hu weak nu =
      let first : pending.names r.id.0 (v t) ≡ true = just_same (region_number t) r.id.0 names in
      let second : pending.names r.id.0 (v u) ≡ true = just_same (region_number u) r.id.0 nu in
      let moves : moves_into r.id.0 (v t) ≡ true = ap (λ c. is_move c && pending.names r.id.0 (v t)) class ∙ first in
      let ht = has_map v t k.transfers there in
      let any = has_any (moves_into r.id.0) (v t) (outline k).transfers ht moves in
      let most = g.orderly.holds.one r.id.0 any in
      let ne : v t ≢ v u = λ e. let classes : class_of t.sem ≡ class_of u.sem = ap (λ (w : flat.Transfer). w.class) e in let clash : true ≡ false = sym strong ∙ ap is_strong classes ∙ weak in cc in
      absurd (omega (arith, most, count_two (pending.names r.id.0) (outline k).transfers (v t) (v u) ht (has_map v u k.transfers hu) ne first second))

  module _ (i f : ℕ) (at : entry_frame m r.object.0 i ≡ Some f) (held : is_held (counts_at m.frames f) ≡ true) where
    page : (p : ℕ) × (owner_at m.frames f ≡ Page p)
    page = let x = page_in m r.object.0 i f at in (x.number.0, g.sound.placed.in_frame x.number.0 (record { 0 = f }) x.is_place)

    -- an entry whose page is in the frame is that one
    one_object : (q : Region) (j : ℕ) → Has q rs → entry_frame m q.object.0 j ≡ Some f → q.id.0 ≡ r.id.0
    one_object q j hq e =
        let x = page_in m r.object.0 i f at in
        let y = page_in m q.object.0 j f e in
        let own = g.sound.placed.in_frame x.number.0 (record { 0 = f }) x.is_place in
        let two : Page x.number.0 ≡ Page y.number.0 = sym own ∙ g.sound.placed.in_frame y.number.0 (record { 0 = f }) y.is_place in
        let number : x.number.0 ≡ y.number.0 = cc in
        let same : x.number ≡ y.number = λ z. record { 0 = number z } in
        let once = named_once m.pages.pages m.objects r.object.0 i q.object.0 j x.number g.sound.shared (g.sound.held.alone f x.number.0 own held) x.is_page (y.is_page ∙ ap Some (sym same)) in
        ap (λ (z : Region). z.id.0) (same_object k q r g hq has (sym once.0))

    not_pooled : 0 < sum_by (pool_on f) k.pools → ⊥
    not_pooled l =
        let p = pool_some f k.pools l in
        let pool = g.owners.pool_frames f p.0 p.1 in
        let clash : Page page.0 ≡ Pool p.0 = sym page.1 ∙ pool in cc

    -- no weak transfer holds it
    not_weak : (u : Transfer) → Has u k.transfers → is_strong_call u ≡ false → (j : ℕ) → j < length (frames_of u.loans) → get_or (frames_of u.loans) j 0 ≡ f → ⊥
    not_weak u hu weak j l is =
        let holds : HoldsPages k.config.page m rs g.held.page_in g.held.frame_of u = all_has (HoldsPages k.config.page m rs g.held.page_in g.held.frame_of) (weak_transfers k.transfers) g.held.each u (weak_has u k.transfers weak hu) in
        let in_it = subst (λ z. IsInFrame m (region_named rs (region_number u)) (page_of_loan k.config.page u j).index z) is (holds.held j l) in
        by (region_named rs (region_number u)) refl in_it
      where
        by : (o : Option Region) → region_named rs (region_number u) ≡ o → IsInFrame m o (page_of_loan k.config.page u j).index f → ⊥
        by None e h = let clash : Page page.0 ≡ Nobody = sym page.1 ∙ h in cc
        by (Some q) e h =
            let number = named_by rs (region_number u) q e in
            let hq = region_has rs (region_number u) q e in
            named_alone u hu weak (number ∙ ap Some (one_object q (page_of_loan k.config.page u j).index hq h))
          where
            region_has : (rs : List Region) (o : Option ℕ) (q : Region) → region_named rs o ≡ Some q → Has q rs
            region_has rs None q e = absurd (cc)
            region_has rs (Some j) q e = (find_has (has_id j) rs q e).0

    out_strong : (u : Transfer) (l : Loans) → l ≡ u.loans → Has u k.transfers → is_strong_call u ≡ true → LendsOut k.config.page u l → 0 < times (frames_of l) f → ⊥
    out_strong u Nothing same hu s h l = h
    out_strong u (Inward p) same hu s h l = h
    out_strong u (Outward p) same hu s h l =
        let all : All (λ (x : OutLoan). x.strong ≡ true) p.loans.items = λ a d w. h.0 a d w ∙ s in
        let on : loans_on kind.Strong f u ≡ times (output_frames p.loans.items) f = ap (λ z. loan_times (loans_of z) kind.Strong f) (sym same) ∙ all_strong f p.loans.items all in
        let least = at_least (loans_on kind.Strong f) k.transfers u hu in
        let counted = ap (λ (c : Counts). c.strong) (g.counted f) in
        let unlent = g.sound.held.unlent f (ap is_system page.1) held in
        absurd (omega (arith, l, on, least, counted, unlent))

    in_strong : (u : Transfer) (early : Bool) (l : Loans) → LendsStrongly k.config.page m.frames.owners early u l → 0 < times (frames_of l) f → ⊥
    in_strong u false l h some = let none = ap (λ z. times (frames_of z) f) h in absurd (omega (arith, none, some))
    in_strong u true l h some =
        let x = times_some (frames_of l) f some in
        let owner : owner_at m.frames f ≡ System (number_of u) = subst (λ z. owner_at m.frames z ≡ System (number_of u)) x.2 (h.1.own x.0 0 x.1) in
        let clash : Page page.0 ≡ System (number_of u) = sym page.1 ∙ owner in cc

    by_direction : (u : Transfer) (d : Direction) → Has u k.transfers → is_strong_call u ≡ true → Lends k.config.page m.frames.owners (is_early_device (entry k.devices u.dev)) u d → 0 < times (frames_of u.loans) f → ⊥
    by_direction u direction.Outward hu s h l = out_strong u u.loans refl hu s h l
    by_direction u direction.Inward hu s h l = in_strong u (is_early_device (entry k.devices u.dev)) u.loans (subst (LendsInput k.config.page m.frames.owners (is_early_device (entry k.devices u.dev)) u) s h) l

    not_lent : (u : Transfer) → Has u k.transfers → 0 < times (frames_of u.loans) f → ⊥
    not_lent u hu l = ⊎_elim
        (λ (s : is_strong_call u ≡ true). by_direction u u.dir hu s (lends_at k u g hu) l)
        (λ (w : is_strong_call u ≡ false). let x = times_some (frames_of u.loans) f l in not_weak u hu w x.0 x.1 x.2)
        (cases_Bool (is_strong_call u))

    nobody_holds : ⊥
    nobody_holds =
        let some = held_parts (lent_of k.transfers k.pools f) (subst (λ (c : Counts). is_held c ≡ true) (g.counted f) held) in
        ⊎_elim
        (λ (weak : 0 < sum_by (loans_on kind.Weak f) k.transfers). let u = sum_some (loans_on kind.Weak f) k.transfers weak in not_lent u.0 u.1 (omega (arith, u.2, loans_few kind.Weak f u.0.loans)))
        (λ (rest : 0 < sum_by (loans_on kind.Input f) k.transfers + sum_by (pool_on f) k.pools). ⊎_elim
        (λ (input : 0 < sum_by (loans_on kind.Input f) k.transfers). let u = sum_some (loans_on kind.Input f) k.transfers input in not_lent u.0 u.1 (omega (arith, u.2, loans_few kind.Input f u.0.loans)))
        (λ (pooled : 0 < sum_by (pool_on f) k.pools). not_pooled pooled)
        (either (sum_by (loans_on kind.Input f) k.transfers) (sum_by (pool_on f) k.pools) rest))
        (either (sum_by (loans_on kind.Weak f) k.transfers) (sum_by (loans_on kind.Input f) k.transfers + sum_by (pool_on f) k.pools) some)
      where
        either : (a b : ℕ) → 0 < a + b → (0 < a) ⊎ (0 < b)
        either zero b l = inr (omega (arith, l))
        either (suc a) b l = inl (omega arith)

  -- no device holds a page of it
  pub region_unheld : (i : ℕ) → IsUnheld m r.object.0 i
  region_unheld i f at = ⊎_elim (λ (yes : is_held (counts_at m.frames f) ≡ true). absurd (nobody_holds i f at yes)) (λ no. no) (cases_Bool (is_held (counts_at m.frames f)))
