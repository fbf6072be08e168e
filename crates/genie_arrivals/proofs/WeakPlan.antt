-- Bytes may land in the frames that are lent for a weak input of an outboard device.
use Rattle.std.proofs.Common.{◌≡◌, ℕ, ◌+◌, ◌-◌, ◌*◌, ◌/◌, ◌%◌, ◌<◌, ◌≤◌, zero, suc, true, false, not, cond, List, [], ◌∷◌, refl, sym, ap, subst, arith, rules, ◌∙◌, ⊎_elim, length, map, get_or, inl, inr, ◌⊎◌}
use Rattle.std.specs.Prelude.{Option, Some, None, find, IfSome, ◌==◌, ◌&&◌, is_some}
use Rattle.std.proofs.lemmas.List.Sums.{sum_by-cons}
use Rattle.std.proofs.lemmas.Nat.{mod_below}
use Rattle.genie_base.specs.Configs.{most}
use Rattle.genie_base.specs.Counts.{span}
use Rattle.genie_base.specs.Lemmas.Places.{num, same_or}
use Rattle.genie_base.specs.declared.config.DeviceConfig.{DeviceConfig}
use Rattle.genie_base.specs.declared.config.Kind.{Kind}
use Rattle.genie_base.specs.declared.config.Kind.TheVariants.{Early, Pooled, Outboard}
use Rattle.genie_base.specs.declared.semantics.Direction.TheVariants.{Inward}
use Rattle.genie_device.specs.Device.{DeviceView, is_outboard}
use Rattle.genie_frame.specs.declared.frame.Counts.{Counts}
use Rattle.genie_frame.specs.declared.frame.InLoan.{InLoan}
use Rattle.genie_frame.specs.FrameTable.{counts_at}
use Rattle.genie_input.specs.Pools.{PoolState}
use Rattle.genie_object.specs.Lemmas.Works.{page_most}
use Rattle.genie_orderly.specs.Lemmas.AcceptedEvents.{page_some}
use Rattle.genie_plan.specs.declared.plan.InPlan.{InPlan}
use Rattle.genie_plan.specs.Loans as kind
use Rattle.genie_plan.specs.Loans.{Loan, input_loan, loan_times, is_kind}
use Rattle.genie_plan.specs.Plans.{CanLand, AreApart, input_frames, times}
use Rattle.genie_plan.specs.Lemmas.Ranges.{times-cons, other_num, same_num}
use Rattle.genie_plan.specs.Lemmas.Landings.{times_some}
use Rattle.genie_model.specs.Pending.{is_ready}
use Rattle.genie_model.specs.Tables.{entry}
use Rattle.genie_model.specs.Lemmas.Lists.{Has, all_has, find_has}
use Rattle.genie_kernel.specs.declared.kernel.Kernel.{Kernel}
use Rattle.genie_kernel.specs.declared.transfer.Loans.{Loans}
use Rattle.genie_kernel.specs.declared.transfer.Loans.TheVariants.{Nothing, Outward}
use Rattle.genie_kernel.specs.declared.transfer.Loans.TheVariants as loans
use Rattle.genie_kernel.specs.declared.transfer.Transfer.{Transfer}
use Rattle.genie_kernel.specs.Calls.{begins_at, has_number, is_strong_call}
use Rattle.genie_kernel.specs.Counted.{loans_on}
use Rattle.genie_kernel.specs.Good.{IsGood}
use Rattle.genie_kernel.specs.Held.{HoldsPages, PageOf, page_of_loan, weak_transfers}
use Rattle.genie_kernel.specs.Loans.{frames_of, loans_of}
use Rattle.genie_kernel.specs.Matching.{has_waiting, room_in}
use Rattle.genie_kernel.specs.Planned.{Lends, LendsInput, LendsIn, LendsRange, FitsDevice, is_early_device}
use Rattle.genie_kernel.specs.Regions.{owned_regions}
use Rattle.genie_kernel.specs.Sizes.{IsEquipped, is_pooled}
use Rattle.genie_kernel.specs.Transfers.{is_outboard_device}
use Rattle.genie_kernel.specs.Lemmas.Staying.{at_least}
use Rattle.genie_arrivals.specs.Outboard.{CanFetch, MayLandIn}
use Rattle.genie_arrivals.specs.Waiting.{IsWaiting}
use Rattle.genie_arrivals.proofs.Buffered.{has_some, waits_in}
use Rattle.genie_arrivals.proofs.Lent.{lends_at}

-- the plan of an input that bytes land in
pub record HasRange (page : ℕ) (t : Transfer) (l : Loans) : Type 0 where
  pub plan : InPlan
  pub is : l ≡ loans.Inward plan
  pub range : LendsRange page (begins_at t) t.len (input_frames plan.loans.items) plan.first plan.len

has_range : (page : ℕ) (t : Transfer) (l : Loans) → LendsIn page t l → HasRange page t l
has_range page t Nothing h = absurd h
has_range page t (Outward p) h = absurd h
has_range page t (loans.Inward p) h = record { plan = p; is = refl; range = h }

-- a loan counts on its frame
counted_loan : (xs : List InLoan) (j : ℕ) → j < length (input_frames xs) → 0 < loan_times (map input_loan xs) kind.Input (get_or (input_frames xs) j 0)
counted_loan [] j l = absurd (omega (arith, l))
counted_loan (x ∷ xs) zero l =
    let one : num (x.frame.0 == x.frame.0) ≡ 1 = same_num x.frame.0 x.frame.0 refl in
    omega (arith, sum_by-cons (λ (y : Loan). cond (is_kind kind.Input y.kind && (y.frame == x.frame.0)) 1 0) (input_loan x) (map input_loan xs), one)
counted_loan (x ∷ xs) (suc j) l =
    let f : ℕ = get_or (input_frames xs) j 0 in
    let later = counted_loan xs j (omega (arith, l)) in
    omega (arith, sum_by-cons (λ (y : Loan). cond (is_kind kind.Input y.kind && (y.frame == f)) 1 0) (input_loan x) (map input_loan xs), later)

lent_input : (t : Transfer) (p : InPlan) → t.loans ≡ loans.Inward p → (j : ℕ) → j < length (input_frames p.loans.items) → 0 < loans_on kind.Input (get_or (input_frames p.loans.items) j 0) t
lent_input t p is j l = subst (λ (x : Loans). 0 < loan_times (loans_of x) kind.Input (get_or (input_frames p.loans.items) j 0)) (sym is) (counted_loan p.loans.items j l)

-- each of its frames is lent for input
pub input_out : (k : Kernel) (t : Transfer) (p : InPlan) → IsGood k → Has t k.transfers → t.loans ≡ loans.Inward p → (j : ℕ) → j < length (input_frames p.loans.items) → 0 < (counts_at k.memory.frames (get_or (input_frames p.loans.items) j 0)).input
input_out k t p g pends is j l =
    let f : ℕ = get_or (input_frames p.loans.items) j 0 in
    subst (λ (c : Counts). 0 < c.input) (sym (g.counted f)) (omega (arith, lent_input t p is j l, at_least (loans_on kind.Input f) k.transfers t pends))

-- where loans on the same frame are one, no frame is there twice
apart_from : (frames : List ℕ) → ((i j : ℕ) → i < length frames → j < length frames → get_or frames i 0 ≡ get_or frames j 0 → i ≡ j) → AreApart frames
apart_from [] h f = omega arith
apart_from (g ∷ frames) h f = elim (same_or g f) [
  | inl e ↦
      let none : times frames f ≡ 0 = ⊎_elim (λ z. z) (λ (some : 0 < times frames f). let at = times_some frames f some in let clash = h 0 (suc at.0) (omega arith) (omega (arith, at.1)) (e ∙ sym at.2) in absurd (omega (arith, clash))) (none_or (times frames f)) in
      omega (arith, times-cons g f frames, same_num g f e, none)
  | inr n ↦
      let rest = apart_from frames (λ i j a b e. let z = h (suc i) (suc j) (omega (arith, a)) (omega (arith, b)) e in omega (arith, z)) f in
      omega (arith, times-cons g f frames, other_num g f n, rest)
]
  where
    none_or : (n : ℕ) → (n ≡ 0) ⊎ (0 < n)
    none_or zero = inl refl
    none_or (suc n) = inr (omega arith)

-- each loan of a weak transfer is on another frame
weak_apart : (page : ℕ) (frames : List ℕ) (page_in : ℕ → PageOf) (t : Transfer) → ((j : ℕ) → j < length frames → page_in (get_or frames j 0) ≡ page_of_loan page t j) → AreApart frames
weak_apart page frames page_in t pages = apart_from frames (λ i j a b e.
    let same : page_of_loan page t i ≡ page_of_loan page t j = sym (pages i a) ∙ ap page_in e ∙ pages j b in
    let index : t.offset / page + i ≡ t.offset / page + j = ap (λ (p : PageOf). p.index) same in
    omega (arith, index))

-- a weak transfer among all
pub weak_among : (ts : List Transfer) (t : Transfer) → Has t ts → is_strong_call t ≡ false → Has t (weak_transfers ts)
weak_among [] t h weak = absurd h
weak_among (x ∷ ts) t (inl e) weak = subst (λ b. Has t (cond b (x ∷ weak_transfers ts) (weak_transfers ts))) (sym (ap (λ (y : Transfer). not (is_strong_call y)) e ∙ ap not weak)) (inl e)
weak_among (x ∷ ts) t (inr h) weak = elim (not (is_strong_call x)) as (λ b. Has t (cond b (x ∷ weak_transfers ts) (weak_transfers ts))) [ true ↦ inr (weak_among ts t h weak) | false ↦ weak_among ts t h weak ]

-- the pages that it holds
pub weak_holds : (k : Kernel) (t : Transfer) → (g : IsGood k) → Has t k.transfers → is_strong_call t ≡ false → HoldsPages k.config.page k.memory (owned_regions k.spaces.processes) g.held.page_in g.held.frame_of t
weak_holds k t g pends weak = all_has (HoldsPages k.config.page k.memory (owned_regions k.spaces.processes) g.held.page_in g.held.frame_of) (weak_transfers k.transfers) g.held.each t (weak_among k.transfers t pends weak)

-- the range is covered by the pages that it touches
covers : (page at len y q r d : ℕ) → 0 < page → 0 < len → y ≡ at + len - 1 → at ≡ page * q + at % page → y ≡ page * (q + d) + r → r < page → at % page + len ≤ page * (d + 1)
covers page at len y q r d p l is a b h =
    let e : page * (q + d) ≡ page * q + page * d = grind arith in
    let f : page * (d + 1) ≡ page * d + page = grind arith in
    omega arith

pub below : (page a b : ℕ) → 0 < page → a ≤ b → a / page ≤ b / page
below page a b p h = grind arith

joined : (page y q : ℕ) → 0 < page → q ≤ y / page → y ≡ page * (q + (y / page - q)) + y % page
joined page y q p h = let e : q + (y / page - q) ≡ y / page = omega arith in rw e (omega arith)

pub some_span : (page at len : ℕ) → 0 < len → span page at len ≡ (at + len - 1) / page - at / page + 1
some_span page at len l = let none : (len == 0) ≡ false = grind (arith, rules, l) in rw none refl

span_covers : (page at len : ℕ) → 0 < page → 0 < len → at % page + len ≤ page * span page at len
span_covers page at len p l =
    let m : at / page ≤ (at + len - 1) / page = below page at (at + len - 1) p (omega (arith, l)) in
    subst (λ n. at % page + len ≤ page * n) (sym (some_span page at len l))
    (covers page at len (at + len - 1) (at / page) ((at + len - 1) % page) ((at + len - 1) / page - at / page) p l refl (omega arith) (joined page (at + len - 1) (at / page) p m) (omega (arith, mod_below (at + len - 1) page p)))

outboard_most : (kind : Kind) (page : ℕ) → is_outboard kind ≡ true → most kind page ≡ 64 * page
outboard_most Early page e = absurd (cc)
outboard_most Pooled page e = absurd (cc)
outboard_most Outboard page e = refl

not_pooled : (kind : Kind) → is_outboard kind ≡ true → is_pooled kind ≡ false
not_pooled Early e = absurd (cc)
not_pooled Pooled e = absurd (cc)
not_pooled Outboard e = refl

-- an outboard device, which has no pool
pub record IsOutboardAt (k : Kernel) (d : ℕ) : Type 0 where
  pub view : DeviceView
  pub there : entry k.devices d ≡ Some view
  pub limit : view.limit ≡ 64 * k.config.page
  pub unpooled : entry k.pools d ≡ None

outboard_with : (page : ℕ) (c : DeviceConfig) (v : DeviceView) (p : Option PoolState) → is_outboard v.config.kind ≡ true → IsEquipped page (Some c) (Some v) p → (v.limit ≡ 64 * page) × (p ≡ None)
outboard_with page c v None out h = (h.0.limit ∙ outboard_most c.kind page (sym (ap (λ (x : DeviceConfig). is_outboard x.kind) h.0.config) ∙ out), refl)
outboard_with page c v (Some p) out h =
    let no = not_pooled c.kind (sym (ap (λ (x : DeviceConfig). is_outboard x.kind) h.0.config) ∙ out) in
    let clash : false ≡ true = sym no ∙ h.1.pooled in
    absurd (cc)

outboard_in : (k : Kernel) (d : ℕ) (c : Option DeviceConfig) (v : Option DeviceView) → entry k.devices d ≡ v → is_outboard_device v ≡ true → IsEquipped k.config.page c v (entry k.pools d) → IsOutboardAt k d
outboard_in k d c None is out h = absurd (cc)
outboard_in k d None (Some v) is out h = absurd h
outboard_in k d (Some c) (Some v) is out h = let facts = outboard_with k.config.page c v (entry k.pools d) out h in record { view = v; there = is; limit = facts.0; unpooled = facts.1 }

pub outboard_at : (k : Kernel) (d : ℕ) → IsGood k → is_outboard_device (entry k.devices d) ≡ true → IsOutboardAt k d
outboard_at k d g out = outboard_in k d (entry k.config.devices d) (entry k.devices d) refl out (g.equipped.each d)

late_kind : (v : Option DeviceView) → is_outboard_device v ≡ true → is_early_device v ≡ false
late_kind None e = refl
late_kind (Some v) e = late v.config.kind e where
  late : (kind : Kind) → is_outboard kind ≡ true → is_early_device (Some (record v { config = record (v.config) { kind = kind } })) ≡ false
  late Early e = absurd (cc)
  late Pooled e = refl
  late Outboard e = refl

pub is_waiting : (k : Kernel) (t : Transfer) → t.dir ≡ Inward → is_outboard_device (entry k.devices t.dev) ≡ true → IsWaiting k.devices t
is_waiting k t inward out = record { inward = inward; late = late_kind (entry k.devices t.dev) out }

module _ (k : Kernel) (n : ℕ) (t : Transfer) (g : IsGood k) (found : find (has_number n) k.transfers ≡ Some t) (inward : t.dir ≡ Inward) (out : is_outboard_device (entry k.devices t.dev) ≡ true) (weak : is_strong_call t ≡ false) where
  pends : Has t k.transfers
  pends = (find_has (has_number n) k.transfers t found).0

  lends : LendsInput k.config.page k.memory.frames.owners (is_early_device (entry k.devices t.dev)) t false
  lends = subst (LendsInput k.config.page k.memory.frames.owners (is_early_device (entry k.devices t.dev)) t) weak (subst (Lends k.config.page k.memory.frames.owners (is_early_device (entry k.devices t.dev)) t) inward (lends_at k t g pends))

  pub weak_plan : HasRange k.config.page t t.loans
  weak_plan = has_range k.config.page t t.loans lends

  pub weak_can_land : CanLand k.memory.frames (input_frames weak_plan.plan.loans.items) weak_plan.plan.first weak_plan.plan.len
  weak_can_land =
      let p : InPlan = weak_plan.plan in
      let is = weak_plan.is in
      let range = weak_plan.range in
      let page : ℕ = k.config.page in
      let same : k.memory.frames.page ≡ page = g.sized.page in
      let some = page_some k.memory.frames.page g.sound.shaped.size in
      let high = page_most k.memory.frames.page g.sound.shaped.size in
      let begins = range.begins in
      let first : p.first < page = subst (λ x. x < page) (sym begins) (mod_below (begins_at t) page (omega (arith, some, same))) in
      let at = outboard_at k t.dev g out in
      let fits : FitsDevice t.len (entry k.devices t.dev) = all_has (λ (u : Transfer). FitsDevice u.len (entry k.devices u.dev)) k.transfers g.fitting t pends in
      let long : t.len ≤ at.view.limit = subst (FitsDevice t.len) at.there fits in
      let limit = at.limit in
      let length_is = range.length_kept in
      record {
        out = input_out k t p g pends is;
        apart = weak_apart page (input_frames p.loans.items) g.held.page_in t (subst (λ (l : Loans). (j : ℕ) → j < length (frames_of l) → g.held.page_in (get_or (frames_of l) j 0) ≡ page_of_loan page t j) is (weak_holds k t g pends weak).pages);
        within = λ l. subst (λ n. p.first + p.len ≤ n * length (input_frames p.loans.items)) (sym same) (subst (λ n. p.first + p.len ≤ page * n) (sym range.pages)
            (let covered = span_covers page (begins_at t) t.len (omega (arith, some, same)) (omega (arith, l, length_is)) in omega (arith, covered, begins, length_is)));
        fits = omega (arith, first, long, limit, length_is, high, same);
      }

  pub weak_may_land : MayLandIn k.memory.frames t.loans
  weak_may_land = subst (MayLandIn k.memory.frames) (sym weak_plan.is) weak_can_land

  can_fetch : (b : Option ℕ) → t.buffer ≡ b → is_some b ≡ true → CanFetch t.stored (entry k.devices t.dev) b
  can_fetch None is some = absurd (cc)
  can_fetch (Some b) is some =
      let at = outboard_at k t.dev g out in
      let waits = waits_in k n t g found b is in
      let stored : IfSome t.buffer (λ b. t.stored ≤ room_in (entry k.devices t.dev) (entry k.pools t.dev) b) = all_has (λ (u : Transfer). IfSome u.buffer (λ b. u.stored ≤ room_in (entry k.devices u.dev) (entry k.pools u.dev) b)) k.transfers g.arrived.stored t pends in
      let fits : t.stored ≤ room_in (entry k.devices t.dev) (entry k.pools t.dev) b = subst (λ o. IfSome o (λ b. t.stored ≤ room_in (entry k.devices t.dev) (entry k.pools t.dev) b)) is stored in
      subst (λ o. CanFetch t.stored o (Some b)) (sym at.there) (
        subst (λ o. has_waiting o None b ≡ true) at.there (subst (λ o. has_waiting (entry k.devices t.dev) o b ≡ true) at.unpooled waits),
        subst (λ o. t.stored ≤ room_in o None b) at.there (subst (λ o. t.stored ≤ room_in (entry k.devices t.dev) o b) at.unpooled fits),
      )

  pub weak_can_fetch : is_ready t.phase ≡ true → CanFetch t.stored (entry k.devices t.dev) t.buffer
  weak_can_fetch ready = can_fetch t.buffer refl (has_some k n t g found ready (is_waiting k t inward out))
