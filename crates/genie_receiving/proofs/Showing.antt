-- What lands in the frames of an input shows in the state as the flat machine says.
use Rattle.std.proofs.Common.{◌≡◌, ℕ, ◌+◌, ◌-◌, ◌≤◌, true, false, List, refl, sym, ap, subst, arith, ◌∙◌, ⊎_elim, take}
use Rattle.std.specs.Prelude.{Option, Some, None, IsTrue, find, is_some, if◌then◌else◌}
use Rattle.std.proofs.lemmas.Bool.{cases_Bool}
use Rattle.genie_base.specs.Transfers.{class_of, is_strong}
use Rattle.genie_base.specs.declared.semantics.Class.{Class}
use Rattle.genie_base.specs.declared.semantics.Class.TheVariants.{Copy, Share, Move, WeakMove}
use Rattle.genie_base.specs.declared.semantics.Direction.{Direction}
use Rattle.genie_object.specs.declared.memory.Memory.{Memory}
use Rattle.genie_orderly.specs.Orderly.{MayName}
use Rattle.genie_plan.specs.Landings.{Lands}
use Rattle.genie_region.specs.declared.region.Region.{Region}
use Rattle.genie_model.specs.Receiving.{landed}
use Rattle.genie_model.specs.Regions.{put}
use Rattle.genie_model.specs.State as flat
use Rattle.genie_model.specs.Lemmas.Lists.{Has, all_has, find_has, has_map}
use Rattle.genie_kernel.specs.Calls.{first_waiting, region_number}
use Rattle.genie_kernel.specs.Counted.{AreCounted}
use Rattle.genie_kernel.specs.Orphans.{orphans_view}
use Rattle.genie_kernel.specs.Planned.{ArePlanned}
use Rattle.genie_kernel.specs.Regions.{has_id, owned_regions}
use Rattle.genie_kernel.specs.Steps.{bytes_over}
use Rattle.genie_kernel.specs.Transfers.{transfer_view}
use Rattle.genie_kernel.specs.View.{Bytes, no_bytes, outline, state_of}
use Rattle.genie_receiving.specs.Receiving.{ArePages}
use Rattle.genie_receiving.proofs.Drifting.{orphan_put}
use Rattle.genie_receiving.specs.Lemmas.Put.{put_nothing}
use Rattle.genie_receiving.proofs.Weak.{IsWeakInto, region_put}
use Rattle.genie_plan.specs.declared.plan.InPlan.{InPlan}
use Rattle.genie_plan.specs.Plans.{input_frames}
use Rattle.genie_device.specs.Device.{DeviceView}
use Rattle.genie_kernel.specs.declared.kernel.Kernel.{Kernel}
use Rattle.genie_kernel.specs.declared.transfer.Loans.{Loans}
use Rattle.genie_kernel.specs.declared.transfer.Loans.TheVariants as loans
use Rattle.genie_kernel.specs.declared.transfer.Transfer.{Transfer}
use Rattle.genie_kernel.specs.Calls.{begins_at, has_number, is_strong_call, number_of}
use Rattle.genie_kernel.specs.Good.{IsGood}
use Rattle.genie_kernel.specs.Loans.{frames_of}
use Rattle.genie_kernel.specs.Planned.{AreItsOwn, LendsRange}
use Rattle.genie_changes.specs.Working.{at_work, worked}
use Rattle.genie_receiving.specs.Laws.{ReceiveLaws}
use Rattle.genie_receiving.proofs.Begun.{begun_kernel, work_begun}
use Rattle.genie_receiving.specs.Lemmas.Landed.{LandingsShow}
use Rattle.genie_receiving.specs.Lemmas.Payloads.{IsInputOf, ShowsLanded, seen_transfer, take_none}
use Rattle.genie_receiving.specs.Lemmas.Ready.{HasRange, IsEarlyInput, can_land, plan_of, own_frames}
use Rattle.genie_receiving.proofs.Strong.{shows_strong}
use Rattle.genie_receiving.specs.Lemmas.Views.{found_still}

same_plan : (page : ℕ) (t : Transfer) (l : Loans) (p : InPlan) → (h : HasRange page t l) → l ≡ loans.Inward p → LendsRange page (begins_at t) t.len (input_frames p.loans.items) p.first p.len
same_plan page t l p h is =
    let e : loans.Inward h.plan ≡ loans.Inward p = sym h.is ∙ is in
    let same : h.plan ≡ p = cc in
    subst (λ (q : InPlan). LendsRange page (begins_at t) t.len (input_frames q.loans.items) q.first q.len) same h.range

-- the range of an input, over the plan that it has
pub range_of : (k : Kernel) (d : ℕ) (v : DeviceView) (t : Transfer) (p : InPlan) → IsGood k → IsEarlyInput k d v t → t.loans ≡ loans.Inward p → LendsRange k.config.page (begins_at t) t.len (input_frames p.loans.items) p.first p.len
range_of k d v t p g h is = same_plan k.config.page t t.loans p (plan_of k d v t g h) is

own_of : (k : Kernel) (d : ℕ) (v : DeviceView) (t : Transfer) (p : InPlan) → IsGood k → IsEarlyInput k d v t → is_strong_call t ≡ true → t.loans ≡ loans.Inward p → AreItsOwn k.memory.frames.owners (number_of t) (input_frames p.loans.items)
own_of k d v t p g h strong is = subst (λ (l : Loans). AreItsOwn k.memory.frames.owners (number_of t) (frames_of l)) is (own_frames k d v t g h strong)

strong_shows : (k : Kernel) (d : ℕ) (v : DeviceView) (t : Transfer) (x : ℕ) → IsGood k → IsEarlyInput k d v t → IsInputOf k d (number_of t) t → is_strong_call t ≡ true → t.stored ≤ x → LandingsShow k t x
strong_shows k d v t x g h input strong stored p m bytes is lands slots rests sents paged =
    shows_strong k t p m x bytes (record { sound = g.sound; page = g.sized.page; owned = g.owners; pends = h.pends; strong = strong; inward = h.inward; unbuffered = input.unbuffered; is = is; range = range_of k d v t p g h is; own = own_of k d v t p g h strong is }) stored lands slots rests sents

-- the same of one that begins to receive
strong_begun_shows : ReceiveLaws → (k : Kernel) (d n : ℕ) (v : DeviceView) (t : Transfer) → IsGood k → IsEarlyInput k d v t → IsInputOf k d n t → is_strong_call t ≡ true → t.stored ≡ 0 → LandingsShow (begun_kernel k n t) (at_work (work_begun t) t) 0
strong_begun_shows laws k d n v t g h input strong unstored p m bytes is lands slots rests sents paged =
    let found = found_still (has_number n) (work_begun t) t (has_number n) k.transfers input.found input.found (find_has (has_number n) k.transfers t input.found).1 in
    let pends = (find_has (has_number n) (worked (has_number n) (work_begun t) k.transfers) (at_work (work_begun t) t) found).0 in
    let range = range_of k d v t p g h is in
    shows_strong (begun_kernel k n t) (at_work (work_begun t) t) p m 0 bytes (record { sound = g.sound; page = g.sized.page; owned = laws.owned (has_number n) (work_begun t) k.transfers k.memory.frames.owners k.pools g.owners; pends = pends; strong = strong; inward = h.inward; unbuffered = refl; is = is; range = range; own = own_of k d v t p g h strong is }) (omega (arith, unstored)) lands slots rests sents

-- a weak transfer names a region or an orphan
some_number : (o : Option ℕ) → IsTrue (is_some o) → (r : ℕ) × (o ≡ Some r)
some_number None h = absurd (cc)
some_number (Some r) h = (r, refl)

names_one : (s : flat.State) (c : Class) (d : Direction) (owner region : Option ℕ) → is_strong c ≡ false → MayName s c d owner region → (r : ℕ) × (region ≡ Some r)
names_one s Copy d owner region e h = absurd (cc)
names_one s Share d owner region e h = some_number region h
names_one s Move d owner region e h = absurd (cc)
names_one s WeakMove d owner region e h = some_number region h

named_of : (k : Kernel) (t : Transfer) → IsGood k → Has t k.transfers → is_strong_call t ≡ false → (r : ℕ) × (region_number t ≡ Some r)
named_of k t g i weak =
    let tv : Transfer → flat.Transfer = transfer_view (no_bytes k.config.page).seen.kept_bytes k.devices k.pools (first_waiting k.transfers) in
    let h : MayName (outline k) (class_of t.sem) t.dir t.owner (region_number t) = all_has (λ (u : flat.Transfer). MayName (outline k) u.class u.direction u.owner u.region) (outline k).transfers g.orderly.holds.held (tv t) (has_map tv t k.transfers i) in
    names_one (outline k) (class_of t.sem) t.dir t.owner (region_number t) weak h

-- the bytes of a weak one show where they are put
weak_landed : (k : Kernel) (t : Transfer) (x r : ℕ) (bytes : List ℕ) (b c : Bytes) → is_strong_call t ≡ false → region_number t ≡ Some r → c.rests ≡ b.rests → c.sents ≡ b.sents → state_of k c ≡ put (state_of k b) r (t.offset + x) (take (t.len - x) bytes) → ShowsLanded k t x bytes b c
weak_landed k t x r bytes b c weak named rests sents is = record {
  rests = rests;
  sents = sents;
  state = is ∙ sym (ap (landed (state_of k b) (seen_transfer k b t) x bytes) (ap (λ z. if z then None else region_number t) weak ∙ named));
  none = λ e. is ∙ ap (λ l. put (state_of k b) r (t.offset + x) (take (t.len - x) l)) e ∙ ap (put (state_of k b) r (t.offset + x)) (take_none (t.len - x)) ∙ put_nothing (state_of k b) r (t.offset + x);
  size = λ strong. let clash : true ≡ false = sym strong ∙ weak in absurd (cc);
  payload = λ strong. let clash : true ≡ false = sym strong ∙ weak in absurd (cc);
}

-- they are put into a region or an orphan
put_in : ReceiveLaws → (k : Kernel) (d x r : ℕ) (v : DeviceView) (t : Transfer) (p : InPlan) (m : Memory) (bytes : List ℕ) → IsGood k → IsEarlyInput k d v t → is_strong_call t ≡ false → region_number t ≡ Some r → t.loans ≡ loans.Inward p → Lands (input_frames p.loans.items) p.first p.len x bytes k.memory m
    → (slots rests sents : ℕ → List ℕ) → ArePages k.memory.frames.page slots → (ts : List Transfer) → AreCounted k.memory.frames.counts ts k.pools → ArePlanned k.config.page k.memory.frames.owners k.devices ts
    → ((s : ℕ → List ℕ) → orphans_view k.config.page s (owned_regions k.spaces.processes) ts ≡ orphans_view k.config.page s (owned_regions k.spaces.processes) k.transfers)
    → state_of (record k { transfers = ts }) (bytes_over m slots rests sents) ≡ put (state_of (record k { transfers = ts }) (bytes_over k.memory slots rests sents)) r (t.offset + x) (take (t.len - x) bytes)
put_in laws k d x r v t p m bytes g h weak named is lands slots rests sents paged ts counted planned same = by (find (has_id r) (owned_regions k.spaces.processes)) refl
  where
    into : IsWeakInto k t p r
    into =
        let range = range_of k d v t p g h is in
        record { pends = h.pends; weak = weak; named = named; is = is; range = range; ready = can_land k d v t p g h is range }

    by : (o : Option Region) → find (has_id r) (owned_regions k.spaces.processes) ≡ o → state_of (record k { transfers = ts }) (bytes_over m slots rests sents) ≡ put (state_of (record k { transfers = ts }) (bytes_over k.memory slots rests sents)) r (t.offset + x) (take (t.len - x) bytes)
    by None e = orphan_put laws k g t p m x r bytes into e lands slots ts rests sents counted planned same
    by (Some q) e = region_put laws k g t p m x r bytes into q e lands slots paged ts rests sents

weak_shows : ReceiveLaws → (k : Kernel) (d : ℕ) (v : DeviceView) (t : Transfer) (x : ℕ) → IsGood k → IsEarlyInput k d v t → is_strong_call t ≡ false → LandingsShow k t x
weak_shows laws k d v t x g h weak p m bytes is lands slots rests sents paged =
    let named = named_of k t g h.pends weak in
    weak_landed k t x named.0 bytes (bytes_over k.memory slots rests sents) (bytes_over m slots rests sents) weak named.1 refl refl
    (put_in laws k d x named.0 v t p m bytes g h weak named.1 is lands slots rests sents paged k.transfers g.counted g.planned (λ s. refl))

weak_begun_shows : ReceiveLaws → (k : Kernel) (d n : ℕ) (v : DeviceView) (t : Transfer) → IsGood k → IsEarlyInput k d v t → is_strong_call t ≡ false → LandingsShow (begun_kernel k n t) (at_work (work_begun t) t) 0
weak_begun_shows laws k d n v t g h weak p m bytes is lands slots rests sents paged =
    let named = named_of k t g h.pends weak in
    weak_landed (begun_kernel k n t) (at_work (work_begun t) t) 0 named.0 bytes (bytes_over k.memory slots rests sents) (bytes_over m slots rests sents) weak named.1 refl refl
    (put_in laws k d 0 named.0 v t p m bytes g h weak named.1 is lands slots rests sents paged (worked (has_number n) (work_begun t) k.transfers)
    (laws.counted (has_number n) (work_begun t) k.transfers k.memory.frames.counts k.pools g.counted)
    (laws.planned (has_number n) (work_begun t) k.transfers k.config.page k.memory.frames.owners k.devices g.planned)
    (λ s. laws.orphans k.config.page s (owned_regions k.spaces.processes) (has_number n) (work_begun t) k.transfers))

pub input_shows : ReceiveLaws → (k : Kernel) (d : ℕ) (v : DeviceView) (t : Transfer) (x : ℕ) → IsGood k → IsEarlyInput k d v t → IsInputOf k d (number_of t) t → t.stored ≤ x → LandingsShow k t x
input_shows laws k d v t x g h input stored = ⊎_elim
    (λ (strong : is_strong_call t ≡ true). strong_shows k d v t x g h input strong stored)
    (λ (weak : is_strong_call t ≡ false). weak_shows laws k d v t x g h weak)
    (cases_Bool (is_strong_call t))

pub begun_shows : ReceiveLaws → (k : Kernel) (d n : ℕ) (v : DeviceView) (t : Transfer) → IsGood k → IsEarlyInput k d v t → IsInputOf k d n t → t.stored ≡ 0 → LandingsShow (begun_kernel k n t) (at_work (work_begun t) t) 0
begun_shows laws k d n v t g h input unstored = ⊎_elim
    (λ (strong : is_strong_call t ≡ true). strong_begun_shows laws k d n v t g h input strong unstored)
    (λ (weak : is_strong_call t ≡ false). weak_begun_shows laws k d n v t g h weak)
    (cases_Bool (is_strong_call t))
