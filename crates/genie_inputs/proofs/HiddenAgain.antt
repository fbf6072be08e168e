-- A hidden region whose frames are used again: what is left of the kernel.
use Rattle.std.proofs.Common.{◌≡◌, ◌≢◌, ℕ, ◌+◌, ◌-◌, ◌*◌, ◌/◌, ◌%◌, ◌<◌, ◌≤◌, zero, suc, true, false, List, [], ◌∷◌, ◌++◌, refl, sym, ap, subst, arith, rules, ◌∙◌, inl, inr, map, length, get_or}
use Rattle.std.specs.Prelude.{Option, Some, None, ◌==◌, ◌&&◌, nat_le, count_by, position, remove, IsTrue, if◌then◌else◌}
use Rattle.std.proofs.lemmas.Bool.{and_parts, eqb-true, leb-true, ne_eqb}
use Rattle.std.proofs.lemmas.List.Quantifiers.{position-Some}
use Rattle.std.proofs.lemmas.List.Sums.{sum_by-remove}
use Rattle.std.proofs.lemmas.Nat.{div-mul-add, div_below, mod_below}
use Rattle.std.specs.Prelude.{Result, Ok, Err, IfOk, OnErr}
use Rattle.genie_base.specs.Causes.{HasCause}
use Rattle.genie_base.specs.Counts.{span}
use Rattle.genie_base.specs.Lemmas.Places.{num}
use Rattle.genie_base.specs.Transfers.{class_of, is_emulated, is_system}
use Rattle.genie_base.specs.declared.config.DeviceConfig.{DeviceConfig}
use Rattle.genie_base.specs.Events.{is_whole, has_one}
use Rattle.genie_base.specs.Regions.{place}
use Rattle.genie_base.specs.declared.reply.Reply.{Reply}
use Rattle.genie_base.specs.declared.reply.Reply.TheVariants as reply
use Rattle.genie_base.specs.declared.semantics.Class.{Class}
use Rattle.genie_base.specs.declared.semantics.Class.TheVariants.{Move, WeakMove}
use Rattle.genie_device.specs.Device.{DeviceView}
use Rattle.genie_frame.specs.FrameTable.{is_free}
use Rattle.genie_input.specs.Pools.{PoolState}
use Rattle.genie_hiding.specs.declared.hidden.Hidden.{Hidden}
use Rattle.genie_hiding.specs.Hidden.{no_hidden, is_of, is_same, is_among, objects_of, region_at, without, IsTakenBack}
use Rattle.genie_hiding.specs.Lemmas.Naming.{cached_kept}
use Rattle.genie_hiding.specs.Lemmas.Searching.{among_found}
use Rattle.genie_object.specs.declared.memory.Memory.{Memory}
use Rattle.genie_object.specs.Leaving.{is_object}
use Rattle.genie_object.specs.Objects.{object_at}
use Rattle.genie_object.specs.Sound.{FitsHidden, IsSized}
use Rattle.genie_object.specs.Lemmas.Touching.{keeps_all}
use Rattle.genie_region.specs.declared.region.Region.{Region}
use Rattle.genie_region.specs.Layouts.{extent}
use Rattle.genie_space.specs.Translations.{IsBacked}
use Rattle.genie_store.specs.StoreView.{StoreView}
use Rattle.genie_model.specs.Lemmas.Lists.{Has, all_has, has_right}
use Rattle.genie_model.specs.Pending.{is_early}
use Rattle.genie_model.specs.Refusing.{refuse}
use Rattle.genie_model.specs.Tables.{entry}
use Rattle.genie_kernel.specs.declared.kernel.Kernel.{Kernel}
use Rattle.genie_kernel.specs.declared.transfer.Loans.{Loans}
use Rattle.genie_kernel.specs.declared.transfer.Transfer.{Transfer}
use Rattle.genie_kernel.specs.Backed.{all_regions, hidden_region}
use Rattle.genie_kernel.specs.Good.{IsGood}
use Rattle.genie_kernel.specs.Planned.{is_early_device}
use Rattle.genie_kernel.specs.Regions.{owned_regions, regions_of}
use Rattle.genie_kernel.specs.Sizes.{IsEquipped}
use Rattle.genie_kernel.specs.View.{outline}
use Rattle.genie_changes.specs.Making.{IsMoved, MemoryIsMoved}
use Rattle.genie_spaces.specs.Clearing.{Adds, Clears, HasRoom, HiddenRegionGoes}
use Rattle.genie_inputs.specs.declared.call.Call.{Call}
use Rattle.genie_inputs.specs.declared.place.Placement.{Placement}
use Rattle.genie_inputs.specs.Buffers.{LendsBuffer, LendsStrong, is_early_place}
use Rattle.genie_inputs.specs.Calls.{input_event}
use Rattle.genie_inputs.specs.Claiming.{LendsObject}
use Rattle.genie_inputs.specs.HiddenReuse.{HoldsBuffer, LendsFramesOf, ReusesFrames, ReusesHidden, TakesHidden, may_reuse, oldest_hidden}
use Rattle.genie_inputs.specs.Placing.{IsPlace}
use Rattle.genie_inputs.specs.Posting.{with_input}
use Rattle.genie_inputs.proofs.Accepted.{page_some}
use Rattle.genie_inputs.proofs.Holding.{made_by_move}
use Rattle.genie_inputs.proofs.Placing.{may_place}

-- what is found is at some place
pub record FoundAt (place : Option ℕ) (kept : List Hidden) (r : Region) : Type 0 where
  pub index : ℕ
  pub is : place ≡ Some index
  pub region : (get_or kept index no_hidden).region ≡ r

pub found_at : (place : Option ℕ) (kept : List Hidden) (r : Region) → Some r ≡ region_at place kept → FoundAt place kept r
found_at None kept r e = absurd (cc)
found_at (Some k) kept r e = record { index = k; is = refl; region = cc }

pub found_nowhere : (place : Option ℕ) (kept : List Hidden) → None ≡ region_at place kept → place ≡ None
found_nowhere None kept e = refl
found_nowhere (Some k) kept e = absurd (cc)

-- an early device of the configuration is one of the kernel's
early_same : (page : ℕ) (c : Option DeviceConfig) (v : Option DeviceView) (pool : Option PoolState) → IsEquipped page c v pool → is_early_place c ≡ true → true ≡ is_early_device v
early_same page None v pool h e = absurd (cc)
early_same page (Some c) None pool h e = absurd h
early_same page (Some c) (Some v) pool h e = sym e ∙ ap (λ (d : DeviceConfig). is_early d.kind) (sym h.0.config)

-- how many pages the bytes of a call need
no_bytes_none : (page : ℕ) → 0 < page → (0 + page - 1) / page < 1
no_bytes_none page p = div_below (0 + page - 1) page 1 p (omega (arith, p))

some_bytes : (page len : ℕ) → 0 < page → 1 ≤ (len + page - 1) / page → 0 < len
some_bytes page zero p some = let none = no_bytes_none page p in absurd (omega (arith, none, some))
some_bytes page (suc n) p some = omega arith

page_more : (n page : ℕ) → 0 < page → (n + page) / page ≡ n / page + 1
page_more n page p =
    let low = mod_below n page p in
    let parts : n + page ≡ (n / page + 1) * page + n % page = grind arith in
    ap (λ z. z / page) parts ∙ div-mul-add (n / page + 1) page (n % page) low

pub span_pages : (page len : ℕ) → 0 < page → 1 ≤ (len + page - 1) / page → span page 0 len ≡ (len + page - 1) / page
span_pages page len p some =
    let bytes = some_bytes page len p some in
    let one : (len == 0) ≡ false = grind (arith, rules, bytes) in
    let nought : 0 / page ≡ 0 = grind arith in
    let last : 0 + len - 1 ≡ len - 1 = omega arith in
    let whole : len + page - 1 ≡ (len - 1) + page = omega (arith, bytes) in
    ap (λ b. if b then 0 else (0 + len - 1) / page - 0 / page + 1) one
    ∙ ap (λ z. z / page - 0 / page + 1) last
    ∙ ap (λ z. (len - 1) / page - z + 1) nought
    ∙ all_of ((len - 1) / page)
    ∙ sym (page_more (len - 1) page p)
    ∙ ap (λ z. z / page) (sym whole)
  where
    all_of : (n : ℕ) → n - 0 + 1 ≡ n + 1
    all_of n = omega arith

-- a hidden region's object has an entry for each of its pages
has_hidden : (hs : List Hidden) (i : ℕ) → i < length hs → Has (get_or hs i no_hidden).region (map hidden_region hs)
has_hidden [] i l = absurd (omega (arith, l))
has_hidden (h ∷ hs) zero l = inl refl
has_hidden (h ∷ hs) (suc i) l = inr (has_hidden hs i (omega (arith, l)))

pub hidden_backed : (k : Kernel) (i : ℕ) → IsGood k → i < length k.hidden → length (object_at k.memory.objects (get_or k.hidden i no_hidden).region.object.0) ≡ (get_or k.hidden i no_hidden).region.pages
hidden_backed k i good l = all_has (IsBacked k.memory.objects) (all_regions k.spaces.processes k.hidden) good.backed.each (get_or k.hidden i no_hidden).region (has_right (get_or k.hidden i no_hidden).region (owned_regions k.spaces.processes) (map hidden_region k.hidden) (has_hidden k.hidden i l))

-- as many as the call's bytes span
pub hidden_pages : (k : Kernel) (c : Call) (at : Placement) (r : Region) → IsGood k → class_of c.sem ≡ Move → refuse (outline k) (input_event c None) ≡ None → IsPlace k c at → FoundAt (position (is_same c.pid at.start at.pages) k.hidden) k.hidden r → length (object_at k.memory.objects r.object.0) ≡ span k.memory.frames.page 0 c.len
hidden_pages k c at r good is accepted place x =
    let h : Hidden = get_or k.hidden x.index no_hidden in
    let first = position-Some (is_same c.pid at.start at.pages) k.hidden x.index no_hidden x.is in
    let pages : h.region.pages ≡ at.pages = eqb-true h.region.pages at.pages (and_parts ((h.pid == c.pid) && (h.region.start == at.start)) (h.region.pages == at.pages) first.1).1 in
    let may = may_place k c good accepted (made_by_move k c is) in
    ap (λ (q : Region). length (object_at k.memory.objects q.object.0)) (sym x.region)
    ∙ hidden_backed k x.index good first.0
    ∙ pages ∙ place.pages
    ∙ sym (span_pages k.config.page c.len (page_some k good) may.some)
    ∙ ap (λ p. span p 0 c.len) (sym good.sized.page)

-- the bytes of a call lie in few pages
pub span_few : (k : Kernel) (c : Call) → IsGood k → class_of c.sem ≡ Move → refuse (outline k) (input_event c None) ≡ None → span k.memory.frames.page 0 c.len ≤ 65
span_few k c good is accepted =
    let may = may_place k c good accepted (made_by_move k c is) in
    let most = may.most in
    let pages : span k.memory.frames.page 0 c.len ≡ (c.len + k.config.page - 1) / k.config.page = ap (λ p. span p 0 c.len) good.sized.page ∙ span_pages k.config.page c.len (page_some k good) may.some in
    omega (arith, most, pages)

-- as many frames are free
pub may_take : (k : Kernel) (c : Call) → IsGood k → may_reuse k c ≡ true → span k.memory.frames.page 0 c.len ≤ count_by is_free k.memory.frames.owners
may_take k c good may =
    let enough : nat_le (span k.config.page 0 c.len) (count_by is_free k.memory.frames.owners) ≡ true = (and_parts (is_early_place (entry k.config.devices c.dev)) (nat_le (span k.config.page 0 c.len) (count_by is_free k.memory.frames.owners)) (and_parts (is_emulated c.sem) (is_early_place (entry k.config.devices c.dev) && nat_le (span k.config.page 0 c.len) (count_by is_free k.memory.frames.owners)) may).1).1 in
    subst (λ p. span p 0 c.len ≤ count_by is_free k.memory.frames.owners) (sym good.sized.page) (leb-true (span k.config.page 0 c.len) (count_by is_free k.memory.frames.owners) enough)

-- what was taken out, and lent
pub taken_is : (old : Kernel) (m : Memory) (hid : List Hidden) (n : ℕ) (c : Call) (at : Placement) (loans : Loans) (r : Region) → (x : FoundAt (position (is_same c.pid at.start at.pages) old.hidden) old.hidden r) → hid ≡ without (position (is_same c.pid at.start at.pages) old.hidden) old.hidden → IsTakenBack old.memory hid r → LendsObject n c.len r.object.0 old.memory m loans → may_reuse old c ≡ true → TakesHidden old (record old { memory = m; hidden = hid }) n c at loans
taken_is old m hid n c at loans r x left back object may =
    let is : hid ≡ remove old.hidden x.index = left ∙ ap (λ p. without p old.hidden) x.is in
    record {
      may = may;
      index = x.index;
      first = x.is;
      back = subst (λ hs. IsTakenBack old.memory hs (get_or old.hidden x.index no_hidden).region) is (subst (λ (q : Region). IsTakenBack old.memory hid q) (sym x.region) back);
      only = λ i. record old { memory = m; hidden = is i };
      object = subst (λ (q : Region). LendsObject n c.len q.object.0 old.memory m loans) (sym x.region) object;
    }

-- nothing has moved
unmoved : MemoryIsMoved → (k : Kernel) (v : StoreView) → IsGood k → IsSized k.memory v → IsMoved k k v v
unmoved law k v good sized = law k k v v good refl (record { sound = good.sound; sized = sized; cached = good.cached; guarded = good.guarded; shows = refl; keeps = keeps_all k.memory; counts = λ f. refl })

module _ (goes : HiddenRegionGoes) (moves : MemoryIsMoved) (old : Kernel) (m : Memory) (n : ℕ) (c : Call) (at : Placement) (loans : Loans) (v : StoreView) (good : IsGood old) (sized : IsSized old.memory v) (may : may_reuse old c ≡ true) (i : ℕ) (first : position (is_same c.pid at.start at.pages) old.hidden ≡ Some i) (back : IsTakenBack old.memory (remove old.hidden i) (get_or old.hidden i no_hidden).region) (object : LendsObject n c.len (get_or old.hidden i no_hidden).region.object.0 old.memory m loans) where
  abbrev h : Hidden
  h = get_or old.hidden i no_hidden

  abbrev o : ℕ
  o = h.region.object.0

  abbrev left : List Hidden
  left = remove old.hidden i

  abbrev cleared : Kernel
  cleared = record old { memory = object.gone; hidden = left }

  abbrev taken : Kernel
  taken = record old { memory = m; hidden = left }

  is_there : (i < length old.hidden) × (is_same c.pid at.start at.pages h ≡ true)
  is_there = let x = position-Some (is_same c.pid at.start at.pages) old.hidden i no_hidden first in (x.0, x.1)

  -- the other hidden regions still fit
  not_gone : (j : ℕ) → j < length (objects_of left) → get_or (objects_of left) j 0 ≢ o
  not_gone j l e = let among : is_among o (objects_of left) ≡ true = ap (λ a. is_among a (objects_of left)) (sym e) ∙ among_found (objects_of left) j l in let no = back.apart in absurd (cc)

  apart_object : (a b : ℕ) → a ≢ o → is_object o a b ≡ false
  apart_object a b ne = ne_eqb a o ne

  fits : FitsHidden object.gone (objects_of left)
  fits = record {
    cached = λ j l. let a : ℕ = get_or (objects_of left) j 0 in cached_kept (is_object o) old.memory object.gone a good.sound object.removes.touches (object.removes.sizes a (not_gone j l)) (λ b q e. apart_object a b (not_gone j l)) (back.fits.cached j l);
    apart = back.fits.apart;
  }

  clears : Clears old cleared
  clears = goes old object.gone i good is_there.0 object.removes fits

  -- the process has one hidden region fewer
  room : HasRoom c.pid cleared
  room =
      let one = sum_by-remove (λ (x : Hidden). num (is_of c.pid x)) old.hidden i no_hidden is_there.0 in
      let mine : num (is_of c.pid h) ≡ 1 = ap num (and_parts (h.pid == c.pid) (h.region.start == at.start) (and_parts ((h.pid == c.pid) && (h.region.start == at.start)) (h.region.pages == at.pages) is_there.1).0).0 in
      let few = good.few.few c.pid in
      omega (arith, one, mine, few)

  sized_gone : IsSized object.gone v
  sized_gone = record { count = sized.count ∙ sym object.removes.slots; page = sized.page ∙ sym (ap (λ t. t.page) object.removes.frames) }

  early : true ≡ is_early_device (entry old.devices c.dev)
  early = early_same old.config.page (entry old.config.devices c.dev) (entry old.devices c.dev) (entry old.pools c.dev) (good.equipped.each c.dev) (and_parts (is_early_place (entry old.config.devices c.dev)) (nat_le (span old.config.page 0 c.len) (count_by is_free old.memory.frames.owners)) (and_parts (is_emulated c.sem) (is_early_place (entry old.config.devices c.dev) && nat_le (span old.config.page 0 c.len) (count_by is_free old.memory.frames.owners)) may).1).0

  pub taken_holds : HoldsBuffer old taken v v n c loans
  taken_holds = record {
    cleared = cleared;
    clears = clears;
    room = room;
    lends = record {
      mid = object.gone;
      clock = old.clock;
      moved = unmoved moves cleared v clears.good sized_gone;
      only = refl;
      buffer = subst (λ b. LendsBuffer n 0 c.len b object.gone m loans) early object.buffer;
    };
  }

pub hidden_holds : HiddenRegionGoes → MemoryIsMoved → (old new : Kernel) (n : ℕ) (c : Call) (at : Placement) (loans : Loans) (v : StoreView) → IsGood old → IsSized old.memory v → TakesHidden old new n c at loans → HoldsBuffer old new v v n c loans
hidden_holds goes moves old new n c at loans v good sized x = subst (λ (z : Kernel). HoldsBuffer old z v v n c loans) (sym x.only) (taken_holds goes moves old new.memory n c at loans v good sized x.may x.index x.first x.back x.object)

-- the oldest one was taken
pub hidden_reused : (old new : Kernel) (n : ℕ) (c : Call) (at : Placement) (loans : Loans) → TakesHidden old new n c at loans → ReusesFrames old c at loans
hidden_reused old new n c at loans x r may found =
    let is : Some (get_or old.hidden x.index no_hidden).region ≡ Some r = sym (ap (λ place. region_at place old.hidden) x.first) ∙ found in
    let same : (get_or old.hidden x.index no_hidden).region ≡ r = cc in
    subst (λ (q : Region). LendsFramesOf old.memory q loans) same x.object.same

pub none_reused : (k : Kernel) (c : Call) (at : Placement) (loans : Loans) → (may_reuse k c ≡ true → oldest_hidden c.pid at.start at.pages k.hidden ≡ None) → ReusesFrames k c at loans
none_reused k c at loans nowhere r may found = let none = nowhere may in absurd (cc)

-- the event uses the region again
pub held_new : (old cl md pl new : Kernel) (c : Call) (q : Region) (loans : Loans) (v w : StoreView) (t : Transfer) → Clears old cl → LendsStrong cl md v w old.next c.dev 0 c.len loans → Adds c.pid q md pl → new ≡ with_input pl t → new.transfers ≡ old.transfers ++ t ∷ []
held_new old cl md pl new c q loans v w t clears lends adds posts = ap (λ (z : Kernel). z.transfers) posts ∙ ap (λ ts. ts ++ t ∷ []) (ap (λ (z : Kernel). z.transfers) adds.added ∙ ap (λ (z : Kernel). z.transfers) lends.only ∙ ap (λ (z : Kernel). z.transfers) clears.only)

pub hold_reuses : (old new : Kernel) (c : Call) (at : Placement) (t : Transfer) (answer : Reply) → IsPlace old c at → ReusesFrames old c at t.loans → new.transfers ≡ old.transfers ++ t ∷ [] → ReusesHidden old new c answer
hold_reuses old new c at t answer placed frames is_new n start r class may replied there found =
    let same : Some at.start ≡ Some start = sym placed.lowest ∙ ap (λ p. place extent p (regions_of (entry old.spaces.processes c.pid))) placed.pages ∙ there in
    let first : at.start ≡ start = cc in
    let oldest : oldest_hidden c.pid at.start at.pages old.hidden ≡ Some r = (λ i. oldest_hidden c.pid (first i) (placed.pages i) old.hidden) ∙ found in
    record { transfer = t; is_new = is_new; lends = frames r may oldest }

-- nothing is claimed of a failure, and of calls of other classes
pub fault_reuses : (old new : Kernel) (c : Call) → ReusesHidden old new c reply.StoreFault
fault_reuses old new c n start r class may replied there found = absurd (cc)

pub weak_reuses : (old new : Kernel) (c : Call) (answer : Reply) → class_of c.sem ≡ WeakMove → ReusesHidden old new c answer
weak_reuses old new c answer is n start r class may replied there found = let bad : WeakMove ≡ Move = sym is ∙ class in absurd (cc)

pub placed_reuses : (old new : Kernel) (c : Call) (a : ℕ) (answer : Reply) → IsTrue (is_whole (input_event c (Some a))) → ReusesHidden old new c answer
placed_reuses old new c a answer whole n start r class may replied there found = let bad : IsTrue (has_one (is_system Move) true) = subst (λ (x : Class). IsTrue (has_one (is_system x) true)) class whole in absurd (cc)

-- what follows after a failure, and what is so of any buffer
pub on_err : {T E : Type 0} (r : Result T E) (P Q : Type 0) → (P → Q) → OnErr r P → OnErr r Q
on_err (Ok x) P Q f h = tt
on_err (Err e) P Q f h = f h

pub if_ok : {T E : Type 0} (r : Result T E) (P : T → Type 0) → ((x : T) → P x) → IfOk r P
if_ok (Ok x) P f = f x
if_ok (Err e) P f = tt

-- a loan that is made leaves the store as it was
pub took_nothing : {T E : Type 0} (n : ℕ) (x : T) → HasCause {T = T} {E = E} n n (Ok x)
took_nothing n x = record { later = omega arith; failed = tt; kept = refl }
