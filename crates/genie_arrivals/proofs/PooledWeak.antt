-- What waits of a weak input may be copied to its range of the region that it names.
use Rattle.std.proofs.Common.{◌≡◌, ℕ, ◌+◌, ◌-◌, ◌*◌, ◌/◌, ◌^◌, ◌<◌, ◌≤◌, Bool, true, false, not, cond, List, [], ◌∷◌, refl, sym, ap, subst, arith, rules, ◌∙◌, length, get_or, eq-eqb, inl, inr}
use Rattle.std.specs.Prelude.{Option, Some, None, find, unwrap_or, ◌==◌, ◌&&◌, if◌then◌else◌}
use Rattle.genie_base.specs.Counts.{span}
use Rattle.genie_base.specs.Transfers.{class_of, is_strong}
use Rattle.genie_base.specs.declared.semantics.Class.{Class}
use Rattle.genie_base.specs.declared.semantics.Class.TheVariants.{Copy, Share, Move, WeakMove}
use Rattle.genie_base.specs.declared.semantics.Direction.{Direction}
use Rattle.genie_base.specs.declared.semantics.Direction.TheVariants as direction
use Rattle.genie_frame.specs.declared.frame.Owner.TheVariants.{Page}
use Rattle.genie_frame.specs.FrameTable.{counts_at, is_held, is_system, owner_at}
use Rattle.genie_object.specs.declared.objects.Range.{Range}
use Rattle.genie_object.specs.Costs.{AreBelow}
use Rattle.genie_object.specs.Memory.{entry_frame}
use Rattle.genie_object.specs.Objects.{entry_at, object_at}
use Rattle.genie_object.specs.Sound.{IsPrivate}
use Rattle.genie_plan.specs.Lemmas.Landings.{page_in}
use Rattle.genie_region.specs.declared.region.Region.{Region}
use Rattle.genie_space.specs.Translations.{IsBacked}
use Rattle.genie_model.specs.Lemmas.Lists.{Has, all_has, find_has, has_left}
use Rattle.genie_model.specs.Pending.{is_just, is_ready}
use Rattle.genie_model.specs.Tables.{entry}
use Rattle.genie_kernel.specs.declared.kernel.Kernel.{Kernel}
use Rattle.genie_kernel.specs.declared.transfer.Loans.{Loans}
use Rattle.genie_kernel.specs.declared.transfer.Loans.TheVariants.{Nothing, Outward, Inward}
use Rattle.genie_kernel.specs.declared.transfer.Transfer.{Transfer}
use Rattle.genie_kernel.specs.Backed.{all_regions}
use Rattle.genie_kernel.specs.Calls.{begins_at, has_number, is_copy_input, is_named, is_strong_call, names_weakly, region_number}
use Rattle.genie_kernel.specs.Good.{IsGood}
use Rattle.genie_kernel.specs.Held.{HoldsPages, IsInFrame, region_named, weak_transfers}
use Rattle.genie_kernel.specs.Loans.{frames_of}
use Rattle.genie_kernel.specs.Planned.{Lends, LendsIn, LendsInput, is_early_device}
use Rattle.genie_kernel.specs.Regions.{has_id, owned_regions}
use Rattle.genie_kernel.specs.Lemmas.Staying.{weak_held}
use Rattle.genie_changes.specs.Removing.{FitsTables, GoodRegionsFit}
use Rattle.genie_changes.specs.Settled.{IsSettled}
use Rattle.genie_arrivals.specs.Pooled.{CanCopyTo, frames_in, is_pooled_device, offset_of}
use Rattle.genie_arrivals.proofs.Lent.{lends_at}
use Rattle.genie_arrivals.proofs.PooledAt.{HasPooled, IsPoolAt, first_is, has_pooled, low_offset, of_system, pool_at}
use Rattle.genie_arrivals.proofs.Reaching.{most_page, some_page, span_within}
use Rattle.genie_arrivals.proofs.Readying.{span_less, stored_most}

-- a weak transfer keeps no address: its pages are counted from its place in the region
keeps_none : (c : Class) (d : Direction) → is_strong c ≡ false → is_copy_input c d ≡ false
keeps_none Copy d e = absurd (cc)
keeps_none Share d e = refl
keeps_none Move d e = refl
keeps_none WeakMove d e = refl

begins_in : (t : Transfer) → is_strong_call t ≡ false → begins_at t ≡ t.offset
begins_in t weak = ap (λ (b : Bool). unwrap_or (if b then Some t.addr else None) t.offset) (keeps_none (class_of t.sem) t.dir weak)

named_by : (t : Transfer) (r : ℕ) → is_strong_call t ≡ false → region_number t ≡ Some r → names_weakly r t ≡ true
named_by t r weak e = ap (λ (b : Bool). not b && is_named t.region r) weak ∙ ap (λ (o : Option ℕ). is_just o r) e ∙ eq-eqb r r refl

weak_among : (ts : List Transfer) (t : Transfer) → Has t ts → is_strong_call t ≡ false → Has t (weak_transfers ts)
weak_among [] t h weak = absurd h
weak_among (x ∷ ts) t (inl e) weak = subst (λ b. Has t (cond b (x ∷ weak_transfers ts) (weak_transfers ts))) (sym (ap (λ (y : Transfer). not (is_strong_call y)) e ∙ ap not weak)) (inl e)
weak_among (x ∷ ts) t (inr h) weak = elim (not (is_strong_call x)) as (λ b. Has t (cond b (x ∷ weak_transfers ts) (weak_transfers ts))) [ true ↦ inr (weak_among ts t h weak) | false ↦ weak_among ts t h weak ]

-- as many loans as pages of its range
as_many : (page : ℕ) (t : Transfer) (l : Loans) → LendsIn page t l → length (frames_of l) ≡ span page (begins_at t) t.len
as_many page t Nothing h = absurd h
as_many page t (Outward p) h = absurd h
as_many page t (Inward p) h = h.pages

below_pages : (x page pages : ℕ) → 0 < page → x ≤ page * pages → x / page ≤ pages
below_pages x page pages some l = grind (arith, l, some)

-- the pages that bytes of a region touch are the region's
span_lies : (page x len pages : ℕ) → 0 < page → x + len ≤ page * pages → x / page + span page x len ≤ pages
span_lies page x len pages some l = elim (len == 0) as (λ b. (len == 0) ≡ b → x / page + span page x len ≤ pages) [
  | true ↦ λ e.
      let none : span page x len ≡ 0 = ap (λ b. if b then 0 else (x + len - 1) / page - x / page + 1) e in
      let first = below_pages x page pages some (omega (arith, l)) in
      omega (arith, none, first)
  | false ↦ λ e. let more : 0 < len = grind (arith, rules, e) in span_within page x len pages some (omega (arith, l, more)) l
] refl

module _ (fit : GoodRegionsFit) (k : Kernel) (n : ℕ) (t : Transfer) (g : IsGood k) (s : IsSettled k) (found : find (has_number n) k.transfers ≡ Some t) (ready : is_ready t.phase ≡ true) (inward : t.dir ≡ direction.Inward) (on : is_pooled_device (entry k.devices t.dev)) (weak : is_strong_call t ≡ false) (q : Region) (names : region_number t ≡ Some q.id.0) (there : find (has_id q.id.0) (owned_regions k.spaces.processes) ≡ Some q) where
  abbrev page : ℕ
  page = k.config.page

  abbrev at : IsPoolAt k t.dev
  at = pool_at k t.dev g on

  abbrev x : HasPooled k t at
  x = has_pooled k n t g found ready inward on

  pends : Has t k.transfers
  pends = (find_has (has_number n) k.transfers t found).0

  owned : Has q (owned_regions k.spaces.processes)
  owned = (find_has (has_id q.id.0) (owned_regions k.spaces.processes) q there).0

  backed : length (object_at k.memory.objects q.object.0) ≡ q.pages
  backed = all_has (IsBacked k.memory.objects) (all_regions k.spaces.processes k.hidden) g.backed.each q (has_left q (owned_regions k.spaces.processes) _ owned)

  -- the range lies in the region
  inside : t.offset + t.len ≤ q.pages * page
  inside = all_has (λ (u : Transfer). (r : Region) → find (has_id r.id.0) (owned_regions k.spaces.processes) ≡ Some r → names_weakly r.id.0 u ≡ true → u.offset + u.len ≤ r.pages * page) k.transfers s.ranges t pends q there (named_by t q.id.0 weak names)

  lies : t.offset + t.stored ≤ page * q.pages
  lies = let l = inside in let m = stored_most k n t g found in let c : q.pages * page ≡ page * q.pages = grind arith in omega (arith, l, m, c)

  pub within : t.offset / page + span page t.offset t.stored ≤ q.pages
  within = span_lies page t.offset t.stored q.pages (some_page k g) lies

  lends : LendsIn page t t.loans
  lends = subst (LendsInput page k.memory.frames.owners (is_early_device (entry k.devices t.dev)) t) weak (subst (Lends page k.memory.frames.owners (is_early_device (entry k.devices t.dev)) t) inward (lends_at k t g pends))

  holds : HoldsPages page k.memory (owned_regions k.spaces.processes) g.held.page_in g.held.frame_of t
  holds = all_has (HoldsPages page k.memory (owned_regions k.spaces.processes) g.held.page_in g.held.frame_of) (weak_transfers k.transfers) g.held.each t (weak_among k.transfers t pends weak)

  region_is : region_named (owned_regions k.spaces.processes) (region_number t) ≡ Some q
  region_is = ap (region_named (owned_regions k.spaces.processes)) names ∙ there

  in_place : (j : ℕ) → j < length (frames_of t.loans) → entry_frame k.memory q.object.0 (t.offset / page + j) ≡ Some (get_or (frames_of t.loans) j 0)
  in_place j l = subst (λ o. IsInFrame k.memory o (t.offset / page + j) (get_or (frames_of t.loans) j 0)) region_is (holds.held j l)

  -- a page that a device holds is the region's own
  private_page : (j : ℕ) → j < length (frames_of t.loans) → IsPrivate k.memory.frames.counts k.memory.pages.pages (entry_at k.memory.objects q.object.0 (t.offset / page + j)).page
  private_page j l =
      let f : ℕ = get_or (frames_of t.loans) j 0 in
      let p = page_in k.memory q.object.0 (t.offset / page + j) f (in_place j l) in
      let held : is_held (counts_at k.memory.frames f) ≡ true = weak_held k t j g pends weak l in
      let owner : owner_at k.memory.frames f ≡ Page p.number.0 = g.sound.placed.in_frame p.number.0 (record { 0 = f }) p.is_place in
      record {
        number = p.number;
        frame = record { 0 = f };
        is_page = p.is_page;
        is_place = p.is_place;
        alone = g.sound.held.alone f p.number.0 owner held;
        unlent = g.sound.held.unlent f (ap is_system owner) held;
      }

  own : (j : ℕ) → j < span page t.offset t.stored → IsPrivate k.memory.frames.counts k.memory.pages.pages (entry_at k.memory.objects q.object.0 (t.offset / page + j)).page
  own j l =
      let less = span_less page t.offset t.stored t.len (some_page k g) (stored_most k n t g found) in
      let many : length (frames_of t.loans) ≡ span page t.offset t.len = as_many page t t.loans lends ∙ ap (λ a. span page a t.len) (begins_in t weak) in
      private_page j (omega (arith, l, less, many))

  pub can_copy : (range : Range) → range.object ≡ q.object → range.off ≡ t.offset → range.len ≡ t.stored → AreBelow (2 ^ 63) k.memory.frames.meters → CanCopyTo k.memory range (offset_of (entry k.config.devices t.dev)) (frames_in (entry k.pools t.dev) t.buffer)
  can_copy range object_is place size below =
      let first = first_is k t g at x in
      let low = low_offset k t.dev g at in
      let fits = x.fits in
      let limit = at.limit in
      let high = most_page k g in
      let same : k.memory.frames.page ≡ page = g.sized.page in
      let few = (all_has FitsTables (owned_regions k.spaces.processes) (fit k g) q owned).most in
      let long : page * q.pages ≤ 4096 * 64 = grind (arith, high, few) in
      let l = lies in
      let meter = below.copied in
      subst (λ (r : Range). CanCopyTo k.memory r (offset_of (entry k.config.devices t.dev)) (frames_in (entry k.pools t.dev) t.buffer)) (λ i. record { object = sym object_is i; off = sym place i; len = sym size i }) (record {
        sound = g.sound;
        fits = omega (arith, l, long);
        source = omega (arith, first, low, fits, limit, high);
        inside = (let page_17 : k.memory.frames.page * 17 ≡ 17 * page = omega (arith, same) in omega (arith, first, low, fits, limit, page_17));
        within = subst (λ z. t.offset / z + span z t.offset t.stored ≤ length (object_at k.memory.objects q.object.0)) (sym same) (subst (λ z. t.offset / page + span page t.offset t.stored ≤ z) (sym backed) within);
        own = subst (λ z. (j : ℕ) → j < span z t.offset t.stored → IsPrivate k.memory.frames.counts k.memory.pages.pages (entry_at k.memory.objects q.object.0 (t.offset / z + j)).page) (sym same) own;
        of_system = of_system k t g at x;
        meter = omega (arith, meter, fits, limit, high);
      })
