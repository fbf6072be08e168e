-- Bytes that land in the pages of an orphan.
use Rattle.std.proofs.Common.{◌≡◌, ◌≢◌, ℕ, ◌+◌, ◌-◌, ◌*◌, ◌/◌, ◌%◌, ◌<◌, ◌≤◌, zero, suc, Bool, true, false, cond, List, [], ◌∷◌, ◌++◌, refl, sym, ap, ap₂, subst, arith, rules, ◌∙◌, ⊎_elim, length, map, take, get_or, eqb-true, length-take, length-append}
use Rattle.std.specs.Prelude.{Option, Some, None, IfSome, All, filter, find, flat_map, nat_le, nat_lt, ◌==◌, ◌&&◌, ◌||◌, if◌then◌else◌}
use Rattle.std.specs.List.{list_any}
use Rattle.std.proofs.Math.Nat.{div-add-mod}
use Rattle.std.proofs.lemmas.Bool.{cases_lt, eqb-false}
use Rattle.std.proofs.lemmas.List.{get_or-append-add, get_or_append_left, map-append}
use Rattle.std.proofs.lemmas.List.Sums.{sum_by-cons}
use Rattle.std.proofs.lemmas.Nat.{mod_below}
use Rattle.genie_base.specs.Bytes.{overlaid, part}
use Rattle.genie_base.specs.Counts.{span}
use Rattle.genie_base.specs.Lemmas.Places.{any_default, num}
use Rattle.genie_base.specs.declared.semantics.Direction.{Direction}
use Rattle.genie_base.specs.declared.semantics.Direction.TheVariants as direction
use Rattle.genie_frame.specs.declared.frame.Counts.{Counts}
use Rattle.genie_frame.specs.declared.frame.OutLoan.{OutLoan}
use Rattle.genie_frame.specs.declared.frame.Owner.{Owner}
use Rattle.genie_frame.specs.declared.frame.Owner.TheVariants.{Free, Nobody, Page, Pool, System}
use Rattle.genie_frame.specs.FrameTable.{owner_at, counts_at, is_held, is_system}
use Rattle.genie_input.specs.Pools.{PoolState}
use Rattle.genie_object.specs.declared.memory.Memory.{Memory}
use Rattle.genie_object.specs.Memory.{seen, is_kept}
use Rattle.genie_object.specs.Sound.{IsSound}
use Rattle.genie_plan.specs.declared.plan.InPlan.{InPlan}
use Rattle.genie_plan.specs.Landings.{Lands}
use Rattle.genie_plan.specs.Loans as kind
use Rattle.genie_plan.specs.Loans.{Loan, is_kind, loan_times, output_kind, output_loan}
use Rattle.genie_plan.specs.Plans.{input_frames, output_frames, times}
use Rattle.genie_plan.specs.Lemmas.Landings.{entry_kept, frame_kept, in_frames, lands_soundly, page_in, times_some}
use Rattle.genie_plan.specs.Lemmas.Ranges.{times_at}
use Rattle.genie_region.specs.declared.region.Region.{Region}
use Rattle.genie_model.specs.Pending.{is_just}
use Rattle.genie_model.specs.Regions.{changed, put, stored_at, stored_in_orphan, with_bytes}
use Rattle.genie_model.specs.Tables.{entry}
use Rattle.genie_model.specs.Lemmas.Lists.{Has, all_has, any_has, find_has, none_found, none_has}
use Rattle.genie_kernel.specs.declared.kernel.Kernel.{Kernel}
use Rattle.genie_kernel.specs.declared.transfer.Loans.{Loans}
use Rattle.genie_kernel.specs.declared.transfer.Loans.TheVariants as loans
use Rattle.genie_kernel.specs.declared.transfer.Transfer.{Transfer}
use Rattle.genie_kernel.specs.Calls.{first_waiting, is_named, is_strong_call, number_of, region_number}
use Rattle.genie_kernel.specs.Counted.{AreCounted, loans_on, pool_on}
use Rattle.genie_kernel.specs.Good.{IsGood}
use Rattle.genie_kernel.specs.Held.{HoldsPages, IsInFrame, PageOf, page_of_loan, region_named}
use Rattle.genie_kernel.specs.Loans.{first_of, frames_of, loans_of}
use Rattle.genie_kernel.specs.Orphans.{all_numbers, all_places, byte_under, covers, is_orphan, lent_bytes, orphan_byte, orphan_view, orphans_view}
use Rattle.genie_kernel.specs.Planned.{ArePlanned, Lends, LendsInput, LendsOut, LendsStrongly, is_early_device}
use Rattle.genie_kernel.specs.Regions.{has_id, owned_regions, region_view}
use Rattle.genie_kernel.specs.Same.{PoolsShowSame, ShowSame}
use Rattle.genie_kernel.specs.Steps.{bytes_over}
use Rattle.genie_kernel.specs.View.{Bytes, state_of}
use Rattle.genie_kernel.specs.Lemmas.Staying.{at_least}
use Rattle.genie_changes.specs.Places.{LiesInFrames, byte_at}
use Rattle.genie_changes.specs.Premises.{ShowsPages}
use Rattle.genie_receiving.specs.Laws.{ReceiveLaws}
use Rattle.genie_receiving.specs.Lemmas.Landed.{good_page}
use Rattle.genie_receiving.specs.Lemmas.Put.{processes_put}
use Rattle.genie_receiving.specs.Lemmas.Ready.{below, input_out, some_span, weak_holds}
use Rattle.genie_receiving.specs.Lemmas.Shown.{ShowsBeside, frames_same, payload_shown, state_beside}
use Rattle.genie_receiving.proofs.Strong.{any_at, none_or, weak_covers}
use Rattle.genie_receiving.proofs.Weak.{IsWeakInto, begins_in, covers_place}

-- a byte among bytes that were stored over others
first_stored : (d : ℕ) (new old : List ℕ) → d < length new → d < length old → get_or (overlaid 0 new old) d 0 ≡ get_or new d 0
first_stored d [] old l m = absurd (omega (arith, l))
first_stored d (b ∷ new) [] l m = absurd (omega (arith, m))
first_stored zero (b ∷ new) (o ∷ old) l m = refl
first_stored (suc d) (b ∷ new) (o ∷ old) l m = first_stored d new old (omega (arith, l)) (omega (arith, m))

stored_here : (a d : ℕ) (new old : List ℕ) → d < length new → a + d < length old → get_or (overlaid a new old) (a + d) 0 ≡ get_or new d 0
stored_here zero d new old l m = let e : 0 + d ≡ d = omega arith in ap (λ n. get_or (overlaid 0 new old) n 0) e ∙ first_stored d new old l (omega (arith, m))
stored_here (suc a) d new [] l m = absurd (omega (arith, m))
stored_here (suc a) d new (o ∷ old) l m = let e : suc a + d ≡ suc (a + d) = omega arith in ap (λ n. get_or (o ∷ overlaid a new old) n 0) e ∙ stored_here a d new old l (omega (arith, m))

stored_below : (a e : ℕ) (new old : List ℕ) → e < a → get_or (overlaid a new old) e 0 ≡ get_or old e 0
stored_below zero e new old l = absurd (omega (arith, l))
stored_below (suc a) e new [] l = refl
stored_below (suc a) zero new (o ∷ old) l = refl
stored_below (suc a) (suc e) new (o ∷ old) l = stored_below a e new old (omega (arith, l))

stored_above : (a e : ℕ) (new old : List ℕ) → a + length new ≤ e → get_or (overlaid a new old) e 0 ≡ get_or old e 0
stored_above a e new [] l = refl
stored_above zero e [] (o ∷ old) l = refl
stored_above zero zero (b ∷ new) (o ∷ old) l = absurd (omega (arith, l))
stored_above zero (suc e) (b ∷ new) (o ∷ old) l = stored_above zero e new old (omega (arith, l))
stored_above (suc a) zero new (o ∷ old) l = absurd (omega (arith, l))
stored_above (suc a) (suc e) new (o ∷ old) l = stored_above a e new old (omega (arith, l))

-- a place of frames in a row
place_in_frames : (s : ℕ → List ℕ) (page : ℕ) (frames : List ℕ) (j r : ℕ) → ((i : ℕ) → i < length frames → length (s (get_or frames i 0)) ≡ page) → j < length frames → r < page → get_or (flat_map s frames) (j * page + r) 0 ≡ get_or (s (get_or frames j 0)) r 0
place_in_frames s page [] j r full l m = absurd (omega (arith, l))
place_in_frames s page (f ∷ frames) zero r full l m =
    let long : length (s f) ≡ page = full 0 (omega arith) in
    let at : 0 * page + r ≡ r = omega arith in
    ap (λ i. get_or (s f ++ flat_map s frames) i 0) at ∙ get_or_append_left (s f) (flat_map s frames) 0 r (omega (arith, long, m))
place_in_frames s page (f ∷ frames) (suc j) r full l m =
    let long : length (s f) ≡ page = full 0 (omega arith) in
    let more : suc j * page ≡ j * page + page = omega arith in
    let at : suc j * page + r ≡ length (s f) + (j * page + r) = omega (arith, long, more) in
    ap (λ i. get_or (s f ++ flat_map s frames) i 0) at ∙ get_or-append-add (s f) (flat_map s frames) (j * page + r) 0 ∙ place_in_frames s page frames j r (λ i h. full (suc i) (omega arith)) (omega arith) m

row_length : (s : ℕ → List ℕ) (page : ℕ) (frames : List ℕ) → ((j : ℕ) → j < length frames → length (s (get_or frames j 0)) ≡ page) → length (flat_map s frames) ≡ length frames * page
row_length s page [] h = omega arith
row_length s page (f ∷ frames) h =
    let here = h 0 (omega arith) in
    let later = row_length s page frames (λ j l. h (suc j) (omega (arith, l))) in
    let all = length-append (s f) (flat_map s frames) in
    let more : suc (length frames) * page ≡ page + length frames * page = omega arith in
    omega (arith, here, later, all, more)

row_place : (page j n r : ℕ) → j < n → r < page → j * page + r < n * page
row_place page j n r l m = grind (arith, l, m)

-- the loan on the page of a place that is covered
record LoanOf (page k x : ℕ) (t : Transfer) : Type 0 where
  pub at : ℕ
  pub inside : at < length (frames_of t.loans)
  pub is : page_of_loan page t at ≡ record { region = Some k; index = x / page }

just_is : (o : Option ℕ) (j : ℕ) → is_just o j ≡ true → o ≡ Some j
just_is None j e = absurd (cc)
just_is (Some n) j e = ap Some (eqb-true n j e)

loan_of : (page k x : ℕ) (t : Transfer) → 0 < page → length (frames_of t.loans) ≡ span page t.offset t.len → covers k x t ≡ true → LoanOf page k x t
loan_of page k x t some long e =
    let named : is_named t.region k ≡ true = grind (arith, rules, e) in
    let from : t.offset ≤ x = grind (arith, rules, e) in
    let to : x < t.offset + t.len = grind (arith, rules, e) in
    let q : ℕ = t.offset / page in
    let low : t.offset / page ≤ x / page = below page t.offset x some from in
    let high : x / page ≤ (t.offset + t.len - 1) / page = below page x (t.offset + t.len - 1) some (omega (arith, to)) in
    let pages : length (frames_of t.loans) ≡ (t.offset + t.len - 1) / page - t.offset / page + 1 = long ∙ some_span page t.offset t.len (omega (arith, from, to)) in
    let index : t.offset / page + (x / page - t.offset / page) ≡ x / page = omega (arith, low) in
    record { at = x / page - t.offset / page; inside = omega (arith, low, high, pages); is = λ i. record { region = just_is (region_number t) k named i; index = index i } }

-- a strong output has a strong loan on each of its frames
strong_out : (ls : List OutLoan) (f : ℕ) → All (λ (l : OutLoan). l.strong ≡ true) ls → list_any (λ g. g == f) (output_frames ls) ≡ true → 0 < loan_times (map output_loan ls) kind.Strong f
strong_out [] f all e = absurd (cc)
strong_out (l ∷ ls) f all e =
    let here : l.strong ≡ true = all 0 l (omega arith) in
    let sums = sum_by-cons (λ (y : Loan). cond (is_kind kind.Strong y.kind && (y.frame == f)) 1 0) (output_loan l) (map output_loan ls) in
    elim (l.frame.0 == f) as (λ b. (l.frame.0 == f) ≡ b → (b || list_any (λ g. g == f) (output_frames ls)) ≡ true → 0 < loan_times (map output_loan (l ∷ ls)) kind.Strong f) [
      | true ↦ λ is h. let one : num (is_kind kind.Strong (output_kind l.strong) && (l.frame.0 == f)) ≡ 1 = (λ i. num (is_kind kind.Strong (output_kind (here i)) && is i)) in omega (arith, sums, one)
      | false ↦ λ is h. let later = strong_out ls f (λ i d m. all (suc i) d (omega (arith, m))) h in omega (arith, sums, later)
    ] refl e

no_own : (owners : List Owner) (n f : ℕ) (fs : List ℕ) → All (λ g. get_or owners g Free ≡ System n) fs → list_any (λ g. g == f) fs ≡ true → get_or owners f Free ≡ System n
no_own owners n f fs own e = let some = any_has (λ g. g == f) fs e in subst (λ g. get_or owners g Free ≡ System n) (eqb-true some.0 f some.2) (all_has (λ g. get_or owners g Free ≡ System n) fs own some.0 some.1)

-- no strong transfer has a frame of nobody's that a device stores in
module _ (page : ℕ) (owners : List Owner) (counts : Counts) (f : ℕ) (nobody : get_or owners f Free ≡ Nobody) (unlent : counts.strong ≡ 0) where
  strong_apart : (early : Bool) (u : Transfer) (d : Direction) → is_strong_call u ≡ true → loan_times (loans_of u.loans) kind.Strong f ≤ counts.strong → Lends page owners early u d → list_any (λ g. g == f) (frames_of u.loans) ≡ true → ⊥
  strong_apart early u direction.Outward strong most h on = by u.loans h on most
    where
      by : (l : Loans) → LendsOut page u l → list_any (λ g. g == f) (frames_of l) ≡ true → loan_times (loans_of l) kind.Strong f ≤ counts.strong → ⊥
      by loans.Nothing x e n = absurd x
      by (loans.Outward q) x e n = let some = strong_out q.loans.items f (λ i d m. x.0 i d m ∙ strong) e in absurd (omega (arith, some, n, unlent))
      by (loans.Inward q) x e n = absurd x
  strong_apart early u direction.Inward strong most h on = by early (subst (LendsInput page owners early u) strong h)
    where
      by : (b : Bool) → LendsStrongly page owners b u u.loans → ⊥
      by false x = let none : list_any (λ g. g == f) (frames_of u.loans) ≡ false = ap (λ (l : Loans). list_any (λ g. g == f) (frames_of l)) x in let clash : true ≡ false = sym on ∙ none in absurd (cc)
      by true x = let mine = no_own owners (number_of u) f (frames_of u.loans) x.1.own on in let clash : Nobody ≡ System (number_of u) = sym nobody ∙ mine in absurd (cc)

held_input : (c : Counts) → 0 < c.input → is_held c ≡ true
held_input c h = grind (arith, rules, h)

module _ (laws : ReceiveLaws) (k : Kernel) (g : IsGood k) (t : Transfer) (p : InPlan) (m : Memory) (x r : ℕ) (bytes : List ℕ) (h : IsWeakInto k t p r) (none : find (has_id r) (owned_regions k.spaces.processes) ≡ None) (lands : Lands (input_frames p.loans.items) p.first p.len x bytes k.memory m) (slots : ℕ → List ℕ) where
  abbrev frames : List ℕ
  frames = input_frames p.loans.items

  abbrev page : ℕ
  page = k.config.page

  abbrev i : ℕ
  i = t.offset / page

  abbrev regions : List Region
  regions = owned_regions k.spaces.processes

  abbrev old : ℕ → List ℕ
  old = (seen k.memory slots).kept_bytes

  abbrev new : ℕ → List ℕ
  new = (seen m slots).kept_bytes

  abbrev more : List ℕ
  more = take (t.len - x) bytes

  holds : HoldsPages page k.memory regions g.held.page_in g.held.frame_of t
  holds = weak_holds k t g h.pends h.weak

  frames_is : frames_of t.loans ≡ frames
  frames_is = ap frames_of h.is

  nobody_at : (j : ℕ) → j < length frames → owner_at k.memory.frames (get_or frames j 0) ≡ Nobody
  nobody_at j l =
      let held : (j : ℕ) → j < length frames → IsInFrame k.memory (region_named regions (region_number t)) (i + j) (get_or frames j 0) = subst (λ fs. (j : ℕ) → j < length fs → IsInFrame k.memory (region_named regions (region_number t)) (i + j) (get_or fs j 0)) frames_is holds.held in
      subst (λ o. IsInFrame k.memory o (i + j) (get_or frames j 0)) (ap (region_named regions) h.named ∙ none) (held j l)

  nobody_of : (f : ℕ) → 0 < times frames f → owner_at k.memory.frames f ≡ Nobody
  nobody_of f some = let at = times_some frames f some in subst (λ y. owner_at k.memory.frames y ≡ Nobody) at.2 (nobody_at at.0 at.1)

  unlent_of : (f : ℕ) → 0 < times frames f → (counts_at k.memory.frames f).strong ≡ 0
  unlent_of f some =
      let at = times_some frames f some in
      let input : 0 < (counts_at k.memory.frames f).input = subst (λ y. 0 < (counts_at k.memory.frames y).input) at.2 (input_out k t p g h.pends h.is at.0 at.1) in
      g.sound.held.unlent f (ap is_system (nobody_of f some)) (held_input (counts_at k.memory.frames f) input)

  -- the page that a frame holds
  page_at_loan : (j : ℕ) → j < length frames → g.held.page_in (get_or frames j 0) ≡ record { region = Some r; index = i + j }
  page_at_loan j l =
      let pages : (j : ℕ) → j < length frames → g.held.page_in (get_or frames j 0) ≡ page_of_loan page t j = subst (λ fs. (j : ℕ) → j < length fs → g.held.page_in (get_or fs j 0) ≡ page_of_loan page t j) frames_is holds.pages in
      pages j l ∙ (λ z. record { region = h.named z; index = i + j })

  apart_same : (f : ℕ) → (0 < times frames f → ⊥) → new f ≡ old f
  apart_same f no_time = frame_kept k.memory m p.first p.len x frames bytes slots lands f (⊎_elim (λ z. z) (λ (some : 0 < times frames f). absurd (no_time some)) (none_or (times frames f)))

  entries_same : (o e : ℕ) → (seen m slots).entry_bytes o e ≡ (seen k.memory slots).entry_bytes o e
  entries_same o e = entry_kept k.memory m p.first p.len x frames bytes slots lands o e (λ f there. ⊎_elim (λ z. z)
      (λ (some : 0 < times frames f).
      let at = page_in k.memory o e f there in
      let clash : Page at.number.0 ≡ Nobody = sym (g.sound.placed.in_frame at.number.0 (record { 0 = f }) at.is_place) ∙ nobody_of f some in absurd (cc))
      (none_or (times frames f)))

  pools_same : PoolsShowSame old new k.pools
  pools_same d = by (entry k.pools d) refl
    where
      pooled : (q : PoolState) → entry k.pools d ≡ Some q → (a e : ℕ) → a < length (input_frames q.loans) → new (get_or (input_frames q.loans) a e) ≡ old (get_or (input_frames q.loans) a e)
      pooled q is a e l =
          let f : ℕ = get_or (input_frames q.loans) a 0 in
          let on : 0 < pool_on f (entry k.pools d) = subst (λ o. 0 < pool_on f o) (sym is) (times_at (input_frames q.loans) a l) in
          let pool : owner_at k.memory.frames f ≡ Pool d = g.owners.pool_frames f d on in
          subst (λ y. new y ≡ old y) (sym (any_default (input_frames q.loans) a e 0 l)) (apart_same f (λ some. let clash : Pool d ≡ Nobody = sym pool ∙ nobody_of f some in absurd (cc)))

      by : (o : Option PoolState) → entry k.pools d ≡ o → IfSome o (λ (q : PoolState). ShowSame old new (input_frames q.loans))
      by None e = tt
      by (Some q) e = pooled q e

  -- a strong transfer shows what it showed
  strong_same : (ts : List Transfer) → AreCounted k.memory.frames.counts ts k.pools → ArePlanned page k.memory.frames.owners k.devices ts → (u : Transfer) → Has u ts → is_strong_call u ≡ true → lent_bytes new u ≡ lent_bytes old u
  strong_same ts counted planned u has strong = ap (part (first_of u.loans) u.len) (frames_same old new (frames_of u.loans) (λ a e l.
      let f : ℕ = get_or (frames_of u.loans) a 0 in
      let lends : Lends page k.memory.frames.owners (is_early_device (entry k.devices u.dev)) u u.dir = all_has (λ (y : Transfer). Lends page k.memory.frames.owners (is_early_device (entry k.devices y.dev)) y y.dir) ts planned u has in
      let most : loan_times (loans_of u.loans) kind.Strong f ≤ (counts_at k.memory.frames f).strong = subst (λ (c : Counts). loan_times (loans_of u.loans) kind.Strong f ≤ c.strong) (sym (counted f)) (at_least (loans_on kind.Strong f) ts u has) in
      subst (λ y. new y ≡ old y) (sym (any_default (frames_of u.loans) a e 0 l))
      (apart_same f (λ some. strong_apart page k.memory.frames.owners (counts_at k.memory.frames f) f (nobody_of f some) (unlent_of f some) (is_early_device (entry k.devices u.dev)) u u.dir strong most lends (any_at (frames_of u.loans) a l)))))

  shows_old : ShowsPages page k.memory old
  shows_old f nobody = laws.show k.memory slots g.sound.shaped f nobody ∙ g.sized.page

  shows_new : ShowsPages page k.memory new
  shows_new f nobody =
      let sound : IsSound m = lands_soundly k.memory m p.first p.len x frames bytes g.sound lands in
      laws.show m slots sound.shaped f (ap (λ os. get_or os f Free) lands.only.owners ∙ nobody) ∙ lands.only.page ∙ g.sized.page

  count : length frames ≡ span page t.offset t.len
  count = h.range.pages ∙ ap (λ a. span page a t.len) (begins_in t h.weak)

  first_is : p.first ≡ t.offset % page
  first_is = h.range.begins ∙ ap (λ a. a % page) (begins_in t h.weak)

  abbrev frame_at : ℕ → ℕ → ℕ
  frame_at n y = g.held.frame_of (record { region = Some n; index = y / page })

  -- which page is in the frame of a covered place
  page_there : (n y : ℕ) (u : Transfer) → Has u k.transfers → is_strong_call u ≡ false → length (frames_of u.loans) ≡ span page u.offset u.len → covers n y u ≡ true → g.held.page_in (frame_at n y) ≡ record { region = Some n; index = y / page }
  page_there n y u has weak long covered =
      let l = loan_of page n y u (good_page k g) long covered in
      let holds_u = weak_holds k u g has weak in
      let is : frame_at n y ≡ get_or (frames_of u.loans) l.at 0 = sym (ap g.held.frame_of l.is) ∙ holds_u.frames l.at l.inside in
      ap g.held.page_in is ∙ holds_u.pages l.at l.inside ∙ l.is

  -- another region or orphan shows what it showed
  other_same : (n y : ℕ) → n ≢ r → g.held.page_in (frame_at n y) ≡ record { region = Some n; index = y / page } → new (frame_at n y) ≡ old (frame_at n y)
  other_same n y apart is = apart_same (frame_at n y) (λ some.
      let at = times_some frames (frame_at n y) some in
      let two : ◌≡◌ {A = PageOf} (record { region = Some r; index = i + at.0 }) (record { region = Some n; index = y / page }) = sym (page_at_loan at.0 at.1) ∙ ap g.held.page_in at.2 ∙ is in
      let same : Some r ≡ Some n = ap (λ (q : PageOf). q.region) two in
      let one : r ≡ n = cc in apart (sym one))

  row_new : flat_map new frames ≡ overlaid (p.first + x) more (flat_map old frames)
  row_new = in_frames k.memory m p.first p.len x frames bytes slots lands (λ j l. ap (λ o. is_kept o (counts_at k.memory.frames (get_or frames j 0))) (nobody_at j l)) ∙ (λ z. overlaid (p.first + x) (take (h.range.length_kept z - x) bytes) (flat_map old frames))

  place_is : (y j : ℕ) → y / page ≡ i + j → y ≡ page * i + (j * page + y % page)
  place_is y j e =
      let parts = div-add-mod y page in
      let split : page * (y / page) ≡ page * i + j * page = ap (λ n. page * n) e ∙ omega arith in
      omega (arith, parts, split)

  start_is : t.offset + x ≡ page * i + (p.first + x)
  start_is = let parts = div-add-mod t.offset page in let first = first_is in omega (arith, parts, first)

  -- what is stored at a place of the orphan
  stored_byte : (y : ℕ) → g.held.page_in (frame_at r y) ≡ record { region = Some r; index = y / page } → ◌≡◌ {A = ℕ × ℕ} (y, byte_at page new g.held.frame_of r y) (stored_at (t.offset + x) more (y, byte_at page old g.held.frame_of r y))
  stored_byte y is = ⊎_elim outside within (none_or (times frames (frame_at r y)))
    where
      in_range_true : (a l : ℕ) → a ≤ y → y < a + l → (nat_le a y && nat_lt y (a + l)) ≡ true
      in_range_true a l from to = grind (arith, rules, from, to)

      in_range_low : (a l : ℕ) → y < a → (nat_le a y && nat_lt y (a + l)) ≡ false
      in_range_low a l to = grind (arith, rules, to)

      in_range_high : (a l : ℕ) → a + l ≤ y → (nat_le a y && nat_lt y (a + l)) ≡ false
      in_range_high a l to = grind (arith, rules, to)

      chosen : (c : Bool) → (nat_le (t.offset + x) y && nat_lt y (t.offset + x + length (take (t.len - x) bytes))) ≡ c → ◌≡◌ {A = ℕ × ℕ} (stored_at (t.offset + x) (take (t.len - x) bytes) (y, get_or (old (frame_at r y)) (y % page) 0)) (if c then (y, get_or (take (t.len - x) bytes) (y - (t.offset + x)) 0) else (y, get_or (old (frame_at r y)) (y % page) 0))
      chosen c e = ap (λ b. if b then (y, get_or (take (t.len - x) bytes) (y - (t.offset + x)) 0) else (y, get_or (old (frame_at r y)) (y % page) 0)) e

      size : length (take (t.len - x) bytes) ≤ t.len - x
      size = let a = length-take (t.len - x) bytes in omega (arith, a)

      outside : times frames (frame_at r y) ≡ 0 → ◌≡◌ {A = ℕ × ℕ} (y, get_or (new (frame_at r y)) (y % page) 0) (stored_at (t.offset + x) (take (t.len - x) bytes) (y, get_or (old (frame_at r y)) (y % page) 0))
      outside no_time =
          let same : new (frame_at r y) ≡ old (frame_at r y) = apart_same (frame_at r y) (λ some. absurd (omega (arith, some, no_time))) in
          let out : (nat_le (t.offset + x) y && nat_lt y (t.offset + x + length (take (t.len - x) bytes))) ≡ false = ⊎_elim
          (λ (low : y < t.offset + x). in_range_low (t.offset + x) (length (take (t.len - x) bytes)) low)
          (λ (from : t.offset + x ≤ y). ⊎_elim
          (λ (to : y < t.offset + x + length (take (t.len - x) bytes)).
          let few = size in
          let covered = covers_place t r y h.weak h.named (omega (arith, from)) (omega (arith, few, to, from)) in
          let long : length (frames_of t.loans) ≡ span page t.offset t.len = ap length frames_is ∙ count in
          let l = loan_of page r y t (good_page k g) long covered in
          let at : frame_at r y ≡ get_or (frames_of t.loans) l.at 0 = sym (ap g.held.frame_of l.is) ∙ holds.frames l.at l.inside in
          let there : 0 < times (frames_of t.loans) (frame_at r y) = subst (λ f. 0 < times (frames_of t.loans) f) (sym at) (times_at (frames_of t.loans) l.at l.inside) in
          let here : 0 < times frames (frame_at r y) = subst (λ fs. 0 < times fs (frame_at r y)) frames_is there in
          absurd (omega (arith, here, no_time)))
          (λ (to : t.offset + x + length (take (t.len - x) bytes) ≤ y). in_range_high (t.offset + x) (length (take (t.len - x) bytes)) to)
          (cases_lt y (t.offset + x + length (take (t.len - x) bytes))))
          (cases_lt y (t.offset + x)) in
          ap (λ (l : List ℕ). (y, get_or l (y % page) 0)) same ∙ sym (chosen false out)

      within : 0 < times frames (frame_at r y) → ◌≡◌ {A = ℕ × ℕ} (y, get_or (new (frame_at r y)) (y % page) 0) (stored_at (t.offset + x) (take (t.len - x) bytes) (y, get_or (old (frame_at r y)) (y % page) 0))
      within some =
          let at = times_some frames (frame_at r y) some in
          let j : ℕ = at.0 in
          let two : ◌≡◌ {A = PageOf} (record { region = Some r; index = i + at.0 }) (record { region = Some r; index = y / page }) = sym (page_at_loan at.0 at.1) ∙ ap g.held.page_in at.2 ∙ is in
          let index : y / page ≡ i + at.0 = ap (λ (q : PageOf). q.index) (sym two) in
          let has_page = good_page k g in
          let low : y % page < page = mod_below y page has_page in
          let e : ℕ = at.0 * page + y % page in
          let a : ℕ = p.first + x in
          let full_new : (j : ℕ) → j < length frames → length (new (get_or frames j 0)) ≡ page = λ j l. shows_new (get_or frames j 0) (nobody_at j l) in
          let full_old : (j : ℕ) → j < length frames → length (old (get_or frames j 0)) ≡ page = λ j l. shows_old (get_or frames j 0) (nobody_at j l) in
          let was : get_or (flat_map old frames) (at.0 * page + y % page) 0 ≡ get_or (old (frame_at r y)) (y % page) 0 = place_in_frames old page frames at.0 (y % page) full_old at.1 low ∙ ap (λ f. get_or (old f) (y % page) 0) at.2 in
          let now : get_or (new (frame_at r y)) (y % page) 0 ≡ get_or (overlaid (p.first + x) (take (t.len - x) bytes) (flat_map old frames)) (at.0 * page + y % page) 0 = sym (ap (λ f. get_or (new f) (y % page) 0) at.2) ∙ sym (place_in_frames new page frames at.0 (y % page) full_new at.1 low) ∙ ap (λ l. get_or l (at.0 * page + y % page) 0) row_new in
          let place = place_is y at.0 index in
          let start = start_is in
          let long : at.0 * page + y % page < length (flat_map old frames) = (let z = row_length old page frames full_old in let w = row_place page at.0 (length frames) (y % page) at.1 low in omega (arith, z, w)) in
          ⊎_elim
          (λ (before : at.0 * page + y % page < p.first + x).
          ap (λ b. (y, b)) (now ∙ stored_below (p.first + x) (at.0 * page + y % page) (take (t.len - x) bytes) (flat_map old frames) before ∙ was)
          ∙ sym (chosen false (in_range_low (t.offset + x) (length (take (t.len - x) bytes)) (omega (arith, before, place, start)))))
          (λ (from : p.first + x ≤ at.0 * page + y % page). ⊎_elim
          (λ (to : at.0 * page + y % page < p.first + x + length (take (t.len - x) bytes)).
          let d : ℕ = at.0 * page + y % page - (p.first + x) in
          let there : at.0 * page + y % page ≡ p.first + x + (at.0 * page + y % page - (p.first + x)) = omega (arith, from) in
          let far : y - (t.offset + x) ≡ at.0 * page + y % page - (p.first + x) = omega (arith, place, start, from) in
          ap (λ b. (y, b)) (now ∙ ap (λ n. get_or (overlaid (p.first + x) (take (t.len - x) bytes) (flat_map old frames)) n 0) there ∙ stored_here (p.first + x) (at.0 * page + y % page - (p.first + x)) (take (t.len - x) bytes) (flat_map old frames) (omega (arith, to, from)) (omega (arith, there, long)) ∙ ap (λ n. get_or (take (t.len - x) bytes) n 0) (sym far))
          ∙ sym (chosen true (in_range_true (t.offset + x) (length (take (t.len - x) bytes)) (omega (arith, from, place, start)) (omega (arith, to, place, start)))))
          (λ (to : p.first + x + length (take (t.len - x) bytes) ≤ at.0 * page + y % page).
          ap (λ b. (y, b)) (now ∙ stored_above (p.first + x) (at.0 * page + y % page) (take (t.len - x) bytes) (flat_map old frames) to ∙ was)
          ∙ sym (chosen false (in_range_high (t.offset + x) (length (take (t.len - x) bytes)) (omega (arith, to, place, start)))))
          (cases_lt (at.0 * page + y % page) (p.first + x + length (take (t.len - x) bytes))))
          (cases_lt (at.0 * page + y % page) (p.first + x))

  -- orphan n, place by place
  orphan_place : (n y : ℕ) → is_orphan regions k.transfers n ≡ true → (b : Bool) → (n == r) ≡ b → orphan_byte new k.transfers n y ≡ (if b then map (stored_at (t.offset + x) more) (orphan_byte old k.transfers n y) else orphan_byte old k.transfers n y)
  orphan_place n y orphan b is = by (find (covers n y) k.transfers) refl
    where
      nothing : (c : Bool) → byte_under new y None ≡ (if c then map (stored_at (t.offset + x) (take (t.len - x) bytes)) (byte_under old y None) else byte_under old y None)
      nothing true = refl
      nothing false = refl

      stored : (u : Transfer) → byte_under new y (Some u) ≡ (y, byte_at page new g.held.frame_of n y) ∷ [] → byte_under old y (Some u) ≡ (y, byte_at page old g.held.frame_of n y) ∷ [] → g.held.page_in (frame_at n y) ≡ record { region = Some n; index = y / page } → (c : Bool) → (n == r) ≡ c → byte_under new y (Some u) ≡ (if c then map (stored_at (t.offset + x) (take (t.len - x) bytes)) (byte_under old y (Some u)) else byte_under old y (Some u))
      stored u now was at true e =
          let same : n ≡ r = eqb-true n r e in
          now ∙ ap (λ z. z ∷ []) (subst (λ j. ◌≡◌ {A = ℕ × ℕ} (y, byte_at page new g.held.frame_of j y) (stored_at (t.offset + x) (take (t.len - x) bytes) (y, byte_at page old g.held.frame_of j y))) (sym same)
          (stored_byte y (subst (λ j. g.held.page_in (frame_at j y) ≡ record { region = Some j; index = y / page }) same at)))
          ∙ sym (ap (map (stored_at (t.offset + x) (take (t.len - x) bytes))) was)
      stored u now was at false e = now ∙ ap (λ (l : List ℕ). (y, get_or l (y % page) 0) ∷ []) (other_same n y (eqb-false n r e) at) ∙ sym was

      by : (o : Option Transfer) → find (covers n y) k.transfers ≡ o → byte_under new y o ≡ (if b then map (stored_at (t.offset + x) (take (t.len - x) bytes)) (byte_under old y o) else byte_under old y o)
      by None f = nothing b
      by (Some u) f =
          let has = find_has (covers n y) k.transfers u f in
          let lie_new : LiesInFrames page new g.held.frame_of u = laws.lie k new g shows_new n y u orphan f in
          let lie_old : LiesInFrames page old g.held.frame_of u = laws.lie k old g shows_old n y u orphan f in
          let now = laws.byte page new g.held.frame_of n y u (good_page k g) lie_new has.1 in
          let was = laws.byte page old g.held.frame_of n y u (good_page k g) lie_old has.1 in
          stored u now was (page_there n y u has.0 (weak_covers n y u has.1) lie_old.range.pages has.1) b is

  orphan_bytes : (n : ℕ) → is_orphan regions k.transfers n ≡ true → (b : Bool) → (n == r) ≡ b → (ys : List ℕ) → flat_map (orphan_byte new k.transfers n) ys ≡ (if b then map (stored_at (t.offset + x) more) (flat_map (orphan_byte old k.transfers n) ys) else flat_map (orphan_byte old k.transfers n) ys)
  orphan_bytes n orphan true e [] = refl
  orphan_bytes n orphan false e [] = refl
  orphan_bytes n orphan true e (y ∷ ys) = ap₂ ◌++◌ (orphan_place n y orphan true e) (orphan_bytes n orphan true e ys) ∙ sym (map-append (stored_at (t.offset + x) (take (t.len - x) bytes)) (orphan_byte old k.transfers n y) (flat_map (orphan_byte old k.transfers n) ys))
  orphan_bytes n orphan false e (y ∷ ys) = ap₂ ◌++◌ (orphan_place n y orphan false e) (orphan_bytes n orphan false e ys)

  orphan_stored : (n : ℕ) → is_orphan regions k.transfers n ≡ true → orphan_view page new k.transfers n ≡ stored_in_orphan r (t.offset + x) more (orphan_view page old k.transfers n)
  orphan_stored n orphan = by (n == r) refl
    where
      by : (b : Bool) → (n == r) ≡ b → orphan_view page new k.transfers n ≡ (if b then record { number = n; bytes = map (stored_at (t.offset + x) (take (t.len - x) bytes)) (flat_map (orphan_byte old k.transfers n) (all_places page)) } else orphan_view page old k.transfers n)
      by true e = ap (λ l. record { number = n; bytes = l }) (orphan_bytes n orphan true e (all_places page))
      by false e = ap (λ l. record { number = n; bytes = l }) (orphan_bytes n orphan false e (all_places page))

  orphans_from : (ns : List ℕ) → map (orphan_view page new k.transfers) (filter (is_orphan regions k.transfers) ns) ≡ map (stored_in_orphan r (t.offset + x) more) (map (orphan_view page old k.transfers) (filter (is_orphan regions k.transfers) ns))
  orphans_from [] = refl
  orphans_from (n ∷ ns) = elim (is_orphan regions k.transfers n) as (λ c. is_orphan regions k.transfers n ≡ c → map (orphan_view page new k.transfers) (cond c (n ∷ filter (is_orphan regions k.transfers) ns) (filter (is_orphan regions k.transfers) ns)) ≡ map (stored_in_orphan r (t.offset + x) (take (t.len - x) bytes)) (map (orphan_view page old k.transfers) (cond c (n ∷ filter (is_orphan regions k.transfers) ns) (filter (is_orphan regions k.transfers) ns)))) [
    | true ↦ λ e. ap₂ ◌∷◌ (orphan_stored n e) (orphans_from ns)
    | false ↦ λ e. orphans_from ns
  ] refl

  orphans_stored : orphans_view page new regions k.transfers ≡ map (stored_in_orphan r (t.offset + x) more) (orphans_view page old regions k.transfers)
  orphans_stored = orphans_from all_numbers

  -- no region has this number
  each_region : (y : Region) → Has y regions → region_view (seen m slots).entry_bytes y ≡ changed r (with_bytes (t.offset + x) more) (region_view (seen k.memory slots).entry_bytes y)
  each_region y has =
      let entries : (seen m slots).entry_bytes ≡ (seen k.memory slots).entry_bytes = λ z o e. entries_same o e z in
      let other : (y.id.0 == r) ≡ false = none_has (has_id r) y regions has (none_found (has_id r) regions none) in
      ap (λ (s : ℕ → ℕ → List ℕ). region_view s y) entries ∙ sym (ap (λ b. if b then with_bytes (t.offset + x) (take (t.len - x) bytes) (region_view (seen k.memory slots).entry_bytes y) else region_view (seen k.memory slots).entry_bytes y) other)

  -- the state is that in which the bytes are put, whatever the work on the transfers is
  pub orphan_put : (ts : List Transfer) (rests sents : ℕ → List ℕ) → AreCounted k.memory.frames.counts ts k.pools → ArePlanned page k.memory.frames.owners k.devices ts → ((s : ℕ → List ℕ) → orphans_view page s regions ts ≡ orphans_view page s regions k.transfers)
      → state_of (record k { transfers = ts }) (bytes_over m slots rests sents) ≡ put (state_of (record k { transfers = ts }) (bytes_over k.memory slots rests sents)) r (t.offset + x) (take (t.len - x) bytes)
  orphan_put ts rests sents counted planned same =
      let k1 : Kernel = record k { transfers = ts } in
      let b : Bytes = bytes_over k.memory slots rests sents in
      let c : Bytes = bytes_over m slots rests sents in
      let beside : ShowsBeside k1 b c = record {
        rests = refl;
        sents = refl;
        payloads = λ u has. payload_shown old new k.pools pools_same k.devices (first_waiting ts) u (strong_same ts counted planned u has) u.dir;
        pooled = pools_same;
      } in
      let processes = processes_put (seen k.memory slots).entry_bytes (seen m slots).entry_bytes r (with_bytes (t.offset + x) (take (t.len - x) bytes)) k.spaces.processes k.queues each_region in
      let orphans = same new ∙ orphans_stored ∙ sym (ap (map (stored_in_orphan r (t.offset + x) (take (t.len - x) bytes))) (same old)) in
      state_beside k1 b c beside ∙ (λ z. record (state_of k1 b) { processes = processes z; orphans = orphans z })
