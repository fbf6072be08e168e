-- A weak transfer that begins on the pages of its region.
use Rattle.std.proofs.Common.{◌≡◌, ℕ, ◌+◌, ◌/◌, ◌<◌, suc, true, false, List, [], ◌∷◌, refl, sym, ap, subst, arith, ◌∙◌, ⊎_elim, inl, inr, length, get_or, eqb-true, eq-eqb}
use Rattle.std.specs.Prelude.{Option, Some, None, find, ◌==◌, ◌||◌}
use Rattle.std.specs.List.{list_any}
use Rattle.std.proofs.lemmas.Bool.{cases_Bool}
use Rattle.genie_frame.specs.declared.frame.Owner.{Owner}
use Rattle.genie_frame.specs.declared.frame.Owner.TheVariants.{Page, System, Pool, Nobody}
use Rattle.genie_frame.specs.FrameTable.{owner_at, counts_at, is_held, is_page}
use Rattle.genie_object.specs.declared.memory.Memory.{Memory}
use Rattle.genie_object.specs.Memory.{entry_frame}
use Rattle.genie_object.specs.Sound.{IsSound}
use Rattle.genie_object.specs.Lemmas.Naming.{named_once}
use Rattle.genie_plan.specs.Lemmas.Landings.{page_in}
use Rattle.genie_region.specs.declared.region.Region.{Region}
use Rattle.genie_model.specs.Lemmas.Lists.{Has, all_has, any_found, find_has, has_any}
use Rattle.genie_kernel.specs.declared.kernel.Kernel.{Kernel}
use Rattle.genie_kernel.specs.declared.transfer.Transfer.{Transfer}
use Rattle.genie_kernel.specs.Calls.{region_number}
use Rattle.genie_kernel.specs.Good.{IsGood}
use Rattle.genie_kernel.specs.Held.{HoldsPages, IsInFrame, PageOf, page_of_loan, region_named, weak_transfers}
use Rattle.genie_kernel.specs.Holding.{HoldsBeside}
use Rattle.genie_kernel.specs.Loans.{frames_of, has_frame}
use Rattle.genie_kernel.specs.Regions.{has_id, owned_regions}
use Rattle.genie_kernel.specs.Lemmas.Staying.{lent_true, pool_same, system_same}
use Rattle.genie_changes.specs.Beginning.{Begins, BeginsInRegion}
use Rattle.genie_changes.specs.Lemmas.Once.{same_number, same_object}
use Rattle.genie_changes.proofs.Premises.{weak_frames_held}

-- an entry's frame is a page's
framed_page : (m : Memory) (o i f : ℕ) → IsSound m → entry_frame m o i ≡ Some f → is_page (owner_at m.frames f) ≡ true
framed_page m o i f s e = let x = page_in m o i f e in ap is_page (s.placed.in_frame x.number.0 (record { 0 = f }) x.is_place)

-- two entries on a frame that a device holds are one
once_held : (m : Memory) (a b o i f : ℕ) → IsSound m → is_held (counts_at m.frames f) ≡ true → entry_frame m a b ≡ Some f → entry_frame m o i ≡ Some f → (a ≡ o) × (b ≡ i)
once_held m a b o i f s held e d =
    let x = page_in m a b f e in
    let y = page_in m o i f d in
    let own = s.placed.in_frame x.number.0 (record { 0 = f }) x.is_place in
    let two : Page x.number.0 ≡ Page y.number.0 = sym own ∙ s.placed.in_frame y.number.0 (record { 0 = f }) y.is_place in
    let number : x.number.0 ≡ y.number.0 = cc in
    let same : x.number ≡ y.number = λ k. record { 0 = number k } in
    named_once m.pages.pages m.objects a b o i x.number s.shared (s.held.alone f x.number.0 own held) x.is_page (y.is_page ∙ ap Some (sym same))

record IsAt (fs : List ℕ) (f : ℕ) : Type 0 where
  at : ℕ
  inside : at < length fs
  is : get_or fs at 0 ≡ f

found_at : (fs : List ℕ) (f : ℕ) → list_any (λ g. g == f) fs ≡ true → IsAt fs f
found_at [] f e = absurd (cc)
found_at (x ∷ fs) f e = elim (x == f) as (λ b. (x == f) ≡ b → (b || list_any (λ g. g == f) fs) ≡ true → IsAt (x ∷ fs) f) [
  | true ↦ λ same h. record { at = 0; inside = omega arith; is = eqb-true x f same }
  | false ↦ λ same h. let later = found_at fs f h in record { at = suc later.at; inside = (let l = later.inside in omega (arith, l)); is = later.is }
] refl e

module _ (k : Kernel) (m : Memory) (r : Region) (t : Transfer) (g : IsGood k) (b : BeginsInRegion k m r t) where
  abbrev rs : List Region
  rs = owned_regions k.spaces.processes

  abbrev page : ℕ
  page = k.config.page

  abbrev fs : List ℕ
  fs = frames_of t.loans

  -- the frames of its loans are those of pages
  of_page : (f : ℕ) → has_frame f t ≡ true → is_page (owner_at m.frames f) ≡ true
  of_page f on = let x = found_at fs f on in framed_page m r.object.0 (t.offset / page + x.at) f b.sound (b.lies.placed x.at x.inside ∙ ap Some x.is)

  not_on : (f : ℕ) (o : Owner) → owner_at m.frames f ≡ o → is_page o ≡ false → has_frame f t ≡ false
  not_on f o is other = ⊎_elim
      (λ (on : has_frame f t ≡ true). let clash : true ≡ false = sym (of_page f on) ∙ ap is_page is ∙ other in absurd (cc))
      (λ off. off)
      (cases_Bool (has_frame f t))

  -- the region that has its number
  found : find (has_id r.id.0) rs ≡ Some r
  found =
      let some = any_found (has_id r.id.0) rs (has_any (has_id r.id.0) r rs b.lies.owned (eq-eqb r.id.0 r.id.0 refl)) in
      let q : Region = some.0 in
      let there = find_has (has_id r.id.0) rs q some.1 in
      some.1 ∙ ap Some (same_number k q r g there.0 b.lies.owned (eqb-true q.id.0 r.id.0 there.1))

  its_region : region_named rs (region_number t) ≡ Some r
  its_region = ap (region_named rs) b.lies.named ∙ found

  in_frame : (j : ℕ) → j < length fs → IsInFrame m (region_named rs (region_number t)) (t.offset / page + j) (get_or fs j 0)
  in_frame j l = subst (λ o. IsInFrame m o (t.offset / page + j) (get_or fs j 0)) (sym its_region) (b.lies.placed j l)

  -- its loans are on different frames
  different : (i j : ℕ) → i < length fs → j < length fs → get_or fs i 0 ≡ get_or fs j 0 → i ≡ j
  different i j l n same =
      let one = once_held m r.object.0 (t.offset / page + i) r.object.0 (t.offset / page + j) (get_or fs j 0) b.sound (b.lies.held j n) (b.lies.placed i l ∙ ap Some same) (b.lies.placed j n) in
      let index = one.1 in
      omega (arith, index)

  module _ (u : Transfer) (there : Has u (weak_transfers k.transfers)) (i : ℕ) (l : i < length (frames_of u.loans)) where
    abbrev fu : ℕ
    fu = get_or (frames_of u.loans) i 0

    was : IsInFrame k.memory (region_named rs (region_number u)) (u.offset / page + i) fu
    was = (all_has (HoldsPages page k.memory rs g.held.page_in g.held.frame_of) (weak_transfers k.transfers) g.held.each u there).held i l

    held : is_held (counts_at k.memory.frames fu) ≡ true
    held = all_has (λ (x : Transfer). (n : ℕ) → n < length (frames_of x.loans) → is_held (counts_at k.memory.frames (get_or (frames_of x.loans) n 0)) ≡ true) (weak_transfers k.transfers) (weak_frames_held k g) u there i l

    -- what an earlier weak transfer holds in a frame it holds there still
    still : (o : Option Region) → IsInFrame k.memory o (u.offset / page + i) fu → IsInFrame m o (u.offset / page + i) fu
    still None e = ⊎_elim (λ same. same ∙ e) (λ (left : (is_page (owner_at k.memory.frames fu) ≡ true) × (owner_at m.frames fu ≡ Nobody)). left.1) (b.keeps.lent fu (lent_true (counts_at k.memory.frames fu) held)).owner
    still (Some q) e = b.keeps.entry_held q.object.0 (u.offset / page + i) fu e held

    number_found : (o : Option ℕ) (q : Region) → region_named rs o ≡ Some q → Has q rs × (o ≡ Some q.id.0)
    number_found None q e = absurd (cc)
    number_found (Some n) q e = let h = find_has (has_id n) rs q e in (h.0, ap Some (sym (eqb-true q.id.0 n h.1)))

    page_same : (j : ℕ) → j < length fs → fu ≡ get_or fs j 0 → (o : Option Region) → region_named rs (region_number u) ≡ o → page_of_loan page u i ≡ page_of_loan page t j
    page_same j n same None e =
        let nobody : owner_at m.frames fu ≡ Nobody = still None (subst (λ o. IsInFrame k.memory o (u.offset / page + i) fu) e was) in
        let paged = framed_page m r.object.0 (t.offset / page + j) fu b.sound (b.lies.placed j n ∙ ap Some (sym same)) in
        let clash : true ≡ false = sym paged ∙ ap is_page nobody in
        absurd (cc)
    page_same j n same (Some q) e =
        let here : entry_frame m q.object.0 (u.offset / page + i) ≡ Some fu = still (Some q) (subst (λ o. IsInFrame k.memory o (u.offset / page + i) fu) e was) in
        let one = once_held m q.object.0 (u.offset / page + i) r.object.0 (t.offset / page + j) (get_or fs j 0) b.sound (b.lies.held j n) (here ∙ ap Some same) (b.lies.placed j n) in
        let number = number_found (region_number u) q e in
        let region = same_object k q r g number.0 b.lies.owned one.0 in
        let named : region_number u ≡ region_number t = number.1 ∙ ap (λ (x : Region). Some x.id.0) region ∙ sym b.lies.named in
        λ z. record { region = named z; index = one.1 z }

    frame_same : (j : ℕ) → j < length fs → page_of_loan page u i ≡ page_of_loan page t j → fu ≡ get_or fs j 0
    frame_same j n same =
        let named : region_number u ≡ region_number t = ap (λ (p : PageOf). p.region) same in
        let index : u.offset / page + i ≡ t.offset / page + j = ap (λ (p : PageOf). p.index) same in
        let here : entry_frame m r.object.0 (u.offset / page + i) ≡ Some fu = still (Some r) (subst (λ o. IsInFrame k.memory o (u.offset / page + i) fu) (ap (region_named rs) named ∙ its_region) was) in
        let both : Some fu ≡ Some (get_or fs j 0) = sym here ∙ ap (entry_frame m r.object.0) index ∙ b.lies.placed j n in
        cc

  beside : HoldsBeside page m rs t (weak_transfers k.transfers)
  beside = record {
    weak = b.lies.weak;
    held = in_frame;
    apart = different;
    same_page = λ u i j there l n same. page_same u there i l j n same (region_named rs (region_number u)) refl;
    same_frame = λ u i j there l n same. frame_same u there i l j n same;
  }

  pub weak_begins : Begins k m t
  weak_begins = record {
    sound = b.sound;
    cached = b.cached;
    guarded = b.guarded;
    places = record { entries = b.keeps.entries; number = b.keeps.number; page = b.keeps.page; slots = b.keeps.slots; most = b.keeps.most };
    entry_held = b.keeps.entry_held;
    lasts = b.keeps.lent;
    lends = b.lends;
    takes = record {
      system = λ f j is. inl (system_same (owner_at m.frames f) (owner_at k.memory.frames f) j (b.keeps.systems f) is, not_on f (System j) is refl);
      pool = λ f d is. (pool_same (owner_at m.frames f) (owner_at k.memory.frames f) d (b.keeps.systems f) is, not_on f (Pool d) is refl);
    };
    holds = inr beside;
    plan = b.plan;
    device = b.device;
  }
