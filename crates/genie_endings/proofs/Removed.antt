-- A posted move input that is taken back.
use Rattle.std.proofs.Common.{◌≡◌, ℕ, Bool, true, false, List, refl, ap, subst, sym, arith, ◌∙◌, inl, inr, ⊎_elim, map, find}
use Rattle.std.specs.Prelude.{Some, None, count_by, sum_by, not, ◌&&◌}
use Rattle.std.specs.List.{list_any}
use Rattle.std.proofs.lemmas.Bool.{cases_Bool}
use Rattle.genie_base.specs.Lemmas.Places.{num}
use Rattle.genie_base.specs.declared.event.Event.TheVariants.{Cancel}
use Rattle.genie_base.specs.declared.region.RegionState.TheVariants.{Held}
use Rattle.genie_base.specs.declared.reply.Reply.{Reply}
use Rattle.genie_base.specs.declared.reply.Reply.TheVariants as reply
use Rattle.genie_base.specs.declared.semantics.Class.{Class}
use Rattle.genie_base.specs.declared.semantics.Class.TheVariants.{Move}
use Rattle.genie_frame.specs.declared.frame.Owner.{Owner}
use Rattle.genie_frame.specs.declared.frame.Owner.TheVariants.{Nobody}
use Rattle.genie_frame.specs.FrameTable.{FrameTable, owner_at}
use Rattle.genie_region.specs.declared.region.Region.{Region}
use Rattle.genie_model.specs.Ending.{without_transfer}
use Rattle.genie_model.specs.Lemmas.Lists.{find_has, has_any, has_map, none_from}
use Rattle.genie_model.specs.Pending.{is_numbered, names, names_weakly as model_names}
use Rattle.genie_model.specs.Refusing.{refuse}
use Rattle.genie_model.specs.Regions.{change_process}
use Rattle.genie_model.specs.Space.{is_move, without_region}
use Rattle.genie_model.specs.State as flat
use Rattle.genie_model.specs.Tables.{without}
use Rattle.genie_orderly.specs.Orderly.{moves_into}
use Rattle.genie_kernel.specs.declared.kernel.Kernel.{Kernel}
use Rattle.genie_kernel.specs.declared.transfer.Transfer.{Transfer}
use Rattle.genie_kernel.specs.Calls.{has_number, is_named, is_strong_call, names_weakly}
use Rattle.genie_kernel.specs.Good.{IsGood}
use Rattle.genie_kernel.specs.Kept.{Kept, KeepsOwner}
use Rattle.genie_kernel.specs.Regions.{region_view}
use Rattle.genie_kernel.specs.Steps.{Steps, bytes_over}
use Rattle.genie_kernel.specs.View.{Bytes, state_of, outline, no_bytes}
use Rattle.genie_kernel.specs.Lemmas.Beside.{map_without, sum_beside}
use Rattle.genie_kernel.specs.Lemmas.Blind.{sum_map}
use Rattle.genie_kernel.specs.Lemmas.Staying.{at_least}
use Rattle.genie_kernel.specs.Lemmas.Tidying.{any_map}
use Rattle.genie_changes.specs.Ending.{ShowsOthers}
use Rattle.genie_changes.specs.Removal.{RemovesRegion}
use Rattle.genie_changes.specs.Unnamed.{ShowsOtherRegions}
use Rattle.genie_endings.specs.EndingLaws.{EndingLaws, RemovalLaws}
use Rattle.genie_endings.specs.Ends.{EndsCall}
use Rattle.genie_endings.specs.Named.{named}
use Rattle.genie_endings.specs.Serving.{IsServed}
use Rattle.genie_endings.specs.declared.region.Placed.{Placed}
use Rattle.genie_endings.proofs.Filled.{IsNamed, named_true}
use Rattle.genie_endings.proofs.Served.{still_sized}
use Rattle.genie_endings.proofs.GivenUp.{IsOf, cancelled, gives_up, gone_state, is, is_class, kept, left, mid_is, settled}
use Rattle.genie_endings.proofs.Phases.{seen_as}

owner_kept : (a b c : Owner) → KeepsOwner a b → KeepsOwner b c → KeepsOwner a c
owner_kept a b c first second = record {
  owner = ⊎_elim (λ (same : c ≡ b). ⊎_elim (λ (was : b ≡ a). inl (same ∙ was)) (λ (nobody : b ≡ Nobody). inr (same ∙ nobody)) first.owner) (λ (nobody : c ≡ Nobody). inr nobody) second.owner;
  unfreed = second.unfreed;
}

weakly_named : (j : ℕ) (u : Transfer) → names_weakly j u ≡ true → is_named u.region j ≡ true
weakly_named j u e = second (not (is_strong_call u)) (is_named u.region j) e where
  second : (b c : Bool) → (b && c) ≡ true → c ≡ true
  second true c h = h
  second false c h = absurd (cc)

module _ (laws : EndingLaws) (removals : RemovalLaws) (k mid new : Kernel) (n : ℕ) (t : Transfer) (g : IsGood k) (h : refuse (outline k) (Cancel n) ≡ None) (moves : IsOf Move (find (has_number n) k.transfers)) (ends : EndsCall n k mid t) (x : Placed) (named_some : named (cancelled mid n).spaces t.owner t.region ≡ Some x) (removes : RemovesRegion x.pid x.region (cancelled mid n) new) where
  abbrev r : Region
  r = x.region

  abbrev without_it : Kernel
  without_it = left laws k mid n t Move Held refl g h moves ends

  abbrev us : List Transfer
  us = without (has_number n) k.transfers

  same : cancelled mid n ≡ without_it
  same = mid_is laws k mid n t Move Held refl g h moves ends

  removes_left : RemovesRegion x.pid r without_it new
  removes_left = subst (λ (j : Kernel). RemovesRegion x.pid r j new) same removes

  named_as : IsNamed k.spaces.processes t.owner t.region x.pid r
  named_as = is laws k mid n t Move Held refl g h moves ends x named_some

  -- no other transfer names the region
  abbrev names_it : Transfer → ℕ
  names_it u = num (is_named u.region r.id.0)

  unnamed : list_any (names_weakly r.id.0) us ≡ false
  unnamed =
      let see : Transfer → flat.Transfer = seen_as k (no_bytes k.config.page) in
      let there = (find_has (has_number n) k.transfers t ends.found).0 in
      let named : is_named t.region r.id.0 ≡ true = named_true t.region r.id.0 named_as.number in
      let into : moves_into r.id.0 (see t) ≡ true = ap (λ (c : Class). is_move c && is_named t.region r.id.0) (is_class laws k mid n t Move Held refl g h moves ends) ∙ named in
      let some : list_any (moves_into r.id.0) (outline k).transfers ≡ true = has_any (moves_into r.id.0) (see t) (outline k).transfers (has_map see t k.transfers there) into in
      let most = g.orderly.holds.one r.id.0 some in
      let counted : count_by (names r.id.0) (outline k).transfers ≡ sum_by names_it k.transfers = sum_map (λ (u : flat.Transfer). num (names r.id.0 u)) see k.transfers in
      let one : names_it t ≡ 1 = ap num named in
      let none : sum_by names_it us ≡ 0 = omega (arith, most, counted, one, sum_beside (has_number n) t names_it k.transfers ends.found) in
      none_from (names_weakly r.id.0) us (λ u among. ⊎_elim
      (λ (yes : names_weakly r.id.0 u ≡ true).
      let by = weakly_named r.id.0 u yes in
      let here : names_it u ≡ 1 = ap num by in
      absurd (omega (arith, none, here, at_least names_it us u among)))
      (λ no. no)
      (cases_Bool (names_weakly r.id.0 u)))

  unnamed_seen : (b : Bytes) → list_any (model_names r.id.0) (without_transfer (state_of k b) n).transfers ≡ false
  unnamed_seen b =
      ap (list_any (model_names r.id.0)) (sym (map_without (has_number n) (is_numbered n) (seen_as k b) (λ u. refl) k.transfers))
      ∙ any_map (model_names r.id.0) (seen_as k b) us
      ∙ unnamed

  steps : (old mids news : Bytes) → ShowsOthers k n old mids → ShowsOtherRegions r without_it mids news → Steps (state_of k old) (Cancel n) (state_of new news) reply.Okay
  steps old mids news shows leaves =
      let does = gives_up laws k mid n t Move Held refl g h moves ends x named_some old in
      record {
        state = removals.state x.pid r without_it new mids news removes_left (settled laws k mid n t Move Held refl g h moves ends) unnamed leaves
            ∙ ap (λ (s : flat.State). record s { processes = map (change_process (without_region r.id.0)) s.processes }) (gone_state laws k mid n t Move Held refl g h moves ends old mids shows)
            ∙ sym (removals.removal (without_transfer (state_of k old) n) (region_view old.seen.entry_bytes r) (unnamed_seen old))
            ∙ sym (ap (λ (o : flat.State × Reply). o.0) does);
        reply_is = sym (ap (λ (o : flat.State × Reply). o.1) does);
      }

  page_same : new.config.page ≡ k.config.page
  page_same = ap (λ (j : Kernel). j.config.page) removes_left.left

  keeps_all : Kept k new
  keeps_all =
      let first : Kept k without_it = kept laws k mid n t Move Held refl g h moves ends in
      let second : Kept without_it new = removals.keeps x.pid r without_it new removes_left (settled laws k mid n t Move Held refl g h moves ends) in
      let transfers : new.transfers ≡ us = ap (λ (j : Kernel). j.transfers) removes_left.left in
      let pools : new.pools ≡ k.pools = ap (λ (j : Kernel). j.pools) removes_left.left in
      record {
        lent = λ j f a b y on still.
            let now : find (has_number j) us ≡ Some b = ap (find (has_number j)) (sym transfers) ∙ y.is in
            owner_kept (owner_at k.memory.frames f) (owner_at mid.memory.frames f) (owner_at new.memory.frames f) (first.lent j f a b (record { was = y.was; is = now }) on still) (second.lent j f b b (record { was = now; is = y.is }) still still);
        pooled = λ d f on still.
            owner_kept (owner_at k.memory.frames f) (owner_at mid.memory.frames f) (owner_at new.memory.frames f) (first.pooled d f on on) (second.pooled d f on still);
        fresh = λ j f a b y unready on. first.fresh j f a b (record { was = y.was; is = ap (find (has_number j)) (sym transfers) ∙ y.is }) unready on;
      }

  pub removed_served : IsServed k (Cancel n) new reply.Okay
  removed_served =
      let whole = settled laws k mid n t Move Held refl g h moves ends in
      let z = no_bytes k.config.page in
      let outlines : Steps (outline k) (Cancel n) (outline new) reply.Okay = subst (λ p. Steps (outline k) (Cancel n) (state_of new (no_bytes p)) reply.Okay) (sym page_same) (steps z z z (laws.outlines k n) (removals.outlines r without_it)) in
      let good : IsGood new = laws.good new (removals.settles x.pid r without_it new removes_left whole) (laws.orderly (outline k) (outline new) (Cancel n) reply.Okay refl h outlines g.orderly) in
      record {
        good = good;
        sized = still_sized k new g good (ap (λ (j : Kernel). j.config) removes_left.left);
        step = λ slots rests sents. steps (bytes_over k.memory slots rests sents) (bytes_over (record (k.memory) { frames = mid.memory.frames }) slots rests sents) (bytes_over new.memory slots rests sents) (laws.shown k (record (k.memory) { frames = mid.memory.frames }) n t slots rests sents (laws.settled k g) ends.leaves) (removals.shows x.pid r without_it new slots rests sents removes_left whole);
        kept = keeps_all;
        config = ap (λ (j : Kernel). j.config) removes_left.left;
        numbers = ap (λ (j : Kernel). j.next) removes_left.left;
        unfailed = refl;
        meters = ap (λ (f : FrameTable). f.meters) removes_left.object.frames ∙ ends.back.loans.meters ∙ ends.back.wires.only.meters;
        landed = ap (λ (f : FrameTable). f.landed) removes_left.object.frames ∙ ends.back.loans.landed ∙ ends.back.wires.only.landed;
      }
