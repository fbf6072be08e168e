-- The end of a weak move input whose bytes are in place.
use Rattle.std.proofs.Common.{◌≡◌, ℕ, ◌+◌, ◌*◌, ◌^◌, ◌<◌, ◌≤◌, true, List, refl, sym, ap, subst, arith, ◌∙◌, map, eqb-true}
use Rattle.std.specs.Prelude.{Option, Some, None, All, find}
use Rattle.genie_base.specs.declared.event.Event.TheVariants.{Finish}
use Rattle.genie_base.specs.declared.region.Area.{Area}
use Rattle.genie_base.specs.declared.region.Area.TheVariants.{App, Sys}
use Rattle.genie_base.specs.declared.region.RegionState.TheVariants as state
use Rattle.genie_base.specs.declared.reply.Reply.{Reply}
use Rattle.genie_base.specs.declared.reply.Reply.TheVariants as reply
use Rattle.genie_base.specs.declared.semantics.Class.TheVariants.{WeakMove}
use Rattle.genie_frame.specs.FrameTable.{FrameTable, IsShaped, AreLoansOwned}
use Rattle.genie_object.specs.Lemmas.Works.{page_most}
use Rattle.genie_region.specs.declared.region.Region.{Region}
use Rattle.genie_model.specs.Ending.{without_transfer, finish}
use Rattle.genie_model.specs.Lemmas.Lists.{Has, all_has, at_entry, find_has, has_map}
use Rattle.genie_model.specs.Pending.{is_ready}
use Rattle.genie_model.specs.Refusing.{refuse}
use Rattle.genie_model.specs.Regions as model
use Rattle.genie_model.specs.Space.{tidy}
use Rattle.genie_model.specs.State as flat
use Rattle.genie_model.specs.Tables.{entry}
use Rattle.genie_orderly.specs.Orderly.{IsIn, IsOrderly, IsRegion}
use Rattle.genie_kernel.specs.declared.kernel.Kernel.{Kernel}
use Rattle.genie_kernel.specs.declared.transfer.Transfer.{Transfer}
use Rattle.genie_kernel.specs.Calls.{has_number, region_number}
use Rattle.genie_kernel.specs.Good.{IsGood}
use Rattle.genie_kernel.specs.Regions.{has_id, region_view, regions_of}
use Rattle.genie_kernel.specs.Steps.{Steps, bytes_over}
use Rattle.genie_kernel.specs.View.{Bytes, state_of, outline, no_bytes}
use Rattle.genie_kernel.specs.Lemmas.Processes.{regions_view}
use Rattle.genie_changes.specs.Ending.{IsGivenBack}
use Rattle.genie_changes.specs.Settled.{IsSettled}
use Rattle.genie_arrivals.specs.declared.owned.OwnedRegion.{OwnedRegion}
use Rattle.genie_arrivals.specs.Cases.{IsInputOf}
use Rattle.genie_arrivals.specs.EndLaws.{EndLaws}
use Rattle.genie_arrivals.specs.Ends.{EndsAlone}
use Rattle.genie_arrivals.specs.Live.{ChangeLaws, lively}
use Rattle.genie_arrivals.specs.Owners.{IsNamed}
use Rattle.genie_arrivals.proofs.Lively.{found_everywhere, live_good, live_state}
use Rattle.genie_arrivals.proofs.Quiet.{less, less_kept, less_settled, less_shown, less_sized, outline_less}
use Rattle.genie_arrivals.proofs.Replying.{outcome, quiet_steps, weak_moved}

-- a region of a process ends by page 1,024
in_area : (a : Area) (start pages : ℕ) → IsIn a start pages → start + pages ≤ 1024
in_area App start pages h = omega (arith, h)
in_area Sys start pages h = h.1

pub region_in : (k : Kernel) (p : ℕ) (rs : List Region) (r : Region) → IsGood k → entry k.spaces.processes p ≡ Some rs → Has r rs → IsRegion k.config.page (region_view (no_bytes k.config.page).seen.entry_bytes r)
region_in k p rs r g there h =
    let page = k.config.page in
    let s = (no_bytes page).seen.entry_bytes in
    let at : All (IsRegion page) (model.regions_of (entry (outline k).processes p)) = at_entry (λ (o : Option flat.Process). All (IsRegion page) (model.regions_of o)) (outline k).processes p (λ j d l. absurd (omega (arith, l))) (λ j d l. (g.orderly.regions j d l).each) in
    let each : All (IsRegion page) (map (region_view s) rs) = subst (All (IsRegion page)) (regions_view s k.spaces.processes k.queues p ∙ ap (λ (o : Option (List Region)). map (region_view s) (regions_of o)) there) at in
    all_has (IsRegion page) (map (region_view s) rs) each (region_view s r) (has_map (region_view s) r rs h)

-- so its address is a small number
pub low_address : (k : Kernel) (p page : ℕ) (rs : List Region) (r : Region) → IsGood k → entry k.spaces.processes p ≡ Some rs → Has r rs → page ≡ k.config.page → r.start * page < 2 ^ 32
low_address k p page rs r g there h is =
    let lies = in_area r.area r.start r.pages (region_in k p rs r g there h).area in
    let most = page_most k.memory.frames.page g.sound.shaped.size in
    let below : r.start ≤ 1024 = omega (arith, lies) in
    let short : page ≤ 4096 = omega (arith, most, is, g.sized.page) in
    small r.start page below short
  where
    small : (a b : ℕ) → a ≤ 1024 → b ≤ 4096 → a * b < 2 ^ 32
    small a b l m = let c = product a b 1024 4096 l m in omega (arith, c)
      where
        product : (a b c d : ℕ) → a ≤ c → b ≤ d → a * b ≤ c * d
        product a b c d l m = grind arith

-- what is known of the region that a transfer names
pub record IsHad (k : Kernel) (t : Transfer) (o : OwnedRegion) : Type 0 where
  pub regions : List Region
  pub there : entry k.spaces.processes o.pid ≡ Some regions
  pub found : find (has_id o.region.id.0) regions ≡ Some o.region
  pub names : region_number t ≡ Some o.region.id.0

pub is_had : (k : Kernel) (t : Transfer) (o : OwnedRegion) → IsNamed k.spaces t o → IsHad k t o
is_had k t o h = elim (entry k.spaces.processes o.pid) as (λ e. entry k.spaces.processes o.pid ≡ e → find (has_id h.number) (regions_of e) ≡ Some o.region → IsHad k t o) [
  | None ↦ λ is f. absurd (cc)
  | Some rs ↦ λ is f.
      let has = find_has (has_id h.number) rs o.region f in
      let number : o.region.id.0 ≡ h.number = eqb-true o.region.id.0 h.number has.1 in
      record { regions = rs; there = is; found = subst (λ j. find (has_id j) rs ≡ Some o.region) (sym number) f; names = h.names ∙ ap Some (sym number) }
] refl h.owner.found

module _ (laws : EndLaws) (change : ChangeLaws) (k : Kernel) (n q : ℕ) (t : Transfer) (o : OwnedRegion) (g : IsGood k) (found : find (has_number n) k.transfers ≡ Some t) (ready : is_ready t.phase ≡ true) (F : FrameTable) (shaped : IsShaped F.page F.owners F.counts F.bytes) (owned : AreLoansOwned F.owners F.counts) (back : IsGivenBack t k.memory.frames F) (is : IsInputOf WeakMove k.devices t) (owner : t.owner ≡ Some q) (had : IsHad k t o) (accepted : refuse (outline k) (Finish n) ≡ None) where
  abbrev mid : Kernel
  mid = less laws k n t g found ready F shaped owned back is.early

  abbrev new : Kernel
  new = lively mid o.pid o.region.id.0 had.regions

  abbrev answer : Reply
  answer = reply.Input (Some (o.region.start * k.config.page)) t.stored t.note

  mid_settled : IsSettled mid
  mid_settled = less_settled laws k n t g found ready F shaped owned back is.early

  live_of : (b : Bytes) → state_of new b ≡ model.change_region (state_of mid b) o.region.id.0 (model.with_state state.Live)
  live_of b = live_state change mid mid_settled o.pid had.regions o.region had.there had.found b

  fin : (b : Bytes) → finish (state_of k b) n ≡ outcome (model.change_region (without_transfer (state_of k b) n) o.region.id.0 (model.with_state state.Live)) answer
  fin b = weak_moved k b n q t o.region found owner is.inward is.class_is is.early had.names (found_everywhere change mid mid_settled o.pid had.regions o.region had.there had.found)

  steps : (b d : Bytes) → state_of mid d ≡ tidy (without_transfer (state_of k b) n) → Steps (state_of k b) (Finish n) (state_of new d) answer
  steps b d shown = quiet_steps (state_of k b) (state_of new d) n answer (model.change_region (without_transfer (state_of k b) n) o.region.id.0 (model.with_state state.Live)) (fin b) refl (live_of d ∙ ap (λ (s : flat.State). model.change_region s o.region.id.0 (model.with_state state.Live)) shown)

  orderly : IsOrderly (outline new)
  orderly = laws.orderly (outline k) (outline new) (Finish n) answer refl accepted (steps (no_bytes k.config.page) (no_bytes k.config.page) (outline_less laws k n t g found ready mid.memory)) g.orderly

  pub moves_quietly : EndsAlone k n new answer
  moves_quietly =
      let kept = less_kept laws k n t g found ready F shaped owned back is.early in
      record {
        good = live_good change mid mid_settled o.pid had.regions o.region had.there had.found orderly;
        sized = less_sized laws k n t g found ready F shaped owned back is.early;
        kept = record { lent = λ m f u v p. kept.lent m f u v (record { was = p.was; is = p.is }); pooled = kept.pooled; fresh = λ m f u v p. kept.fresh m f u v (record { was = p.was; is = p.is }) };
        step = λ slots rests sents. steps (bytes_over k.memory slots rests sents) (bytes_over mid.memory slots rests sents) (less_shown laws k n t g found ready F shaped owned back is.early slots rests sents);
        config = refl;
        numbers = refl;
        unfailed = refl;
        meters = back.loans.meters ∙ back.wires.only.meters;
        landed = back.loans.landed ∙ back.wires.only.landed;
      }
