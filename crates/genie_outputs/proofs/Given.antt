-- The region of a call that gives it up, and what an output call leaves whose region is moved out.
use Rattle.std.proofs.Common.{◌≡◌, ℕ, ◌<◌, zero, suc, Bool, true, false, not, List, [], ◌∷◌, refl, sym, ap, subst, arith, ◌∙◌, ⊎_elim, inl, inr, length, map, get_or, eqb-true, eq-eqb}
use Rattle.std.specs.Prelude.{Option, Some, None, IfSome, ⊤, find, is_some, count_by, ◌&&◌, ◌||◌, ◌==◌}
use Rattle.std.specs.List.{list_any}
use Rattle.std.specs.Option.{option_map}
use Rattle.std.proofs.lemmas.Bool.{and_parts, cases_Bool}
use Rattle.std.proofs.lemmas.List.{length-map}
use Rattle.std.proofs.lemmas.List.Sums.{sum_by-cons}
use Rattle.genie_base.specs.Lemmas.Places.{num}
use Rattle.genie_base.specs.Regions.{is_reached}
use Rattle.genie_base.specs.Transfers.{class_of, is_strong, is_system}
use Rattle.genie_base.specs.declared.refusal.Refusal.TheVariants as cause
use Rattle.genie_base.specs.declared.region.RegionState.{RegionState}
use Rattle.genie_base.specs.declared.region.RegionState.TheVariants.{Live, Out, In, Held}
use Rattle.genie_base.specs.declared.reply.Reply.TheVariants as reply
use Rattle.genie_base.specs.declared.semantics.Class.{Class}
use Rattle.genie_base.specs.declared.semantics.Class.TheVariants.{WeakMove}
use Rattle.genie_hiding.specs.Queues.{is_in, is_number}
use Rattle.genie_store.specs.StoreView.{StoreView}
use Rattle.genie_object.specs.declared.memory.Memory.{Memory}
use Rattle.genie_object.specs.declared.objects.Range.{Range}
use Rattle.genie_object.specs.Memory.{seen}
use Rattle.genie_object.specs.Lemmas.Lookup.{count_none}
use Rattle.genie_plan.specs.declared.plan.OutPlan.{OutPlan}
use Rattle.genie_region.specs.declared.region.Region.{Region}
use Rattle.genie_region.specs.Layouts.{extent}
use Rattle.genie_orderly.specs.Orderly.{ListsOut, is_out, is_out_region}
use Rattle.genie_model.specs.Outputs.{give_up, output_of}
use Rattle.genie_model.specs.Outputs as model
use Rattle.genie_model.specs.Pending.{add_transfer}
use Rattle.genie_model.specs.Refusing.{causes, is_live, may_move, refuse}
use Rattle.genie_model.specs.Regions.{reach_of}
use Rattle.genie_model.specs.State as flat
use Rattle.genie_model.specs.Tables.{entry}
use Rattle.genie_model.specs.Lemmas.Causes.{none_holds}
use Rattle.genie_model.specs.Lemmas.Lists.{Has, any_found, find_has, has_any, has_at, has_left, has_right}
use Rattle.genie_kernel.specs.declared.kernel.Kernel.{Kernel}
use Rattle.genie_kernel.specs.declared.transfer.Transfer.{Transfer}
use Rattle.genie_kernel.specs.Good.{IsGood}
use Rattle.genie_kernel.specs.Kept.{Kept}
use Rattle.genie_kernel.specs.Regions.{has_id, owned_regions, process_view, region_view, regions_of}
use Rattle.genie_kernel.specs.Steps.{Steps}
use Rattle.genie_kernel.specs.View.{Bytes, state_of, outline, no_bytes}
use Rattle.genie_kernel.specs.Lemmas.Processes.{process_entry}
use Rattle.genie_changes.specs.MovingOut.{moved_out}
use Rattle.genie_changes.specs.Lemmas.Once.{same_number}
use Rattle.genie_outputs.specs.declared.call.Call.{Call}
use Rattle.genie_outputs.specs.Answering.{IsAnswered, IsReady}
use Rattle.genie_outputs.specs.Calls.{Reaches, event_of, transfer_of, with_output}
use Rattle.genie_outputs.specs.GivingUp.{MovingLaws}
use Rattle.genie_outputs.specs.OutputLaws.{OutputLaws}
use Rattle.genie_outputs.specs.Sharing.{IsShared}
use Rattle.genie_outputs.proofs.Answered.{answered_by, good_by, nothing_asked, over}
use Rattle.genie_outputs.proofs.Loaned.{mapped_at, new_output}
use Rattle.genie_outputs.proofs.Reached.{may_output, reach_view, reached_owned}
use Rattle.genie_outputs.proofs.Shared.{weak_shows, weak_told}
use Rattle.genie_outputs.proofs.Shown.{Shows}
use Rattle.genie_outputs.proofs.Stepping.{state_with, steps_to}

both_true : (a b : Bool) → a ≡ true → (a && not b) ≡ false → b ≡ true
both_true true true e h = refl
both_true true false e h = absurd (cc)
both_true false b e h = absurd (cc)

-- a region that is given up is neither moved out nor moved into
pub live_region : (k : Kernel) (c : Call) (r : Region) → is_system (class_of c.sem) ≡ true → refuse (outline k) (event_of c) ≡ None → Reaches k c r → is_live r.state ≡ true
live_region k c r system accepted reached =
    let b = no_bytes k.config.page in
    let found : reach_of (outline k) c.pid c.addr c.len ≡ Some (region_view b.seen.entry_bytes r) = reach_view k b c.pid c.addr c.len ∙ ap (option_map (region_view b.seen.entry_bytes)) reached in
    let may = both_true (is_system (class_of c.sem)) (may_move (reach_of (outline k) c.pid c.addr c.len)) system (none_holds (causes (outline k) (event_of c)) accepted 4 (true, cause.Proc) (omega arith)) in
    (and_parts _ (is_live r.state) (sym (ap may_move found) ∙ may)).1

live_not_out : (s : RegionState) → is_live s ≡ true → is_out s ≡ false
live_not_out Live e = refl
live_not_out Out e = absurd (cc)
live_not_out In e = refl
live_not_out Held e = refl

-- the regions of the process, among which it is
pub record IsAmong (k : Kernel) (p : ℕ) (r : Region) : Type 0 where
  pub regions : List Region
  pub there : entry k.spaces.processes p ≡ Some regions
  pub has : Has r regions

pub among_its : (k : Kernel) (c : Call) (r : Region) → Reaches k c r → IsAmong k c.pid r
among_its k c r reached = by (entry k.spaces.processes c.pid) refl (find_has (λ (q : Region). is_reached k.config.page c.addr c.len (extent q)) (regions_of (entry k.spaces.processes c.pid)) r reached).0
  where
    by : (o : Option (List Region)) → entry k.spaces.processes c.pid ≡ o → Has r (regions_of o) → IsAmong k c.pid r
    by None e h = absurd h
    by (Some rs) e h = record { regions = rs; there = e; has = h }

has_owned : (r : Region) (ps : List (Option (List Region))) (p : ℕ) (rs : List Region) → entry ps p ≡ Some rs → Has r rs → Has r (owned_regions ps)
has_owned r [] p rs e h = absurd (cc)
has_owned r (x ∷ ps) zero rs e h = has_left r (regions_of x) (owned_regions ps) (subst (λ o. Has r (regions_of o)) (sym e) h)
has_owned r (x ∷ ps) (suc p) rs e h = has_right r (regions_of x) (owned_regions ps) (has_owned r ps p rs e h)

-- a process that is there has a number below 16
place_there : {X : Type 0} (xs : List (Option X)) (p : ℕ) → is_some (entry xs p) ≡ true → p < length xs
place_there [] p e = absurd (cc)
place_there (x ∷ xs) zero e = omega arith
place_there (x ∷ xs) (suc p) e = let l = place_there xs p e in omega (arith, l)

pub process_number : (k : Kernel) (c : Call) → IsGood k → refuse (outline k) (event_of c) ≡ None → c.pid < 16
process_number k c g accepted = let l = place_there k.spaces.processes c.pid (may_output k c accepted).alive in let size = g.spaced.processes in omega (arith, l, size)

-- the region is found by its number
pub found_region : (k : Kernel) (c : Call) (r : Region) → IsGood k → Reaches k c r → find (has_id r.id.0) (regions_of (entry k.spaces.processes c.pid)) ≡ Some r
found_region k c r g reached =
    let x = among_its k c r reached in
    let some = any_found (has_id r.id.0) x.regions (has_any (has_id r.id.0) r x.regions x.has (eq-eqb r.id.0 r.id.0 refl)) in
    let q : Region = some.0 in
    let h = find_has (has_id r.id.0) x.regions q some.1 in
    let same = same_number k q r g (has_owned q k.spaces.processes c.pid x.regions x.there h.0) (reached_owned k c r reached) (eqb-true q.id.0 r.id.0 h.1) in
    ap (λ (o : Option (List Region)). find (has_id r.id.0) (regions_of o)) x.there ∙ some.1 ∙ ap Some same

count_there : {X : Type 0} (q : X → Bool) (xs : List X) (x : X) → Has x xs → q x ≡ true → 0 < count_by q xs
count_there q [] x h e = absurd h
count_there q (y ∷ ys) x (inl same) e = let one : num (q y) ≡ 1 = ap num (ap q same ∙ e) in omega (arith, one, sum_by-cons (λ z. num (q z)) y ys)
count_there q (y ∷ ys) x (inr h) e = omega (arith, count_there q ys x h e, sum_by-cons (λ z. num (q z)) y ys)

none_counted : (n : ℕ) (ms : List ℕ) → count_by (λ m. m == n) ms ≡ 0 → list_any (is_number n) ms ≡ false
none_counted n [] e = refl
none_counted n (m ∷ ms) e = elim (m == n) as (λ b. (m == n) ≡ b → (b || list_any (is_number n) ms) ≡ false) [
  | true ↦ λ is. let one : num (m == n) ≡ 1 = ap num is in absurd (omega (arith, one, e, sum_by-cons (λ (z : ℕ). num (z == n)) m ms))
  | false ↦ λ is. let none : num (m == n) ≡ 0 = ap num is in none_counted n ms (omega (arith, none, e, sum_by-cons (λ (z : ℕ). num (z == n)) m ms))
] refl

module _ (k : Kernel) (c : Call) (r : Region) (g : IsGood k) (reached : Reaches k c r) (live : is_live r.state ≡ true) where
  abbrev s : ℕ → ℕ → List ℕ
  s = (no_bytes k.config.page).seen.entry_bytes

  -- there is room for it in the weak queue, which doesn't list it
  pub queue_room : MovingLaws → length (get_or k.queues c.pid []) < 32
  queue_room moving =
      let x = among_its k c r reached in
      let few = moving.queues k c.pid x.regions g x.there in
      let one = count_there (λ (q : Region). not (is_out q.state)) x.regions r x.has (ap not (live_not_out r.state live)) in
      omega (arith, few, one)

  not_listed : (rs : List Region) → entry k.spaces.processes c.pid ≡ Some rs → (j : ℕ) → j < length (map (region_view s) rs) → is_out_region r.id.0 (get_or (map (region_view s) rs) j (region_view s r)) ≡ false
  not_listed rs there j l =
      let q : Region = get_or rs j r in
      let at : get_or (map (region_view s) rs) j (region_view s r) ≡ region_view s q = mapped_at (region_view s) rs j r in
      let inside : j < length rs = (let long = length-map rs (region_view s) in omega (arith, l, long)) in
      let owned = has_owned q k.spaces.processes c.pid rs there (has_at rs j r inside) in
      ap (is_out_region r.id.0) at ∙ ⊎_elim
      (λ (same : (q.id.0 == r.id.0) ≡ true).
      let one : q ≡ r = same_number k q r g owned (reached_owned k c r reached) (eqb-true q.id.0 r.id.0 same) in
      let state : is_out q.state ≡ false = ap (λ (z : Region). is_out z.state) one ∙ live_not_out r.state live in
      (λ i. same i && state i))
      (λ other. ap (λ b. b && is_out q.state) other)
      (cases_Bool (q.id.0 == r.id.0))

  pub unlisted : is_in r.id.0 (get_or k.queues c.pid []) ≡ false
  unlisted =
      let x = among_its k c r reached in
      let rs = x.regions in
      let row : entry (outline k).processes c.pid ≡ Some (record { queue = get_or k.queues c.pid []; regions = map (region_view s) rs }) = process_entry s k.spaces.processes k.queues c.pid ∙ ap (λ o. process_view s o (get_or k.queues c.pid [])) x.there in
      let lists : ListsOut (record { queue = get_or k.queues c.pid []; regions = map (region_view s) rs }) = subst (λ o. IfSome o ListsOut) row (g.orderly.weak c.pid) in
      let none = count_none (is_out_region r.id.0) (region_view s r) (map (region_view s) rs) (not_listed rs x.there) in
      none_counted r.id.0 (get_or k.queues c.pid []) (lists r.id.0 ∙ none)

kept_out : (k mid : Kernel) (p : ℕ) (r : Region) → Kept k mid → Kept k (moved_out mid p r.id)
kept_out k mid p r x = record { lent = λ n f t u q. x.lent n f t u (record { was = q.was; is = q.is }); pooled = x.pooled; fresh = λ n f t u q. x.fresh n f t u (record { was = q.was; is = q.is }) }

module _ (laws : OutputLaws) (moving : MovingLaws) (k : Kernel) (m : Memory) (c : Call) (r : Region) (range : Range) (plan : OutPlan) (v w : StoreView) (x : IsReady k c r range v) (class : class_of c.sem ≡ WeakMove) (shared : IsShared k m c r plan v w) where
  abbrev mid : Kernel
  mid = with_output k m c r plan

  abbrev final : Kernel
  final = moved_out mid c.pid r.id

  abbrev its : IsAmong k c.pid r
  its = among_its k c r x.reached

  weak : is_strong (class_of c.sem) ≡ false
  weak = ap is_strong class

  out_step : (b new : Bytes) → Shows k c r plan b.seen new.seen → new.rests ≡ b.rests → new.sents ≡ b.sents → Steps (state_of k b) (event_of c) (state_of final new) (reply.Id k.next)
  out_step b new shows rests sents =
      let view_of : flat.Region = region_view b.seen.entry_bytes r in
      let waits : flat.State = add_transfer (state_of k b) (output_of (state_of k b) c.pid (class_of c.sem) (record { device = c.dev; port = c.port; flow = c.flow }) c.addr c.len (Some view_of)) in
      let named = has_any (has_id r.id.0) r its.regions its.has (eq-eqb r.id.0 r.id.0 refl) in
      let only = moving.only k c.pid r.id.0 x.good (ap (λ (o : Option (List Region)). list_any (has_id r.id.0) (regions_of o)) its.there ∙ named) in
      let size = x.good.spaced.queue_places in
      let number = process_number k c x.good x.accepted in
      let state = moving.state mid c.pid r.id its.regions new its.there named only (omega (arith, size, number)) in
      steps_to k final c r b new x.reached (state ∙ ap (λ (z : flat.State). model.moved_out z r.id.0) (state_with k c r plan b new shows laws x.good x.reached m rests sents) ∙ ap (λ (z : Class). give_up waits z (Some view_of)) (sym class))

  pub moved_out_answered : (new : Kernel) → new ≡ final → w.faults ≡ v.faults → IsAnswered k c new v w (reply.Id k.next)
  moved_out_answered new is same =
      let t : Transfer = transfer_of k c r plan in
      let none = no_bytes k.config.page in
      let parts = moving.parts mid c.pid r.id its.regions its.there (laws.parts k m t x.good (new_output k c r plan) shared.begins) in
      let good = good_by laws k m c r range plan v w x final parts (out_step none none (weak_shows k c r plan none.seen weak) refl refl) in
      subst (λ z. IsAnswered k c z v w (reply.Id k.next)) (sym is)
      (answered_by laws k m c r range plan v w x final (λ slots. ⊤) refl refl good (kept_out k mid c.pid r (laws.kept k m t x.good shared.begins)) shared.sized same (λ a d rs ss shows so. out_step (over (seen k.memory a) rs ss) (over (seen m d) rs ss) shows refl refl) (nothing_asked w.slots) (weak_told k m c r plan v w weak shared.shows))
