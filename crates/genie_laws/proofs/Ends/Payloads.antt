-- `done` of an input stores its payload at the start of its buffer.
use Rattle.std.proofs.Common.{◌≡◌, ℕ, zero, suc, ◌+◌, ◌≤◌, Bool, true, false, inl, inr, List, [], ◌∷◌, length, take, replicate, refl, sym, ap, subst, ◌∙◌, eq-eqb, eqb-true, true≢false, arith}
use Rattle.std.specs.Prelude.{Option, Some, None, not, ◌&&◌, ◌==◌, option_and_then, if◌then◌else◌}
use Rattle.std.specs.Option.{option_map}
use Rattle.std.proofs.lemmas.Bool.{cond_both, cond-true}
use Rattle.std.proofs.lemmas.List.{length-take, length-replicate}
use Rattle.genie_base.specs.Bytes.{overlaid, part}
use Rattle.genie_base.specs.Transfers.{is_strong}
use Rattle.genie_base.specs.declared.event.Event.TheVariants.{Finish}
use Rattle.genie_base.specs.declared.region.RegionState.TheVariants.{Live}
use Rattle.genie_base.specs.declared.semantics.Class.{Class}
use Rattle.genie_base.specs.declared.semantics.Class.TheVariants.{Copy, Share, Move, WeakMove}
use Rattle.genie_base.specs.declared.semantics.Direction.{Direction}
use Rattle.genie_base.specs.declared.semantics.Direction.TheVariants.{Outward, Inward}
use Rattle.genie_model.specs.State.{State, Region, Transfer}
use Rattle.genie_model.specs.Space.{Outcome, tidy}
use Rattle.genie_model.specs.Regions.{reach_of, write_reach_of, place_in, region_numbered, orphan_numbered, orphan_part, region_part, changed, change_region, with_bytes, with_state, put}
use Rattle.genie_model.specs.Pending.{is_inward, is_early_at, is_numbered, pending}
use Rattle.genie_model.specs.Inputs.{address_or_zero}
use Rattle.genie_model.specs.Ending.{without_transfer, region_of, filled, after_landing, finish_copy, finish_share, finish_move, finish_weak_move, finish_input, finish_owned, finish_for, finish}
use Rattle.genie_model.specs.Lemmas.Lists.{Has, all_has, find_has}
use Rattle.genie_model.specs.Lemmas.Steps.{outcome_so}
use Rattle.genie_orderly.specs.Lemmas.BufferRegions.{reached, filled_place, live_place}
use Rattle.genie_orderly.specs.Lemmas.ChangedRegions.{InPlace, place_found, put_in_place}
use Rattle.genie_orderly.specs.Lemmas.FoundRegions.{all_of, named_region, found_at, no_orphan_at, number_has}
use Rattle.genie_orderly.specs.Orderly.{IsOrderly, IsTransfer, IsPlaced, Lies, LiesInRegion, LiesInOrphan}
use Rattle.genie_orderly.specs.Steps.{is_refused}
use Rattle.genie_laws.specs.Integrity.{start_in}
use Rattle.genie_laws.specs.Streams.{Taken, HasGot, stores_in, Tells, StoresFront, DoneStoresRecords}

-- what is stored stands there
part_overlaid : (x : ℕ) (new old : List ℕ) → x + length new ≤ length old → part x (length new) (overlaid x new old) ≡ new
part_overlaid zero [] old h = refl
part_overlaid zero (b ∷ new) [] h = absurd (omega (arith, h))
part_overlaid zero (b ∷ new) (o ∷ old) h = ap (λ l. b ∷ l) (part_overlaid zero new old (omega (arith, h)))
part_overlaid (suc x) new [] h = absurd (omega (arith, h))
part_overlaid (suc x) new (o ∷ old) h = part_overlaid x new old (omega (arith, h))

writable_reached : (o : Option Region) (r : Region) → option_and_then (λ (q : Region). if q.writable then Some q else None) o ≡ Some r → o ≡ Some r
writable_reached None r e = absurd (cc)
writable_reached (Some q) r e = cond_both q.writable (Some q) None (λ x. x ≡ Some r → Some q ≡ Some r) (λ _ f. f) (λ _ f. absurd (cc)) e

late : (b : Bool) (o : Option Region) (r : Region) → (if b then None else o) ≡ Some r → (b ≡ false) × (o ≡ Some r)
late true o r e = absurd (cc)
late false o r e = (refl, e)

-- the region's bytes from the buffer's start on are the payload, and the reply tells how many are stored
record Fills (t : Transfer) (r : Region) (start : ℕ) (x : Outcome) : Type 0 where
  now : Region
  found : region_numbered x.0 r.number ≡ Some now
  bytes : part start (length t.payload) now.bytes ≡ t.payload
  reply : Tells x.1 t.stored t.note

-- where a region that is there is changed
changed_found : (s u : State) (r : Region) (f : Region → Region) → InPlace s u r.number f → region_numbered s r.number ≡ Some r → region_numbered u r.number ≡ Some (f r)
changed_found s u r f place found = place_found s u r.number f place r.number ∙ ap (option_map (changed r.number f)) found ∙ ap Some (cond-true (r.number == r.number) (f r) r (eq-eqb r.number r.number refl))

module _ (s : State) (o : IsOrderly s) (k p : ℕ) (t : Transfer) (is : pending s k ≡ Some t) (r : Region) (short : length t.payload ≤ t.len) where
  abbrev rest : State
  rest = without_transfer s k

  here : Has t s.transfers
  here = (find_has (is_numbered k) s.transfers t is).0

  found_here : Has r (all_of s.processes) → region_numbered rest r.number ≡ Some r
  found_here there = found_at s o.numbers r there r.number refl

  -- the range lies in the region that the transfer names
  range_here : (named : Option ℕ) → Lies s t named → option_and_then (region_numbered s) named ≡ Some r → t.offset + t.len ≤ length r.bytes
  range_here None lies e = absurd (cc)
  range_here (Some n) (inl lies) e = subst (LiesInRegion t) e lies
  range_here (Some n) (inr lies) e =
      let has = number_has s n r e in
      absurd (subst (LiesInOrphan t) (no_orphan_at s o.numbers r has.0 n (eqb-true r.number n has.1)) lies)

  named_range : region_of s t ≡ Some r → t.offset + t.len ≤ length r.bytes
  named_range e = range_here t.region (all_has (λ (u : Transfer). Lies s u u.region) s.transfers o.ranges t here) e

  put_fills : (x : ℕ) (answer : Outcome) → Has r (all_of s.processes) → x + t.len ≤ length r.bytes → answer.0 ≡ put rest r.number x t.payload → Tells answer.1 t.stored t.note → Fills t r x answer
  put_fills x answer there fits same tells = record {
    now = with_bytes x t.payload r;
    found = ap (λ (u : State). region_numbered u r.number) same ∙ changed_found rest (put rest r.number x t.payload) r (with_bytes x t.payload) (put_in_place rest r.number x t.payload) (found_here there);
    bytes = part_overlaid x t.payload r.bytes (omega (arith, short, fits));
    reply = tells;
  }

  landing_is : (u : State) → is_early_at s t.device ≡ false → after_landing rest t r ≡ put rest r.number t.offset t.payload
  landing_is u soon = rw soon refl

  copy_fills : (found : Option Region) → write_reach_of s p (address_or_zero t.addr) t.len ≡ found → found ≡ Some r → Fills t r (place_in s r (address_or_zero t.addr)) (finish_copy rest t found)
  copy_fills None e same = absurd (cc)
  copy_fills (Some q) e same =
      let one : q ≡ r = cc in
      let at = reached s p (address_or_zero t.addr) t.len r o.regions (writable_reached (reach_of s p (address_or_zero t.addr) t.len) r (e ∙ same)) in
      put_fills (place_in s r (address_or_zero t.addr)) (finish_copy rest t (Some q)) at.there at.within (ap (λ (x : Region). put rest x.number (place_in s x (address_or_zero t.addr)) t.payload) one) (refl, refl)

  share_fills : (found : Option Region) → region_of s t ≡ found → found ≡ Some r → is_early_at s t.device ≡ false → Fills t r t.offset (finish_share rest t found)
  share_fills None e same soon = absurd (cc)
  share_fills (Some q) e same soon =
      let one : q ≡ r = cc in
      put_fills t.offset (finish_share rest t (Some q)) (named_region s t.region r (e ∙ same)).0 (named_range (e ∙ same)) (ap (λ (x : Region). after_landing rest t x) one ∙ landing_is s soon) (refl, refl)

  move_fills : (found : Option Region) → region_of s t ≡ found → found ≡ Some r → t.offset ≡ 0 → Fills t r t.offset (finish_move rest t found)
  move_fills None e same start = absurd (cc)
  move_fills (Some q) e same start =
      let one : q ≡ r = cc in
      let fits = named_range (e ∙ same) in
      let there = (named_region s t.region r (e ∙ same)).0 in
      record {
        now = filled t.payload r;
        found = ap (λ (x : Region). region_numbered (change_region rest x.number (filled t.payload)) r.number) one ∙ changed_found rest (change_region rest r.number (filled t.payload)) r (filled t.payload) (filled_place rest r.number t.payload) (found_here there);
        bytes = ap (λ n. part n (length t.payload) (filled t.payload r).bytes) start ∙ part_overlaid 0 t.payload (replicate (length r.bytes) 0) (omega (arith, short, fits, length-replicate {A = ℕ} (length r.bytes) 0));
        reply = (refl, refl);
      }

  weak_move_fills : (found : Option Region) → region_of s t ≡ found → found ≡ Some r → is_early_at s t.device ≡ false → Fills t r t.offset (finish_weak_move rest t found)
  weak_move_fills None e same soon = absurd (cc)
  weak_move_fills (Some q) e same soon =
      let one : q ≡ r = cc in
      let there = (named_region s t.region r (e ∙ same)).0 in
      let u : State = put rest r.number t.offset t.payload in
      let fits = named_range (e ∙ same) in
      let new : Region = with_bytes t.offset t.payload r in
      let in_u : region_numbered u r.number ≡ Some new = changed_found rest u r (with_bytes t.offset t.payload) (put_in_place rest r.number t.offset t.payload) (found_here there) in
      record {
        now = with_state Live new;
        found = ap (λ (x : Region). region_numbered (change_region (after_landing rest t x) x.number (with_state Live)) r.number) one ∙ ap (λ (v : State). region_numbered (change_region v r.number (with_state Live)) r.number) (landing_is s soon)
            ∙ changed_found u (change_region u r.number (with_state Live)) new (with_state Live) (live_place u r.number) in_u;
        bytes = part_overlaid t.offset t.payload r.bytes (omega (arith, short, fits));
        reply = (refl, refl);
      }

  input_fills : (class : Class) → t.class ≡ class → is_inward t.direction ≡ true → stores_in s p t class ≡ Some r → Fills t r (start_in s t class r) (finish_input rest p t class)
  input_fills Copy c i e = copy_fills (write_reach_of s p (address_or_zero t.addr) t.len) refl e
  input_fills Share c i e = let h = late (is_early_at s t.device) (region_of s t) r e in share_fills (region_of s t) refl h.1 h.0
  input_fills Move c i e = move_fills (region_of s t) refl e (placed t.direction t.class t.addr t.offset (all_has IsTransfer s.transfers o.calls t here).placed i c)
    where
      placed : (direction : Direction) (class : Class) (addr : Option ℕ) (offset : ℕ) → IsPlaced direction class addr offset → is_inward direction ≡ true → class ≡ Move → offset ≡ 0
      placed Outward class addr offset h i c = absurd (true≢false (sym i))
      placed Inward class addr offset h i c = (subst (λ x. IsPlaced Inward x addr offset) c h).1
  input_fills WeakMove c i e = let h = late (is_early_at s t.device) (region_of s t) r e in weak_move_fills (region_of s t) refl h.1 h.0

  owned_fills : (direction : Direction) → is_inward direction ≡ true → is_inward t.direction ≡ true → stores_in s p t t.class ≡ Some r → Fills t r (start_in s t t.class r) (finish_owned rest p t direction)
  owned_fills Outward i inward e = absurd (true≢false (sym i))
  owned_fills Inward i inward e = input_fills t.class refl inward e

  for_fills : (owner : Option ℕ) → owner ≡ Some p → is_inward t.direction ≡ true → stores_in s p t t.class ≡ Some r → Fills t r (start_in s t t.class r) (finish_for rest t owner)
  for_fills None owned inward e = absurd (cc)
  for_fills (Some q) owned inward e = let same : q ≡ p = cc in subst (λ x. Fills t r (start_in s t t.class r) (finish_for rest t (Some x))) (sym same) (owned_fills t.direction inward inward e)

-- a strong input, and one whose device isn't early, keeps its payload
kept_until : (s : State) (p : ℕ) (t : Transfer) (class : Class) (r : Region) → stores_in s p t class ≡ Some r → (is_early_at s t.device && not (is_strong class)) ≡ false
kept_until s p t Copy r e = none (is_early_at s t.device)
  where
    none : (b : Bool) → (b && false) ≡ false
    none true = refl
    none false = refl
kept_until s p t Share r e = let h = (late (is_early_at s t.device) (region_of s t) r e).0 in rw h refl
kept_until s p t Move r e = none (is_early_at s t.device)
  where
    none : (b : Bool) → (b && false) ≡ false
    none true = refl
    none false = refl
kept_until s p t WeakMove r e = let h = (late (is_early_at s t.device) (region_of s t) r e).0 in rw h refl

finish_stores : (s : State) (k p : ℕ) (t : Transfer) (region : Region) (r : Taken) → IsOrderly s → pending s k ≡ Some t → is_inward t.direction ≡ true → t.owner ≡ Some p → HasGot (is_early_at s t.device) t r → stores_in s p t t.class ≡ Some region → StoresFront s (tidy (finish s k).0) (finish s k).1 t region r
finish_stores s k p t region r o is inward owned got e =
    let same = got.front.bytes (kept_until s p t t.class region e) in
    let short : length t.payload ≤ t.len = omega (arith, ap length same, length-take t.len r.payload) in
    let f : Fills t region (start_in s t t.class region) (finish s k) = rw is (for_fills s o k p t is region short t.owner owned inward e) in
    record {
      bytes = ap (λ (x : Option Region). region_part (start_in s t t.class region) (length (take t.len r.payload)) x (orphan_part (start_in s t t.class region) (length (take t.len r.payload)) (orphan_numbered (tidy (finish s k).0) region.number))) f.found
          ∙ ap (λ l. part (start_in s t t.class region) (length l) f.now.bytes) (sym same) ∙ f.bytes ∙ same;
      reply = subst (λ n. Tells (finish s k).1 n t.note) got.front.stored f.reply;
    }

pub done_stores_records : DoneStoresRecords
done_stores_records s k p m t region r o is inward owned got e = outcome_so (λ x. is_refused x.1 ≡ false → StoresFront s x.0 x.1 t region r) s (Finish k) (λ w h. absurd (true≢false h)) (λ h. absurd (true≢false h)) (λ _ _. finish_stores s k p t region r o is inward owned got e) (λ _ n fails. absurd (true≢false (sym fails))) m
