-- Orphans stand in the order of their numbers after every step, and the places of each one rise.
use Rattle.std.proofs.Common.{◌≡◌, ◌≢◌, ℕ, zero, suc, ◌+◌, ◌<◌, ◌≤◌, ltb-true, ltb-false, flat_map, List, [], ◌∷◌, map, filter, get_or, All, AllPairs, refl, arith}
use Rattle.std.specs.Prelude.{nat_lt, ◌==◌}
use Rattle.std.specs.List.{list_any}
use Rattle.std.proofs.lemmas.Bool.{cond_both}
use Rattle.std.proofs.lemmas.List.Elements.{All-cons, All-head, All-tail, All-map, All-filter, All-weaker}
use Rattle.std.proofs.lemmas.List.Kept.{AllPairs-cons, AllPairs-filter}
use Rattle.genie_base.specs.Lemmas.Searches.{pairs_mapped}
use Rattle.genie_base.specs.declared.event.Event.{Event}
use Rattle.genie_orderly.specs.Steps.{Stays}
use Rattle.genie_orderly.specs.Orderly.{region_numbers, orphan_numbers, OrphansRise, OrphanPlacesRise}
use Rattle.genie_model.specs.Pending.{covers}
use Rattle.genie_model.specs.Regions.{stored_at, stored_in_orphan}
use Rattle.genie_model.specs.Space.{placed, as_orphan, add_orphan, cut, is_named}
use Rattle.genie_model.specs.State.{State, Region, Orphan, Transfer}
use Rattle.genie_model.specs.Step.{accept, perform, step}
use Rattle.genie_model.specs.Tables.{put_in}
use Rattle.genie_orderly.proofs.Regions.Distinct.{numbers_differ}
use Rattle.genie_model.specs.Lemmas.Lists.{has_at, has_map, pairs_head, pairs_tail, pairs_right}
use Rattle.genie_orderly.proofs.Orphans.Kept.{orphans_keep}
use Rattle.genie_model.specs.Lemmas.Steps.{step_so}
use Rattle.genie_orderly.specs.Lemmas.ChangedRegions.{place_stored}

abbrev Below : ℕ × ℕ → ℕ × ℕ → Type 0
Below a b = a.0 < b.0

abbrev Rises : Orphan → Type 0
Rises o = AllPairs Below o.bytes

abbrev AllRise : List Orphan → Type 0
AllRise orphans = All Rises orphans

placed_above : (low x : ℕ) (bytes : List ℕ) → low < x → All (λ (e : ℕ × ℕ). low < e.0) (placed x bytes)
placed_above low x [] h = λ k d l. absurd (omega arith)
placed_above low x (b ∷ bytes) h = All-cons (λ (e : ℕ × ℕ). low < e.0) (x, b) (placed (x + 1) bytes) h (placed_above low (x + 1) bytes (omega arith))

placed_rise : (x : ℕ) (bytes : List ℕ) → AllPairs Below (placed x bytes)
placed_rise x [] = λ i j d l m. absurd (omega arith)
placed_rise x (b ∷ bytes) = AllPairs-cons Below (x, b) (placed (x + 1) bytes) (placed_above x (x + 1) bytes (omega arith)) (placed_rise (x + 1) bytes)

-- other bytes are stored at the same places
stored_rises : (k x : ℕ) (new : List ℕ) (o : Orphan) → Rises o → Rises (stored_in_orphan k x new o)
stored_rises k x new o h = cond_both (o.number == k) (record o { bytes = map (stored_at x new) o.bytes }) o Rises (λ _. pairs_mapped Below (stored_at x new) (λ d e less. rw (place_stored x new d, place_stored x new e) less) o.bytes h) (λ _. h)

stored_all : (k x : ℕ) (new : List ℕ) (orphans : List Orphan) → AllRise orphans → AllRise (map (stored_in_orphan k x new) orphans)
stored_all k x new orphans h = All-map Rises (stored_in_orphan k x new) orphans (All-weaker Rises (λ o. Rises (stored_in_orphan k x new o)) (stored_rises k x new) orphans h)

pub all_put_in : {X : Type 0} (P : X → Type 0) (key : X → ℕ) (x : X) (ys : List X) → P x → All P ys → All P (put_in key x ys)
all_put_in P key x [] p h = All-cons P x [] p h
all_put_in P key x (y ∷ ys) p h = cond_both (nat_lt (key x) (key y)) (x ∷ y ∷ ys) (y ∷ put_in key x ys) (All P)
    (λ _. All-cons P x (y ∷ ys) p h) (λ _. All-cons P y (put_in key x ys) (All-head P y ys h) (all_put_in P key x ys p (All-tail P y ys h)))

added_all : (r : Region) (orphans : List Orphan) → AllRise orphans → AllRise (add_orphan r orphans)
added_all r orphans h = all_put_in Rises (λ (o : Orphan). o.number) (as_orphan r) orphans (placed_rise 0 r.bytes) h

tidied_all : (transfers : List Transfer) (orphans : List Orphan) → AllRise orphans → AllRise (map (cut transfers) (filter (is_named transfers) orphans))
tidied_all transfers orphans h = All-map Rises (cut transfers) (filter (is_named transfers) orphans)
    (All-weaker Rises (λ o. Rises (cut transfers o)) (λ o. AllPairs-filter Below (λ (e : ℕ × ℕ). list_any (covers o.number e.0) transfers) o.bytes) (filter (is_named transfers) orphans) (All-filter (is_named transfers) Rises orphans h))

accepted_places_rise : (s : State) → OrphanPlacesRise s → (e : Event) → OrphanPlacesRise (accept s e).0
accepted_places_rise s h e = let t : State = (perform s e).0 in tidied_all t.transfers t.orphans (orphans_keep AllRise added_all stored_all s e h)

pub orphan_places_rise : Stays OrphanPlacesRise
orphan_places_rise s e m whole o = step_so OrphanPlacesRise s o.order (accepted_places_rise s o.order) e m

-- orphans in the order of their numbers, of which some may be the same
abbrev Low : Orphan → Orphan → Type 0
Low o p = o.number ≤ p.number

added_low : (r : Region) (orphans : List Orphan) → AllPairs Low orphans → AllPairs Low (add_orphan r orphans)
added_low r [] h = λ i j d l m. absurd (omega arith)
added_low r (o ∷ orphans) h =
    let above : All (Low o) orphans = λ k d lt. h zero (suc k) d (omega arith) (omega arith) in
    cond_both (nat_lt r.number o.number) (as_orphan r ∷ o ∷ orphans) (o ∷ add_orphan r orphans) (AllPairs Low)
    (λ t. let below = ltb-true r.number o.number t in AllPairs-cons Low (as_orphan r) (o ∷ orphans) (All-cons (Low (as_orphan r)) o orphans (omega (arith, below)) (λ k d lt. omega (arith, below, above k d lt))) h)
    (λ f. let below = ltb-false r.number o.number f in AllPairs-cons Low o (add_orphan r orphans) (all_put_in (Low o) (λ (p : Orphan). p.number) (as_orphan r) orphans (omega (arith, below)) above) (added_low r orphans (pairs_tail Low o orphans h)))

stored_number : (k x : ℕ) (new : List ℕ) (o : Orphan) → (stored_in_orphan k x new o).number ≡ o.number
stored_number k x new o = cond_both (o.number == k) (record o { bytes = map (stored_at x new) o.bytes }) o (λ (p : Orphan). p.number ≡ o.number) (λ _. refl) (λ _. refl)

stored_low : (k x : ℕ) (new : List ℕ) (orphans : List Orphan) → AllPairs Low orphans → AllPairs Low (map (stored_in_orphan k x new) orphans)
stored_low k x new orphans h = pairs_mapped Low (stored_in_orphan k x new) (λ o p low. rw (stored_number k x new o, stored_number k x new p) low) orphans h

accepted_low : (s : State) → OrphansRise s → (e : Event) → AllPairs Low (accept s e).0.orphans
accepted_low s h e =
    let t : State = (perform s e).0 in
    let low = orphans_keep (AllPairs Low) added_low stored_low s e (λ i j d l m. let less = h i j d l m in omega (arith, less)) in
    pairs_mapped Low (cut t.transfers) (λ o p low. low) (filter (is_named t.transfers) t.orphans) (AllPairs-filter Low (is_named t.transfers) t.orphans low)

-- none the same
strictly : (orphans : List Orphan) → AllPairs Low orphans → AllPairs (λ (a b : ℕ). a ≢ b) (orphan_numbers orphans) → AllPairs (λ (o p : Orphan). o.number < p.number) orphans
strictly [] low apart = λ i j d l m. absurd (omega arith)
strictly (o ∷ orphans) low apart = AllPairs-cons (λ (o p : Orphan). o.number < p.number) o orphans
    (λ k d lt.
    let p : Orphan = get_or orphans k d in
    let most = low zero (suc k) d (omega arith) (omega arith) in
    let other = pairs_head (λ (a b : ℕ). a ≢ b) o.number (orphan_numbers orphans) apart p.number (has_map (λ (q : Orphan). q.number) p orphans (has_at orphans k d lt)) in
    omega (arith, most, other))
    (strictly orphans (pairs_tail Low o orphans low) (pairs_tail (λ (a b : ℕ). a ≢ b) o.number (orphan_numbers orphans) apart))

pub orphans_rise : Stays OrphansRise
orphans_rise s e m whole o =
    let t : State = (step s e m).0 in
    let low = step_so (λ (t : State). AllPairs Low t.orphans) s (λ i j d l m. let less = o.rise i j d l m in omega (arith, less)) (accepted_low s o.rise) e m in
    strictly t.orphans low (pairs_right (λ (a b : ℕ). a ≢ b) (flat_map region_numbers t.processes) (orphan_numbers t.orphans) (numbers_differ s e m whole o))
