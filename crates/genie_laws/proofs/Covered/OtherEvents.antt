-- Every event but those that store bytes leaves a byte that a pending weak transfer covers.
use Rattle.std.proofs.Common.{◌≡◌, ℕ, zero, suc, ◌+◌, ◌<◌, Bool, true, false, not, ◌&&◌, ◌==◌, ◌⊎◌, inl, inr, ⊎_elim, List, [], ◌∷◌, ◌++◌, map, filter, find, AllPairs, ◌≢◌, refl, sym, ap, subst, ◌∙◌, eqb-true, eq-eqb, ne_eqb, true≢false, arith}
use Rattle.std.specs.Prelude.{Option, Some, None, IsTrue, nat_le, nat_lt}
use Rattle.std.specs.List.{list_any}
use Rattle.std.proofs.lemmas.Bool.{cases_Bool, cond_both, and_parts}
use Rattle.std.proofs.lemmas.Bool.Decides.{nat_tests}
use Rattle.genie_base.specs.Bytes.{part}
use Rattle.genie_base.specs.Events.{is_whole}
use Rattle.genie_base.specs.Posted.{Address}
use Rattle.genie_base.specs.Regions.{is_reached, add_in_order}
use Rattle.genie_base.specs.Transfers.{class_of, is_strong}
use Rattle.genie_base.specs.declared.event.Event.{Event}
use Rattle.genie_base.specs.declared.event.Event.TheVariants.{Spawn, Fork, Exit, Map, Alloc, Unmap, Protect, Read, Write, Output, Input, Send, Recv, Finish, Cancel, Pageout}
use Rattle.genie_base.specs.declared.region.Area.TheVariants.{App}
use Rattle.genie_base.specs.declared.region.RegionState.TheVariants.{Live, In, Out, Held}
use Rattle.genie_base.specs.declared.reply.Mark.{Mark}
use Rattle.genie_base.specs.declared.semantics.Class.{Class}
use Rattle.genie_base.specs.declared.semantics.Class.TheVariants.{Copy, Share, Move, WeakMove}
use Rattle.genie_model.specs.Ending.{without_transfer, region_of, cancel_found}
use Rattle.genie_model.specs.Inputs.{pages_for, reusable, moved_in_of, weak_buffer, with_buffer}
use Rattle.genie_orderly.specs.Steps.{Stays}
use Rattle.genie_orderly.specs.Orderly.{LiesInRegion, LiesInOrphan, Lies, orphan_numbers, NumbersDiffer, IsOrderly}
use Rattle.genie_model.specs.Outputs.{output_of, moved_out_of, give_up}
use Rattle.genie_model.specs.Pending.{is_just, names, names_weakly, covers, first_queued, pending, add_transfer}
use Rattle.genie_model.specs.Regions.{extent_of, regions_of, regions_at, reach_of, is_region, has_number, region_numbered, is_orphan, orphan_numbered, is_within_range, byte_within, bytes_within, orphan_part, region_part, bytes_of, change_process, changed, changed_in, with_state, with_mode}
use Rattle.genie_model.specs.Sending.{must_stage, send_next}
use Rattle.genie_model.specs.Space.{spawned, with_region, add_region, zeros, zeros_at_place, placed, as_orphan, add_orphan, without_region, remove, remove_found, cut, is_named, tidy, starts_at, region_from, protect_found, accessible, copy_of, add_copies, add_orphans, exit}
use Rattle.genie_model.specs.State.{State, Region, Orphan, Process, Transfer}
use Rattle.genie_model.specs.Step.{perform, with_budget, step}
use Rattle.genie_model.specs.Tables.{entry}
use Rattle.genie_laws.proofs.Covered.SomeElement.{Among, among_has, has_among, among_left, among_right, among_map, among_filter, among_put, among_left_or_there, among_set}
use Rattle.genie_model.specs.Lemmas.ReceiveSteps.{choice}
use Rattle.genie_orderly.specs.Lemmas.AcceptedEvents.{Allowed, allowed}
use Rattle.genie_orderly.specs.Lemmas.FoundRegions.{all_of, differ, numbers_in, no_orphan, number_has, found_at, IsThere, at_there, region_there}
use Rattle.genie_model.specs.Lemmas.Lists.{Has, all_has, any_has, has_any, find_has, has_map, has_either, pairs_head, pairs_tail, pairs_right}
use Rattle.genie_model.specs.Lemmas.Steps.{event_so}

-- the events that store bytes
abbrev pub may_store : Event → Bool
may_store (Write p a bytes) = true
may_store (Recv d n) = true
may_store (Finish k) = true
may_store _ = false

-- a transfer that covers a place names the region
pub names_covered : (k x : ℕ) (u : Transfer) → covers k x u ≡ true → names_weakly k u ≡ true
names_covered k x u e = (and_parts (names_weakly k u) (nat_le u.offset x) (and_parts (names_weakly k u && nat_le u.offset x) (nat_lt x (u.offset + u.len)) e).0).0

-- region or orphan k has byte b at place x
module _ (k x : ℕ) (b : List ℕ) where
  abbrev InRegion : Region → Type 0
  InRegion r = (r.number ≡ k) × (part x 1 r.bytes ≡ b)

  abbrev InOrphan : Orphan → Type 0
  InOrphan o = (o.number ≡ k) × (bytes_within x 1 o.bytes ≡ b)

  abbrev InProcess : Option Process → Type 0
  InProcess p = Among InRegion (regions_of p)

  abbrev HasByte : State → Type 0
  HasByte s = Among InProcess s.processes ⊎ Among InOrphan s.orphans

  placed_above : (y : ℕ) (bytes : List ℕ) → x < y → bytes_within x 1 (placed y bytes) ≡ []
  placed_above y [] h = refl
  placed_above y (c ∷ bytes) h =
      let out : is_within_range x 1 (y, c) ≡ false = grind (arith, nat_tests) in
      rw out (placed_above (y + 1) bytes (omega arith))

  placed_byte : (i y : ℕ) (bytes : List ℕ) → x ≡ y + i → bytes_within x 1 (placed y bytes) ≡ part i 1 bytes
  placed_byte zero y [] h = refl
  placed_byte (suc i) y [] h = refl
  placed_byte zero y (c ∷ bytes) h =
      let here : is_within_range x 1 (y, c) ≡ true = grind (arith, nat_tests) in
      rw here (ap (λ l. c ∷ l) (placed_above (y + 1) bytes (omega arith)))
  placed_byte (suc i) y (c ∷ bytes) h =
      let out : is_within_range x 1 (y, c) ≡ false = grind (arith, nat_tests) in
      rw out (placed_byte i (y + 1) bytes (omega arith))

  orphan_made : (r : Region) → InRegion r → InOrphan (as_orphan r)
  orphan_made r h = (h.0, placed_byte x 0 r.bytes (omega arith) ∙ h.1)

  -- the end of an event cuts no covered place
  filter_within : (q : ℕ × ℕ → Bool) → ((e : ℕ × ℕ) → e.0 ≡ x → q e ≡ true) → (es : List (ℕ × ℕ)) → bytes_within x 1 (filter q es) ≡ bytes_within x 1 es
  filter_within q so [] = refl
  filter_within q so (e ∷ es) = cond_both (q e) (e ∷ filter q es) (filter q es) (λ l. bytes_within x 1 l ≡ byte_within x 1 e ++ bytes_within x 1 es)
      (λ _. ap (λ l. byte_within x 1 e ++ l) (filter_within q so es))
      (λ f.
      let out : is_within_range x 1 e ≡ false = ⊎_elim (λ (t : is_within_range x 1 e ≡ true). absurd (true≢false (sym (so e (grind (arith, nat_tests))) ∙ f))) (λ n. n) (cases_Bool (is_within_range x 1 e)) in
      rw out (filter_within q so es))

  module _ (transfers : List Transfer) (covered : list_any (covers k x) transfers ≡ true) where
    pub cut_has : (o : Orphan) → InOrphan o → InOrphan (cut transfers o)
    cut_has o h = (h.0, filter_within (λ (e : ℕ × ℕ). list_any (covers o.number e.0) transfers) (λ e at. rw (h.0, at) covered) o.bytes ∙ h.1)

    covered_named : (o : Orphan) → InOrphan o → is_named transfers o ≡ true
    covered_named o h =
        let some = any_has (covers k x) transfers covered in
        rw h.0 (has_any (names_weakly k) some.0 transfers some.1 (names_covered k x some.0 some.2))

    cut_all : (orphans : List Orphan) → Among InOrphan orphans → Among InOrphan (map (cut transfers) (filter (is_named transfers) orphans))
    cut_all orphans h = among_map InOrphan (cut transfers) cut_has (filter (is_named transfers) orphans) (among_filter InOrphan (is_named transfers) covered_named orphans h)

  tidy_has : (s : State) → HasByte s → list_any (covers k x) s.transfers ≡ true → HasByte (tidy s)
  tidy_has s (inl h) covered = inl h
  tidy_has s (inr h) covered = inr (cut_all s.transfers covered s.orphans h)

  -- regions are changed, but neither their numbers nor their bytes
  changed_has : (j : ℕ) (f : Region → Region) → ((r : Region) → InRegion r → InRegion (f r)) → (rs : List Region) → Among InRegion rs → Among InRegion (map (changed j f) rs)
  changed_has j f so rs h = among_map InRegion (changed j f) (λ r g. cond_both (r.number == j) (f r) r InRegion (λ _. so r g) (λ _. g)) rs h

  each_has : (g : Process → Process) → ((p : Process) → Among InRegion p.regions → Among InRegion (g p).regions) → (ps : List (Option Process)) → Among InProcess ps → Among InProcess (map (change_process g) ps)
  each_has g so ps h = among_map InProcess (change_process g) (λ o. each o) ps h
    where
      each : (o : Option Process) → InProcess o → InProcess (change_process g o)
      each None h = h
      each (Some p) h = so p h

  out_has : (j : ℕ) (p : Process) → Among InRegion p.regions → Among InRegion (moved_out_of j p).regions
  out_has j p h = cond_both (has_number j (Some p)) (record { queue = p.queue ++ j ∷ []; regions = map (changed j (with_state Out)) p.regions }) p (λ (q : Process). Among InRegion q.regions)
      (λ _. changed_has j (with_state Out) (λ r g. g) p.regions h) (λ _. h)

  -- a region comes
  in_order_has : (new : Region) (rs : List Region) → Among InRegion rs → Among InRegion (add_in_order extent_of new rs)
  in_order_has new [] h = absurd h
  in_order_has new (r ∷ rs) h = cond_both (nat_le (r.start + r.pages) new.start) (r ∷ add_in_order extent_of new rs) (new ∷ r ∷ rs) (Among InRegion)
      (λ _. ⊎_elim inl (λ later. inr (in_order_has new rs later)) h) (λ _. inr h)

  entry_has : (new : Region) (o : Option Process) → InProcess o → InProcess (change_process (with_region new) o)
  entry_has new None h = h
  entry_has new (Some p) h = in_order_has new p.regions h

  add_has : (s : State) (p : ℕ) (new : Region) → HasByte s → HasByte (add_region s p new)
  add_has s p new (inl h) = inl (among_set InProcess s.processes p (change_process (with_region new) (entry s.processes p)) (entry_has new (entry s.processes p)) h)
  add_has s p new (inr h) = inr h

  copies_have : (s : State) (q : ℕ) (regions : List Region) → HasByte s → HasByte (add_copies s q regions)
  copies_have s q [] h = h
  copies_have s q (r ∷ regions) h = copies_have (add_region s q (copy_of s r)) q regions (add_has s q (copy_of s r) h)

  spawn_has : (s : State) (p : ℕ) → entry s.processes p ≡ None → HasByte s → HasByte (spawned s p)
  spawn_has s p none (inl h) = inl (among_set InProcess s.processes p (Some (record { queue = []; regions = [] })) (λ g. rw none at g) h)
  spawn_has s p none (inr h) = inr h

  -- a region goes, and its byte is an orphan's
  remove_has : (s : State) (r : Region) → (r.number ≡ k → part x 1 r.bytes ≡ b) → HasByte s → HasByte (remove s r)
  remove_has s r its h = ⊎_elim
      (λ (same : (r.number == k) ≡ true). let e = eqb-true r.number k same in inr (among_put InOrphan (λ (o : Orphan). o.number) (as_orphan r) s.orphans (inl (orphan_made r (e, its e)))))
      (λ (other : (r.number == k) ≡ false).
      ⊎_elim
      (λ g. inl (each_has (without_region r.number) (λ p e. among_filter InRegion (λ q. not (is_region r.number q)) (λ q i. let no : (q.number == r.number) ≡ false = grind (arith, nat_tests, i.0, other) in rw no refl) p.regions e) s.processes g))
      (λ g. inr (among_put InOrphan (λ (o : Orphan). o.number) (as_orphan r) s.orphans (inr g)))
      h)
      (cases_Bool (r.number == k))

  orphans_have : (rs : List Region) (os : List Orphan) → Among InRegion rs ⊎ Among InOrphan os → Among InOrphan (add_orphans rs os)
  orphans_have [] os (inl h) = absurd h
  orphans_have [] os (inr h) = h
  orphans_have (r ∷ rs) os (inl (inl h)) = orphans_have rs (add_orphan r os) (inr (among_put InOrphan (λ (o : Orphan). o.number) (as_orphan r) os (inl (orphan_made r h))))
  orphans_have (r ∷ rs) os (inl (inr h)) = orphans_have rs (add_orphan r os) (inl h)
  orphans_have (r ∷ rs) os (inr h) = orphans_have rs (add_orphan r os) (inr (among_put InOrphan (λ (o : Orphan). o.number) (as_orphan r) os (inr h)))

  exit_has : (s : State) (p : ℕ) → HasByte s → HasByte (exit s p).0
  exit_has s p (inl h) = ⊎_elim (λ here. inr (orphans_have (regions_at s p) s.orphans (inl here))) inl (among_left_or_there InProcess s.processes p None h)
  exit_has s p (inr h) = inr (orphans_have (regions_at s p) s.orphans (inr h))

  -- where numbers differ, it is the byte that is read there
  joined : (ps : List (Option Process)) → Among InProcess ps → Among InRegion (all_of ps)
  joined [] h = absurd h
  joined (p ∷ ps) (inl h) = among_left InRegion (regions_of p) (all_of ps) h
  joined (p ∷ ps) (inr h) = among_right InRegion (regions_of p) (all_of ps) (joined ps h)

  parted : (ps : List (Option Process)) (r : Region) → InRegion r → Has r (all_of ps) → Among InProcess ps
  parted [] r i h = absurd h
  parted (p ∷ ps) r i h = ⊎_elim (λ here. inl (has_among InRegion r (regions_of p) here i)) (λ later. inr (parted ps r i later)) (has_either r (regions_of p) (all_of ps) h)

  only_orphan : (os : List Orphan) → AllPairs (λ (a c : ℕ). a ≢ c) (orphan_numbers os) → (o : Orphan) → Has o os → o.number ≡ k → find (is_orphan k) os ≡ Some o
  only_orphan [] apart o e is = absurd e
  only_orphan (q ∷ os) apart o (inl e) is = let here : (q.number == k) ≡ true = rw (e, is) (eq-eqb k k refl) in rw here (ap Some e)
  only_orphan (q ∷ os) apart o (inr e) is =
      let other = ne_eqb q.number k (λ same. pairs_head (λ (a c : ℕ). a ≢ c) q.number (orphan_numbers os) apart o.number (has_map (λ (p : Orphan). p.number) o os e) (same ∙ sym is)) in
      rw other (only_orphan os (pairs_tail (λ (a c : ℕ). a ≢ c) q.number (orphan_numbers os) apart) o e is)

  module _ (s : State) (differs : NumbersDiffer s) where
    no_region : (o : Orphan) → Has o s.orphans → o.number ≡ k → (found : Option Region) → region_numbered s k ≡ found → found ≡ None
    no_region o has is None e = refl
    no_region o has is (Some r) e =
        let there = number_has s k r e in
        let none = no_orphan s.orphans (all_of s.processes) (differ s differs) r there.0 in
        absurd (true≢false (sym (has_any (is_orphan r.number) o s.orphans has (rw (is, eqb-true r.number k there.1) (eq-eqb k k refl))) ∙ none))

    read_back : HasByte s → bytes_of s k x 1 ≡ b
    read_back (inl h) = let some = among_has InRegion (all_of s.processes) (joined s.processes h) in rw (found_at s differs some.0 some.1 k some.2.0) some.2.1
    read_back (inr h) =
        let some = among_has InOrphan s.orphans h in
        let orphans = pairs_right (λ (a c : ℕ). a ≢ c) (numbers_in (all_of s.processes)) (orphan_numbers s.orphans) (differ s differs) in
        rw (no_region some.0 some.1 some.2.0 (region_numbered s k) refl, only_orphan s.orphans orphans some.0 some.1 some.2.0) some.2.1

  -- so the number of a region tells its byte
  abbrev Tells : State → Type 0
  Tells s = (r : Region) → Has r (all_of s.processes) → r.number ≡ k → part x 1 r.bytes ≡ b

  place_has : (g : Process → Process) → ((p : Process) → Among InRegion p.regions → Among InRegion (g p).regions) → (s : State) → HasByte s → HasByte (record s { processes = map (change_process g) s.processes })
  place_has g so s (inl h) = inl (each_has g so s.processes h)
  place_has g so s (inr h) = inr h

  unmap_has : (s : State) (o : Option Region) → Tells s → IsThere s o → HasByte s → HasByte (remove_found s o)
  unmap_has s None tells there h = h
  unmap_has s (Some r) tells there h = remove_has s r (tells r there) h

  protect_has : (s : State) (o : Option Region) (writable : Bool) → HasByte s → HasByte (protect_found s o writable)
  protect_has s None writable h = h
  protect_has s (Some r) writable h = place_has (changed_in r.number (with_mode writable)) (λ p. changed_has r.number (with_mode writable) (λ q g. g) p.regions) s h

  given_up_has : (s : State) (class : Class) (o : Option Region) → Tells s → IsThere s o → HasByte s → HasByte (give_up s class o)
  given_up_has s class None tells there h = h
  given_up_has s Move (Some r) tells there h = remove_has s r (tells r there) h
  given_up_has s WeakMove (Some r) tells there h = place_has (moved_out_of r.number) (out_has r.number) s h
  given_up_has s class (Some r) tells there h = h

  weak_has : (s : State) (p n : ℕ) (o : Option ℕ) → HasByte s → HasByte (weak_buffer s p n o)
  weak_has s p n None h = add_has s p (zeros_at_place s In p (pages_for s n)) h
  weak_has s p n (Some j) h = place_has (moved_in_of j) (λ q. changed_has j (with_state In) (λ r g. g) q.regions) s h

  input_has : (s : State) (p : ℕ) (class : Class) (n : ℕ) → HasByte s → HasByte (with_buffer s p class n)
  input_has s p Copy n h = h
  input_has s p Share n h = h
  input_has s p Move n h = add_has s p (zeros_at_place s Held p (pages_for s n)) h
  input_has s p WeakMove n h = weak_has s p n (reusable s p (pages_for s n)) h

  send_has : (s : State) (d n : ℕ) (o : Option Transfer) → HasByte s → HasByte (send_next s d n o).0
  send_has s d n None h = h
  send_has s d n (Some t) h = choice HasByte (must_stage s d t) _ _ h h

  cancel_has : (s : State) (j : ℕ) (o : Option Transfer) → Tells s → HasByte s → HasByte (cancel_found s j o).0
  cancel_has s j None tells h = h
  cancel_has s j (Some t) tells h = given_up_has (without_transfer s j) t.class (region_of s t) tells (region_there s t) h

  module _ (s : State) (tells : Tells s) (h : HasByte s) where
    perform_has : (e : Event) → may_store e ≡ false → Allowed s e → HasByte (perform s e).0
    perform_has (Spawn p) quiet may = spawn_has s p may h
    perform_has (Fork p q) quiet may = copies_have (spawned s q) q (accessible (regions_at s p)) (spawn_has s q may.1 h)
    perform_has (Exit p) quiet may = exit_has s p h
    perform_has (Map p g n) quiet may = add_has s p (zeros s App Live g n) h
    perform_has (Alloc p n) quiet may = add_has s p (zeros_at_place s Live p n) h
    perform_has (Unmap p g) quiet may = unmap_has s (region_from s p g) tells (at_there s p (starts_at g)) h
    perform_has (Protect p g writable) quiet may = protect_has s (region_from s p g) writable h
    perform_has (Read p a n) quiet may = h
    perform_has (Write p a bytes) quiet may = absurd (true≢false quiet)
    perform_has (Output p sem d port flow a n) quiet may =
        let to : Address = record { device = d; port = port; flow = flow } in
        given_up_has (add_transfer s (output_of s p (class_of sem) to a n (reach_of s p a n))) (class_of sem) (reach_of s p a n) tells (at_there s p (λ r. is_reached s.config.page a n (extent_of r))) h
    perform_has (Input p sem d port flow a n) quiet may = input_has s p (class_of sem) n h
    perform_has (Send d n) quiet may = send_has s d n (first_queued s d) h
    perform_has (Recv d n) quiet may = absurd (true≢false quiet)
    perform_has (Finish j) quiet may = absurd (true≢false quiet)
    perform_has (Cancel j) quiet may = cancel_has s j (pending s j) tells h
    perform_has (Pageout n) quiet may = h

    budget_has : (e : Event) (j : ℕ) → may_store e ≡ false → Allowed s e → HasByte (perform s (with_budget e j)).0
    budget_has (Send d n) j quiet may = perform_has (Send d j) refl may
    budget_has (Recv d n) j quiet may = absurd (true≢false quiet)
    budget_has e j quiet may = perform_has e quiet may

    -- where it is still covered
    abbrev Lasts : State → Type 0
    Lasts t = list_any (covers k x) t.transfers ≡ true → HasByte t

    step_lasts : (e : Event) (m : Mark) → may_store e ≡ false → Lasts (step s e m).0
    step_lasts e m quiet = event_so Lasts s (λ _. h) e (λ none. tidy_has (perform s e).0 (perform_has e quiet (allowed s e none))) (λ none j. tidy_has (perform s (with_budget e j)).0 (budget_has e j quiet (allowed s e none))) m

lies_named : (s : State) (u : Transfer) (named : Option ℕ) (k : ℕ) → is_just named k ≡ true → Lies s u named → Lies s u (Some k)
lies_named s u None k e h = absurd (cc)
lies_named s u (Some n) k e h = subst (λ j. Lies s u (Some j)) (eqb-true n k e) h

begins : (s : State) (u : Transfer) (k x : ℕ) (r : Option Region) (o : Option Orphan) → region_numbered s k ≡ r → orphan_numbered s k ≡ o → LiesInRegion u r ⊎ LiesInOrphan u o → HasByte k x (region_part x 1 r (orphan_part x 1 o)) s
begins s u k x (Some r) o e f h =
    let found = number_has s k r e in
    inl (parted k x (part x 1 r.bytes) s.processes r (eqb-true r.number k found.1, refl) found.0)
begins s u k x None (Some o) e f h =
    let found = find_has (is_orphan k) s.orphans o f in
    inr (has_among (InOrphan k x (bytes_within x 1 o.bytes)) o s.orphans found.0 (eqb-true o.number k found.1, refl))
begins s u k x None None e f h = absurd (⊎_elim (λ no. no) (λ no. no) h)

pub others_leave : Stays IsOrderly → (s : State) (e : Event) (m : Mark) (k x : ℕ) → IsTrue (is_whole e) → IsOrderly s → may_store e ≡ false → list_any (covers k x) s.transfers ≡ true → list_any (covers k x) (step s e m).0.transfers ≡ true → bytes_of (step s e m).0 k x 1 ≡ bytes_of s k x 1
others_leave stay s e m k x whole o quiet before after =
    let some = any_has (covers k x) s.transfers before in
    let u : Transfer = some.0 in
    let named = and_parts (not (is_strong u.class)) (names k u) (names_covered k x u some.2) in
    let lies = lies_named s u u.region k named.1 (all_has (λ (t : Transfer). Lies s t t.region) s.transfers o.ranges u some.1) in
    let h = begins s u k x (region_numbered s k) (orphan_numbered s k) refl refl lies in
    let b : List ℕ = bytes_of s k x 1 in
    let tells : Tells k x b s = λ r has is. sym (ap (λ found. region_part x 1 found (orphan_part x 1 (orphan_numbered s k))) (found_at s o.numbers r has k is)) in
    read_back k x b (step s e m).0 (stay s e m whole o).numbers (step_lasts k x b s tells h e m quiet after)
