-- Whether a state is orderly doesn't hang on the payloads of its transfers.
use Rattle.std.proofs.Common.{◌≡◌, ℕ, ◌-◌, ◌<◌, ◌≤◌, Bool, true, false, List, [], ◌∷◌, refl, sym, ap, subst, arith, ◌∙◌, length, map, filter, get_or, inl, inr}
use Rattle.std.specs.Prelude.{Option, Some, None, All, AllPairs, IfSome, IsTrue, count_by, sum_by, if◌then◌else◌}
use Rattle.std.specs.List.{list_any}
use Rattle.std.proofs.lemmas.List.{get_or-map, length-map}
use Rattle.std.proofs.lemmas.List.Elements.{All-map}
use Rattle.genie_base.specs.Lemmas.Mapped.{All-from_map}
use Rattle.genie_orderly.specs.Orderly.{GoesToInput, IsFilled, IsOrderly, IsTransfer, IsUnderWay, KeepsDepth, Lies, LiesInOrphan, LiesInRegion, MayName, ReceivesForInput, WaitsBehind, fills, holds, moves_into, receives_for}
use Rattle.genie_base.specs.Configs.{pool_of}
use Rattle.genie_base.specs.declared.region.RegionState.{RegionState}
use Rattle.genie_base.specs.declared.semantics.Class.{Class}
use Rattle.genie_base.specs.declared.semantics.Class.TheVariants.{Copy, Share, Move, WeakMove}
use Rattle.genie_base.specs.declared.semantics.Direction.{Direction}
use Rattle.genie_base.specs.declared.semantics.Direction.TheVariants.{Outward, Inward}
use Rattle.genie_model.specs.Pending as pending
use Rattle.genie_model.specs.Regions.{regions_at, region_numbered, orphan_numbered}
use Rattle.genie_model.specs.Space.{cut, is_named, tidy}
use Rattle.genie_model.specs.State.{Datagram, Device, Orphan, Region, State, Transfer}
use Rattle.genie_model.specs.Tables.{change, entry}
use Rattle.genie_model.specs.declared.fate.Fate.{Fate}
use Rattle.genie_model.specs.declared.fate.Fate.TheVariants.{Gathering, Matched, Skipped}
use Rattle.genie_kernel.specs.Lemmas.Blind.{sum_map}
use Rattle.genie_kernel.specs.Lemmas.Tidying.{any_map}

-- a transfer without its payload
abbrev pub bare : Transfer → Transfer
bare t = record t { payload = [] }

-- of these, all but the payloads is the same
abbrev pub SameButPayloads : List Transfer → List Transfer → Type 0
SameButPayloads us ts = map bare us ≡ map bare ts

pub changed_alike : (p : Transfer → Bool) (f g : Transfer → Transfer) → ((t : Transfer) → bare (f t) ≡ bare (g t)) → (ts : List Transfer) → SameButPayloads (change p f ts) (change p g ts)
changed_alike p f g h [] = refl
changed_alike p f g h (t ∷ ts) = elim (p t) as (λ b. map bare (if b then f t ∷ ts else t ∷ change p f ts) ≡ map bare (if b then g t ∷ ts else t ∷ change p g ts)) [ true ↦ ap (λ u. u ∷ map bare ts) (h t) | false ↦ ap (λ l. bare t ∷ l) (changed_alike p f g h ts) ]

module _ (ts us : List Transfer) (same : SameButPayloads us ts) where
  all_alike : (P : Transfer → Type 0) → ((t : Transfer) → P t → P (bare t)) → ((t : Transfer) → P (bare t) → P t) → All P ts → All P us
  all_alike P to from h =
      let without : All P (map bare ts) = All-map P bare ts (λ i d l. to (get_or ts i d) (h i d l)) in
      let over : All (λ (t : Transfer). P (bare t)) us = All-from_map P bare us (subst (All P) (sym same) without) in
      λ i d l. from (get_or us i d) (over i d l)

  long : length us ≡ length ts
  long = sym (length-map us bare) ∙ ap length same ∙ length-map ts bare

  at_place : (i : ℕ) (d : Transfer) → i < length us → bare (get_or us i d) ≡ bare (get_or ts i d)
  at_place i d l = let size = long in sym (get_or-map bare us i d (bare d) l) ∙ ap (λ z. get_or z i (bare d)) same ∙ get_or-map bare ts i d (bare d) (omega (arith, l, size))

  pairs_alike : (R : Transfer → Transfer → Type 0) → ((t u : Transfer) → R t u → R (bare t) (bare u)) → ((t u : Transfer) → R (bare t) (bare u) → R t u) → AllPairs R ts → AllPairs R us
  pairs_alike R to from h = λ i j d l m.
      let size = long in
      let was = to (get_or ts i d) (get_or ts j d) (h i j d l (omega (arith, m, size))) in
      from (get_or us i d) (get_or us j d) (subst (λ z. R z (bare (get_or us j d))) (sym (at_place i d (omega (arith, l, m)))) (subst (λ z. R (bare (get_or ts i d)) z) (sym (at_place j d m)) was))

  sum_alike : (f : Transfer → ℕ) → ((t : Transfer) → f (bare t) ≡ f t) → sum_by f us ≡ sum_by f ts
  sum_alike f h =
      let ext : (λ (t : Transfer). f (bare t)) ≡ f = λ i t. h t i in
      ap (λ (z : Transfer → ℕ). sum_by z us) (sym ext) ∙ sym (sum_map f bare us) ∙ ap (sum_by f) same ∙ sum_map f bare ts ∙ ap (λ (z : Transfer → ℕ). sum_by z ts) ext

  count_alike : (q : Transfer → Bool) → ((t : Transfer) → q (bare t) ≡ q t) → count_by q us ≡ count_by q ts
  count_alike q h = sum_alike (λ t. if q t then 1 else 0) (λ t. ap (λ b. if b then 1 else 0) (h t))

  any_alike : (q : Transfer → Bool) → ((t : Transfer) → q (bare t) ≡ q t) → list_any q us ≡ list_any q ts
  any_alike q h =
      let ext : (λ (t : Transfer). q (bare t)) ≡ q = λ i t. h t i in
      ap (λ (z : Transfer → Bool). list_any z us) (sym ext) ∙ sym (any_map q bare us) ∙ ap (list_any q) same ∙ any_map q bare ts ∙ ap (λ (z : Transfer → Bool). list_any z ts) ext

  -- orphans are cut alike
  pub cut_alike : (os : List Orphan) → map (cut us) (filter (is_named us) os) ≡ map (cut ts) (filter (is_named ts) os)
  cut_alike os = λ i. map (λ (o : Orphan). record o { bytes = filter (λ (e : ℕ × ℕ). any_alike (pending.covers o.number e.0) (λ t. refl) i) o.bytes }) (filter (λ (o : Orphan). any_alike (pending.names_weakly o.number) (λ t. refl) i) os)

  module _ (s : State) where
    abbrev old : State
    old = record s { transfers = ts }

    abbrev new : State
    new = record s { transfers = us }

    lies_to : (t : Transfer) (r : Option ℕ) → Lies old t r → Lies new (bare t) r
    lies_to t None h = h
    lies_to t (Some n) (inl h) = inl (region_to (region_numbered old n) h) where
      region_to : (o : Option Region) → LiesInRegion t o → LiesInRegion (bare t) o
      region_to None h = h
      region_to (Some r) h = h
    lies_to t (Some n) (inr h) = inr (orphan_to (orphan_numbered old n) h) where
      orphan_to : (o : Option Orphan) → LiesInOrphan t o → LiesInOrphan (bare t) o
      orphan_to None h = h
      orphan_to (Some o) h = h

    lies_from : (t : Transfer) (r : Option ℕ) → Lies new (bare t) r → Lies new t r
    lies_from t None h = h
    lies_from t (Some n) (inl h) = inl (region_from (region_numbered new n) h) where
      region_from : (o : Option Region) → LiesInRegion (bare t) o → LiesInRegion t o
      region_from None h = h
      region_from (Some r) h = h
    lies_from t (Some n) (inr h) = inr (orphan_from (orphan_numbered new n) h) where
      orphan_from : (o : Option Orphan) → LiesInOrphan (bare t) o → LiesInOrphan t o
      orphan_from None h = h
      orphan_from (Some o) h = h

    input_alike : (d : ℕ) (f : Fate) → GoesToInput old d f → GoesToInput new d f
    input_alike d Skipped h = h
    input_alike d (Matched n) h = (h.0, all_alike (λ (t : Transfer). t.number ≡ n → IsTrue (pending.is_inward t.direction) × (t.device ≡ d)) (λ t x. x) (λ t x. x) h.1)
    input_alike d Gathering h = h

    present_alike : (d : ℕ) (g : Option Datagram) → IfSome g (IsUnderWay old d) → IfSome g (IsUnderWay new d)
    present_alike d None h = h
    present_alike d (Some g) h = record { left = h.left; input = input_alike d g.fate h.input }

    device_alike : (d : ℕ) (v : Option Device) → ReceivesForInput old d v → ReceivesForInput new d v
    device_alike d None h = h
    device_alike d (Some v) h = present_alike d v.present h

    holds_alike : (owner : Option ℕ) (n : ℕ) → IsTrue (holds old owner n) → IsTrue (holds new owner n)
    holds_alike None n h = h
    holds_alike (Some p) n h = h

    may_alike : (c : Class) (dir : Direction) (owner region : Option ℕ) → MayName old c dir owner region → MayName new c dir owner region
    may_alike Copy dir owner region h = h
    may_alike Share dir owner region h = h
    may_alike Move Outward owner region h = h
    may_alike Move Inward owner None h = h
    may_alike Move Inward owner (Some n) h = holds_alike owner n h
    may_alike WeakMove dir owner region h = h

    filled_alike : (p n : ℕ) (state : RegionState) → IsFilled ts p n state → IsFilled us p n state
    filled_alike p n state h = record {
      one = λ z. count_alike (fills z n) (λ t. refl) ∙ h.one z;
      own = λ z. all_alike (λ (t : Transfer). fills z n t ≡ true → t.owner ≡ Some p) (λ t x. x) (λ t x. x) (h.own z);
    }

    depth_alike : (d : ℕ) (v : Option Device) → KeepsDepth (pending.arrived old d) v → KeepsDepth (pending.arrived new d) v
    depth_alike d v h = subst (λ n. KeepsDepth n v) (sym (count_alike (pending.has_arrived d) (λ t. refl))) h

    pub payloads_blind : tidy new ≡ new → IsOrderly old → IsOrderly new
    payloads_blind tidied o = record {
      config = o.config;
      places = o.places;
      devices = o.devices;
      regions = o.regions;
      wired = subst (λ n. n ≤ s.config.frames - pool_of s.config.devices - 4) (sym (sum_alike (pending.cost_of s.config.page) (λ t. refl))) o.wired;
      committed = o.committed;
      transfers = record {
        few = subst (λ n. n ≤ 64) (sym long) o.transfers.few;
        order = pairs_alike (λ (t u : Transfer). t.number < u.number) (λ t u x. x) (λ t u x. x) o.transfers.order;
        below = all_alike (λ (t : Transfer). t.number < s.next) (λ t x. x) (λ t x. x) o.transfers.below;
      };
      numbers = o.numbers;
      orphans = λ i e l. any_alike (pending.names_weakly (get_or s.orphans i e).number) (λ t. refl) ∙ o.orphans i e l;
      rise = o.rise;
      order = o.order;
      tidied = tidied;
      ranges = all_lies o.ranges;
      holds = record {
        held = all_alike (λ (t : Transfer). MayName new t.class t.direction t.owner t.region) (λ t x. x) (λ t x. x) (λ i e l. may_alike (get_or ts i e).class (get_or ts i e).direction (get_or ts i e).owner (get_or ts i e).region (o.holds.held i e l));
        one = λ n h. subst (λ c. c ≤ 1) (sym (count_alike (pending.names n) (λ t. refl))) (o.holds.one n (sym (any_alike (moves_into n) (λ t. refl)) ∙ h));
      };
      posted = all_alike (λ (t : Transfer). IsTrue (pending.is_posted t.phase) → IsTrue (pending.is_inward t.direction)) (λ t x. x) (λ t x. x) o.posted;
      matched = λ d. device_alike d (entry s.devices d) (o.matched d);
      below = o.below;
      filled = λ p i e l. let r : Region = get_or (regions_at s p) i e in filled_alike p r.number r.state (o.filled p i e l);
      weak = o.weak;
      calls = all_alike IsTransfer (λ t x. record { phase = x.phase; placed = x.placed; stored = x.stored }) (λ t x. record { phase = x.phase; placed = x.placed; stored = x.stored }) o.calls;
      queues = pairs_alike WaitsBehind (λ t u x. x) (λ t u x. x) o.queues;
      moving = all_alike (λ (t : Transfer). pending.is_moving t.phase ≡ true → receives_for (entry s.devices t.device) ≡ Some t.number) (λ t x. x) (λ t x. x) o.moving;
      received = all_alike (λ (t : Transfer). receives_for (entry s.devices t.device) ≡ Some t.number → pending.is_moving t.phase ≡ true) (λ t x. x) (λ t x. x) o.received;
      datagrams = o.datagrams;
      depths = λ d. depth_alike d (entry s.devices d) (o.depths d);
    }
      where
        all_lies : All (λ (t : Transfer). Lies old t t.region) ts → All (λ (t : Transfer). Lies new t t.region) us
        all_lies h =
            let without : All (λ (t : Transfer). Lies new t t.region) (map bare ts) = All-map (λ (t : Transfer). Lies new t t.region) bare ts (λ i d l. lies_to (get_or ts i d) (get_or ts i d).region (h i d l)) in
            let over : All (λ (t : Transfer). Lies new (bare t) t.region) us = All-from_map (λ (t : Transfer). Lies new t t.region) bare us (subst (All (λ (t : Transfer). Lies new t t.region)) (sym same) without) in
            λ i d l. lies_from (get_or us i d) (get_or us i d).region (over i d l)
