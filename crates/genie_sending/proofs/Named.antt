-- The region or orphan of a weak output, and where its range lies under its loans.
use Rattle.std.proofs.Common.{◌≡◌, ℕ, ◌+◌, ◌-◌, ◌≤◌, zero, suc, Bool, true, false, not, cond, List, [], ◌∷◌, ◌++◌, refl, sym, ap, ap₂, subst, arith, rules, ◌∙◌, take, drop, map, filter, inl, inr}
use Rattle.std.specs.Prelude.{Option, Some, None, find, is_some, nat_le, nat_lt, ◌&&◌, if◌then◌else◌}
use Rattle.std.specs.Option.{option_map}
use Rattle.std.proofs.lemmas.List.{drop-drop, drop-take, map-append}
use Rattle.genie_base.specs.Bytes.{part}
use Rattle.genie_base.specs.declared.semantics.Class.{Class}
use Rattle.genie_base.specs.declared.semantics.Class.TheVariants.{Copy, Share, Move, WeakMove}
use Rattle.genie_base.specs.declared.semantics.Direction.TheVariants as direction
use Rattle.genie_base.specs.Transfers.{class_of, is_strong}
use Rattle.genie_plan.specs.Plans.{IsWithin, output_frames, range_bytes}
use Rattle.genie_frame.specs.FrameTable.{FrameTable}
use Rattle.genie_region.specs.declared.region.Region.{Region}
use Rattle.genie_orderly.specs.Orderly.{MayName}
use Rattle.genie_orderly.specs.Lemmas.FoundRegions.{all_of, region_found}
use Rattle.genie_model.specs.Lemmas.Lists.{Has, all_has, find_has, has_map}
use Rattle.genie_model.specs.Regions as model
use Rattle.genie_model.specs.Sending.{named_bytes}
use Rattle.genie_model.specs.State as flat
use Rattle.genie_kernel.specs.declared.kernel.Kernel.{Kernel}
use Rattle.genie_kernel.specs.declared.transfer.Loans.{Loans}
use Rattle.genie_kernel.specs.declared.transfer.Loans.TheVariants.{Nothing, Outward, Inward}
use Rattle.genie_kernel.specs.declared.transfer.Transfer.{Transfer}
use Rattle.genie_kernel.specs.Calls.{begins_at, first_waiting, is_strong_call, region_number, waits_for}
use Rattle.genie_kernel.specs.Good.{IsGood}
use Rattle.genie_kernel.specs.Held.{HoldsPages, weak_transfers}
use Rattle.genie_kernel.specs.Loans.{first_of, frames_of}
use Rattle.genie_kernel.specs.Planned.{LendsOut, LendsRange}
use Rattle.genie_kernel.specs.Regions.{has_id, owned_regions, processes_view, region_view, regions_of}
use Rattle.genie_kernel.specs.Transfers.{transfer_view}
use Rattle.genie_kernel.specs.View.{Bytes, no_bytes, outline, state_of}
use Rattle.genie_kernel.specs.Lemmas.Processes.{find_map, regions_in}
use Rattle.genie_sending.specs.Sending.{IsLentOut, payload_under}
use Rattle.genie_sending.proofs.Outputs.{IsFirstOutput}

take_take : (n m : ℕ) (xs : List ℕ) → n ≤ m → take n (take m xs) ≡ take n xs
take_take zero m xs l = refl
take_take (suc n) zero xs l = absurd (omega (arith, l))
take_take (suc n) (suc m) [] l = refl
take_take (suc n) (suc m) (x ∷ xs) l = ap (λ z. x ∷ z) (take_take n m xs (omega (arith, l)))

-- a part of a part
pub part_of_part : (j m x len : ℕ) (xs : List ℕ) → j + m ≤ len → part j m (part x len xs) ≡ part (x + j) m xs
part_of_part j m x len xs l =
    let split : len ≡ j + (len - j) = omega (arith, l) in
    ap (λ q. take m (drop j (take q (drop x xs)))) split
    ∙ ap (take m) (drop-take j (len - j) (drop x xs))
    ∙ take_take m (len - j) (drop j (drop x xs)) (omega (arith, l))
    ∙ ap (take m) (drop-drop j x xs)

regions_joined : (s : ℕ → ℕ → List ℕ) (ps : List (Option (List Region))) (qs : List (List ℕ)) → all_of (processes_view s ps qs) ≡ map (region_view s) (owned_regions ps)
regions_joined s [] qs = refl
regions_joined s (p ∷ ps) [] = ap₂ ◌++◌ (regions_in s p []) (regions_joined s ps []) ∙ sym (map-append (region_view s) (regions_of p) (owned_regions ps))
regions_joined s (p ∷ ps) (q ∷ qs) = ap₂ ◌++◌ (regions_in s p q) (regions_joined s ps qs) ∙ sym (map-append (region_view s) (regions_of p) (owned_regions ps))

-- the region of this number, whoever has it
pub region_seen : (k : Kernel) (b : Bytes) (n : ℕ) → model.region_numbered (state_of k b) n ≡ option_map (region_view b.seen.entry_bytes) (find (has_id n) (owned_regions k.spaces.processes))
region_seen k b n =
    region_found (state_of k b) n ∙ ap (find (model.is_region n)) (regions_joined b.seen.entry_bytes k.spaces.processes k.queues) ∙ find_map (model.is_region n) (region_view b.seen.entry_bytes) (owned_regions k.spaces.processes)

none_within : (x : ℕ) (pairs : List (ℕ × ℕ)) → model.bytes_within x 0 pairs ≡ []
none_within x [] = refl
none_within x (e ∷ pairs) =
    let place : ℕ = e.0 in
    let out : model.is_within_range x 0 e ≡ false = nothing_between x place in
    (λ i. (if out i then e.1 ∷ [] else []) ++ none_within x pairs i)
  where
    nothing_between : (x y : ℕ) → (nat_le x y && nat_lt y (x + 0)) ≡ false
    nothing_between x y = grind (arith, rules)

no_part : (r : Option flat.Region) (o : Option flat.Orphan) (x : ℕ) → model.region_part x 0 r (model.orphan_part x 0 o) ≡ []
no_part None None x = refl
no_part None (Some o) x = none_within x o.bytes
no_part (Some r) o x = refl

-- no byte of a region or orphan
pub nothing_named : (s : flat.State) (r : Option ℕ) (x : ℕ) → named_bytes s r x 0 ≡ []
nothing_named s None x = refl
nothing_named s (Some n) x = no_part (model.region_numbered s n) (model.orphan_numbered s n) x

named_by : (s : flat.State) (c : Class) (owner region : Option ℕ) → is_strong c ≡ false → MayName s c direction.Outward owner region → is_some region ≡ true
named_by s Copy owner region e h = absurd (cc)
named_by s Share owner region e h = h
named_by s Move owner region e h = absurd (cc)
named_by s WeakMove owner region e h = h

some_number : (o : Option ℕ) → is_some o ≡ true → (n : ℕ) × (o ≡ Some n)
some_number None e = absurd (cc)
some_number (Some n) e = (n, refl)

pub has_filtered : {X : Type 0} (q : X → Bool) (xs : List X) (x : X) → Has x xs → q x ≡ true → Has x (filter q xs)
has_filtered q [] x h e = absurd h
has_filtered q (y ∷ ys) x (inl is) e = let passes : q y ≡ true = ap q is ∙ e in subst (λ c. Has x (cond c (y ∷ filter q ys) (filter q ys))) (sym passes) (inl is)
has_filtered q (y ∷ ys) x (inr later) e = elim (q y) as (λ c. Has x (cond c (y ∷ filter q ys) (filter q ys))) [ true ↦ inr (has_filtered q ys x later e) | false ↦ has_filtered q ys x later e ]

pub range_of : (page : ℕ) (t : Transfer) (loans : Loans) → LendsOut page t loans → LendsRange page (begins_at t) t.len (frames_of loans) (first_of loans) t.len
range_of page t Nothing h = absurd h
range_of page t (Outward p) h = record { pages = h.1.pages; begins = h.1.begins; length_kept = refl }
range_of page t (Inward p) h = absurd h

pub payload_is : (page : ℕ) (frames : FrameTable) (t : Transfer) (loans : Loans) → LendsOut page t loans → payload_under frames loans ≡ range_bytes frames (frames_of loans) (first_of loans) t.len
payload_is page frames t Nothing h = absurd h
payload_is page frames t (Outward p) h = ap (λ n. range_bytes frames (output_frames p.loans.items) p.first n) h.1.length_kept
payload_is page frames t (Inward p) h = absurd h

pub within_is : (page : ℕ) (frames : FrameTable) (t : Transfer) (loans : Loans) → LendsOut page t loans → IsLentOut frames t.len loans → IsWithin frames (frames_of loans) (first_of loans) t.len
within_is page frames t Nothing h l = absurd h
within_is page frames t (Outward p) h l = subst (IsWithin frames (output_frames p.loans.items) p.first) h.1.length_kept l.0.within
within_is page frames t (Inward p) h l = absurd h

module _ (k : Kernel) (g : IsGood k) (d : ℕ) (t : Transfer) (is : IsFirstOutput k.transfers d t) (weak : is_strong_call t ≡ false) where
  there : Has t k.transfers
  there = (find_has (waits_for d) k.transfers t is.waits).0

  -- it names a region or orphan
  pub its_number : (n : ℕ) × (region_number t ≡ Some n)
  its_number =
      let see : Transfer → flat.Transfer = transfer_view (no_bytes k.config.page).seen.kept_bytes k.devices k.pools (first_waiting k.transfers) in
      let may : MayName (outline k) (class_of t.sem) t.dir t.owner (region_number t) = all_has (λ (u : flat.Transfer). MayName (outline k) u.class u.direction u.owner u.region) (outline k).transfers g.orderly.holds.held (see t) (has_map see t k.transfers there) in
      some_number (region_number t) (named_by (outline k) (class_of t.sem) t.owner (region_number t) weak (subst (λ dir. MayName (outline k) (class_of t.sem) dir t.owner (region_number t)) is.outward may))

  -- its pages are those of its loans
  pub its_pages : HoldsPages k.config.page k.memory (owned_regions k.spaces.processes) g.held.page_in g.held.frame_of t
  its_pages =
      let passes : not (is_strong_call t) ≡ true = ap not weak in
      all_has (HoldsPages k.config.page k.memory (owned_regions k.spaces.processes) g.held.page_in g.held.frame_of) (weak_transfers k.transfers) g.held.each t (has_filtered (λ (u : Transfer). not (is_strong_call u)) k.transfers t there passes)
