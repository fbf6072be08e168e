-- Which process has a region.
use Rattle.std.proofs.Common.{◌≡◌, ◌≢◌, ℕ, ◌+◌, ◌<◌, zero, suc, Bool, true, false, List, [], ◌∷◌, refl, sym, ap, ap₂, subst, arith, ◌∙◌, length, ⊎_elim}
use Rattle.std.specs.Prelude.{Option, Some, ◌||◌}
use Rattle.std.specs.List.{list_any}
use Rattle.std.proofs.lemmas.Bool.{cases_eq}
use Rattle.genie_region.specs.declared.region.Region.{Region}
use Rattle.genie_model.specs.Lemmas.Lists.{Has, any_append, find_has, has_any, has_left, has_right}
use Rattle.genie_model.specs.Tables.{entry}
use Rattle.genie_space.specs.Spaces.{AddressSpaces}
use Rattle.genie_kernel.specs.declared.transfer.Transfer.{Transfer}
use Rattle.genie_kernel.specs.Orphans.{is_owned}
use Rattle.genie_kernel.specs.Regions.{has_id, owned_regions, regions_of}
use Rattle.genie_arrivals.specs.declared.owned.OwnedRegion.{OwnedRegion}
use Rattle.genie_arrivals.specs.Owners.{IsNamed}
use Rattle.genie_arrivals.specs.Replies.{is_owned_number, is_there}

or_true : (a b : Bool) → b ≡ true → (a || b) ≡ true
or_true true b e = refl
or_true false b e = e

pub owned_in : (n : ℕ) (ps : List (Option (List Region))) (p : ℕ) → list_any (has_id n) (regions_of (entry ps p)) ≡ true → is_owned (owned_regions ps) n ≡ true
owned_in n [] p e = e
owned_in n (x ∷ ps) zero e = any_append (has_id n) (regions_of x) (owned_regions ps) ∙ ap (λ b. b || list_any (has_id n) (owned_regions ps)) e
owned_in n (x ∷ ps) (suc p) e = any_append (has_id n) (regions_of x) (owned_regions ps) ∙ or_true (list_any (has_id n) (regions_of x)) (list_any (has_id n) (owned_regions ps)) (owned_in n ps p e)

pub owned_nowhere : (n : ℕ) (ps : List (Option (List Region))) → ((p : ℕ) → p < length ps → list_any (has_id n) (regions_of (entry ps p)) ≡ false) → is_owned (owned_regions ps) n ≡ false
owned_nowhere n [] h = refl
owned_nowhere n (x ∷ ps) h = any_append (has_id n) (regions_of x) (owned_regions ps) ∙ ap₂ (λ a b. a || b) (h zero (omega arith)) (owned_nowhere n ps (λ p l. h (suc p) (omega (arith, l))))

pub more_below : (P : ℕ → Type 0) (m : ℕ) → ((p : ℕ) → p < m → P p) → P m → (p : ℕ) → p < m + 1 → P p
more_below P m below at p l = ⊎_elim (λ (e : p ≡ m). subst P (sym e) at) (λ (ne : p ≢ m). below p (omega (arith, l, ne))) (cases_eq p m)

-- where a process has the region, it is there
pub named_there : (spaces : AddressSpaces) (t : Transfer) (o : OwnedRegion) → IsNamed spaces t o → is_there (owned_regions spaces.processes) t ≡ true
named_there spaces t o h =
    let found = find_has (has_id h.number) (regions_of (entry spaces.processes o.pid)) o.region h.owner.found in
    ap (is_owned_number (owned_regions spaces.processes)) h.names ∙ owned_in h.number spaces.processes o.pid (has_any (has_id h.number) o.region (regions_of (entry spaces.processes o.pid)) found.0 found.1)

-- a region of a process is one of all
pub has_owned : (r : Region) (ps : List (Option (List Region))) (p : ℕ) (rs : List Region) → entry ps p ≡ Some rs → Has r rs → Has r (owned_regions ps)
has_owned r [] p rs e h = absurd (cc)
has_owned r (x ∷ ps) zero rs e h = has_left r (regions_of x) (owned_regions ps) (subst (λ (o : Option (List Region)). Has r (regions_of o)) (sym e) h)
has_owned r (x ∷ ps) (suc p) rs e h = has_right r (regions_of x) (owned_regions ps) (has_owned r ps p rs e h)

pub had_owned : (r : Region) (ps : List (Option (List Region))) (p : ℕ) → Has r (regions_of (entry ps p)) → Has r (owned_regions ps)
had_owned r [] p h = absurd h
had_owned r (x ∷ ps) zero h = has_left r (regions_of x) (owned_regions ps) h
had_owned r (x ∷ ps) (suc p) h = has_right r (regions_of x) (owned_regions ps) (had_owned r ps p h)
