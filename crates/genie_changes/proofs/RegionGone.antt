-- A settled kernel without a region.
use Rattle.std.proofs.Common.{◌≡◌, ◌≢◌, ℕ, ◌<◌, ◌≤◌, zero, suc, Bool, true, false, cond, List, [], ◌∷◌, refl, sym, ap, subst, arith, ◌∙◌, length, map, find, get_or, set, eq-eqb}
use Rattle.std.specs.Prelude.{Option, Some, None, count_by, if◌then◌else◌}
use Rattle.std.proofs.lemmas.List.Sums.{sum_by-cons, sum_by-append}
use Rattle.genie_base.specs.Lemmas.Places.{num}
use Rattle.genie_hiding.specs.declared.hidden.Hidden.{Hidden}
use Rattle.genie_hiding.specs.Hidden.{no_hidden, objects_of, object_of}
use Rattle.genie_hiding.specs.Lemmas.Naming.{cached_kept}
use Rattle.genie_hiding.specs.Lemmas.Searching.{object_at_hidden, hidden_length}
use Rattle.genie_object.specs.declared.memory.Memory.{Memory}
use Rattle.genie_object.specs.declared.objects.Entry.{Entry}
use Rattle.genie_object.specs.Leaving.{Removes, is_object}
use Rattle.genie_object.specs.Memory.{seen, frame_of, entry_frame}
use Rattle.genie_object.specs.Objects.{object_at, entry_at, is_absent, no_entry}
use Rattle.genie_object.specs.Sound.{FitsHidden}
use Rattle.genie_region.specs.declared.region.Region.{Region}
use Rattle.genie_model.specs.Lemmas.Lists.{Has}
use Rattle.genie_model.specs.Tables.{entry}
use Rattle.genie_kernel.specs.declared.kernel.Kernel.{Kernel}
use Rattle.genie_kernel.specs.Backed.{has_object, hidden_region}
use Rattle.genie_kernel.specs.Kept.{Kept}
use Rattle.genie_kernel.specs.Regions.{has_id, owned_regions}
use Rattle.genie_kernel.specs.Lemmas.Staying.{at_least}
use Rattle.genie_changes.specs.Paged.{HavePages}
use Rattle.genie_changes.specs.Premises.{ShowsLeft}
use Rattle.genie_changes.specs.Regions.{without_number}
use Rattle.genie_changes.specs.Removing.{DropsObject, IsOnlyIn}
use Rattle.genie_changes.specs.Removal.{RemovesRegion, removed_from, unlisted}
use Rattle.genie_changes.specs.Settled.{IsSettled}
use Rattle.genie_changes.proofs.Backing.{few_less}
use Rattle.genie_changes.proofs.Leaving.{backed_less}
use Rattle.genie_changes.proofs.Lent.{LeavesOwners}
use Rattle.genie_changes.proofs.RegionLeft as left
use Rattle.genie_changes.proofs.RegionLeft.{LeavesObject}

no_frame : (m : Memory) (o i f : ℕ) → object_at m.objects o ≡ [] → entry_frame m o i ≡ Some f → ⊥
no_frame m o i f gone e =
    let none : entry_at m.objects o i ≡ no_entry = ap (λ (l : List Entry). get_or l i no_entry) gone in
    let bad : None ≡ Some f = sym (ap (λ (x : Entry). frame_of m.pages.pages x.page) none) ∙ e in
    cc

-- an object that is removed has no entry
removes_leaves : (o : ℕ) (old new : Memory) → Removes o old new → LeavesObject o old new
removes_leaves o old new d = record {
  sound = d.sound;
  others = d.others;
  places = d.places;
  lent = d.lent;
  systems = d.systems;
  frames = d.frames;
  number = d.number;
  slots = d.slots;
  most = d.most;
  unheld = λ i f held e. no_frame new o i f d.gone e;
}

absent_same : (a b : List Entry) → length b ≡ length a → is_absent b ≡ is_absent a
absent_same [] [] e = refl
absent_same [] (y ∷ b) e = absurd (omega (arith, e))
absent_same (x ∷ a) [] e = absurd (omega (arith, e))
absent_same (x ∷ a) (y ∷ b) e = refl

one_most : (b : Bool) → (if b then 0 else 1) ≤ 1
one_most true = omega arith
one_most false = omega arith

object_counted : (hs : List Hidden) (j : ℕ) (d : Hidden) → j < length hs → 1 ≤ count_by (has_object (object_of (get_or hs j d))) (map hidden_region hs)
object_counted [] j d l = absurd (omega (arith, l))
object_counted (h ∷ hs) zero d l = let here : num (has_object (object_of h) h.region) ≡ 1 = ap num (eq-eqb (object_of h) (object_of h) refl) in omega (arith, sum_by-cons (λ (x : Region). cond (has_object (object_of h) x) 1 0) h.region (map hidden_region hs), here)
object_counted (h ∷ hs) (suc j) d l = let later = object_counted hs j d (omega (arith, l)) in omega (arith, sum_by-cons (λ (x : Region). cond (has_object (object_of (get_or hs j d)) x) 1 0) h.region (map hidden_region hs), later)

pub some_below : {X : Type 0} (xs : List (Option X)) (p : ℕ) (x : X) → entry xs p ≡ Some x → p < length xs
some_below xs p x e = left.some_below xs p x e

module _ (p : ℕ) (r : Region) (k : Kernel) (m : Memory) (rs : List Region) (there : entry k.spaces.processes p ≡ Some rs) (found : find (has_id r.id.0) rs ≡ Some r) (d : Removes r.object.0 k.memory m) (g : IsSettled k) where
  abbrev n : ℕ
  n = r.id.0

  abbrev o : ℕ
  o = r.object.0

  abbrev ps : List (Option (List Region))
  ps = k.spaces.processes

  abbrev owned : List Region
  owned = owned_regions ps

  abbrev left_ps : List (Option (List Region))
  left_ps = set ps p (Some (without_number n rs))

  abbrev left_queues : List (List ℕ)
  left_queues = set k.queues p (unlisted n (get_or k.queues p []))

  abbrev after : Kernel
  after = removed_from k m p n rs

  abbrev l : LeavesObject o k.memory m
  l = removes_leaves o k.memory m d

  pub only : IsOnlyIn n p ps
  only = left.only p r k m rs there found l g

  pub owns : LeavesOwners k.memory m
  owns = left.owns p r k m rs there found l g

  pub there_below : p < length k.queues
  there_below = left.there_below p r k m rs there found l g

  pub quiet : (a i : ℕ) → a ≢ o → is_object o a i ≡ false
  quiet = left.quiet p r k m rs there found l g

  pub left_apart : (q : Region) → Has q (without_number n owned) → Has q owned × (q.object.0 ≢ o)
  left_apart = left.left_apart p r k m rs there found l g

  pub shows_left : (slots : ℕ → List ℕ) → HavePages k.memory slots → ShowsLeft k r (seen k.memory slots).entry_bytes (seen m slots).kept_bytes
  shows_left = left.shows_left p r k m rs there found l g

  owned_has : Has r owned
  owned_has = left.owned_has p r k m rs there found l g

  hidden_apart : (j : ℕ) → j < length (objects_of k.hidden) → get_or (objects_of k.hidden) j 0 ≢ o
  hidden_apart j l same =
      let is = object_at_hidden k.hidden j in
      let hid = object_counted k.hidden j no_hidden (omega (arith, l, hidden_length k.hidden)) in
      let as_one : count_by (has_object (get_or (objects_of k.hidden) j 0)) (map hidden_region k.hidden) ≡ count_by (has_object o) (map hidden_region k.hidden) = ap (λ x. count_by (has_object x) (map hidden_region k.hidden)) same in
      let as_two : count_by (has_object (get_or (objects_of k.hidden) j 0)) (map hidden_region k.hidden) ≡ count_by (has_object (object_of (get_or k.hidden j no_hidden))) (map hidden_region k.hidden) = ap (λ x. count_by (has_object x) (map hidden_region k.hidden)) is in
      let own : num (has_object o r) ≡ 1 = ap num (eq-eqb o o refl) in
      let among = at_least (λ (x : Region). num (has_object o x)) owned r owned_has in
      let both = sum_by-append (λ (x : Region). num (has_object o x)) owned (map hidden_region k.hidden) in
      let one = g.backed.one o in
      omega (arith, hid, as_one, as_two, own, among, both, one, one_most (is_absent (object_at k.memory.objects o)))

  left_cached : FitsHidden m (objects_of k.hidden)
  left_cached = record {
    cached = λ j l. let a : ℕ = get_or (objects_of k.hidden) j 0 in let ne = hidden_apart j l in cached_kept (is_object o) k.memory m a g.sound d.touches (d.sizes a ne) (λ i q e. quiet a i ne) (g.cached.cached j l);
    apart = g.cached.apart;
  }

  drops : DropsObject r k.memory.objects m.objects
  drops = record {
    absent = ap is_absent d.gone;
    others = d.sizes;
    absences = λ a ne. absent_same (object_at k.memory.objects a) (object_at m.objects a) (d.sizes a ne);
  }

  settled : IsSettled after
  settled = left.settled_with p r k m rs there found l g k.hidden left_cached (few_less ps k.hidden p rs there n g.few) (backed_less k.memory.objects m.objects ps k.hidden p r rs there found (left.each_apart p r k m rs there found l g) drops g.backed)

  kept : Kept k after
  kept = left.kept_with p r k m rs there found l g k.hidden

pub removal_settles : (p : ℕ) (r : Region) (old new : Kernel) → RemovesRegion p r old new → IsSettled old → IsSettled new
removal_settles p r old new x g = subst IsSettled (sym x.left) (settled p r old new.memory x.regions x.there x.found x.object g)

pub removal_keeps : (p : ℕ) (r : Region) (old new : Kernel) → RemovesRegion p r old new → IsSettled old → Kept old new
removal_keeps p r old new x g = subst (Kept old) (sym x.left) (kept p r old new.memory x.regions x.there x.found x.object g)
