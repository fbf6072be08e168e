-- Regions of processes are outside hidden ones.
use Rattle.std.proofs.Common.{◌≡◌, ℕ, ◌+◌, ◌≤◌, Bool, true, false, cond, List, [], ◌∷◌, ◌++◌, refl, sym, ap, ap₂, arith, ◌∙◌, map, get_or, inl, inr, ⊎_elim}
use Rattle.std.specs.Prelude.{Option, Some, None, count_by, nat_lt, flat_map, ◌==◌, if◌then◌else◌}
use Rattle.std.specs.List.{range_with_len}
use Rattle.std.specs.Option.{option_map}
use Rattle.std.proofs.lemmas.Bool.{cases_Bool, eq-eqb}
use Rattle.std.proofs.lemmas.List.Sums.{sum_by-cons}
use Rattle.genie_base.specs.Lemmas.Places.{num}
use Rattle.genie_object.specs.declared.memory.Memory.{Memory}
use Rattle.genie_object.specs.declared.objects.Entry.{Entry}
use Rattle.genie_object.specs.Memory.{Seen}
use Rattle.genie_object.specs.Objects.{object_at, entry_at, is_absent}
use Rattle.genie_object.specs.Touching.{Narrows}
use Rattle.genie_region.specs.declared.region.Region.{Region}
use Rattle.genie_hiding.specs.declared.hidden.Hidden.{Hidden}
use Rattle.genie_hiding.specs.Hidden.{object_of, objects_of, is_among, outside}
use Rattle.genie_model.specs.Lemmas.Lists.{Has, has_at, has_left, has_right}
use Rattle.genie_kernel.specs.declared.kernel.Kernel.{Kernel}
use Rattle.genie_kernel.specs.Backed.{AreBacked, AreGuarded, all_regions, hidden_region, has_object}
use Rattle.genie_kernel.specs.Good.{IsGood}
use Rattle.genie_kernel.specs.Regions.{object_bytes, region_view, process_view, processes_view, regions_of, owned_regions}
use Rattle.genie_kernel.specs.View.{Bytes, state_of, bytes_with}

count_has : (o : ℕ) (r : Region) (rs : List Region) → Has r rs → r.object.0 ≡ o → 1 ≤ count_by (has_object o) rs
count_has o r [] h e = absurd h
count_has o r (x ∷ rs) (inl h) e =
    let here : num (x.object.0 == o) ≡ 1 = ap num (eq-eqb x.object.0 o (ap (λ (y : Region). y.object.0) h ∙ e)) in
    omega (arith, here, sum_by-cons (λ (y : Region). num (has_object o y)) x rs)
count_has o r (x ∷ rs) (inr h) e = omega (arith, count_has o r rs h e, sum_by-cons (λ (y : Region). num (has_object o y)) x rs)

pub count_both : (o : ℕ) (rs qs : List Region) → count_by (has_object o) (rs ++ qs) ≡ count_by (has_object o) rs + count_by (has_object o) qs
count_both o [] qs = omega arith
count_both o (x ∷ rs) qs = omega (arith, count_both o rs qs, sum_by-cons (λ (y : Region). num (has_object o y)) x rs, sum_by-cons (λ (y : Region). num (has_object o y)) x (rs ++ qs))

count_hidden : (o : ℕ) (hidden : List Hidden) → count_by (λ h. h == o) (objects_of hidden) ≡ count_by (has_object o) (map hidden_region hidden)
count_hidden o [] = refl
count_hidden o (h ∷ hidden) = omega (arith, count_hidden o hidden, sum_by-cons (λ (y : Region). num (has_object o y)) (hidden_region h) (map hidden_region hidden), sum_by-cons (λ n. num (n == o)) (object_of h) (objects_of hidden))

pub most_one : (b : Bool) → (if b then 0 else 1) ≤ 1
most_one true = omega arith
most_one false = omega arith

none_above : (n : ℕ) → n ≡ 0 → nat_lt 0 n ≡ false
none_above n e = ap (nat_lt 0) e

-- an object is that of one region, owned or hidden
pub backed_unhidden : (objects : List (List Entry)) (ps : List (Option (List Region))) (hidden : List Hidden) → AreBacked objects (all_regions ps hidden) → (r : Region) → Has r (owned_regions ps) → is_among r.object.0 (objects_of hidden) ≡ false
backed_unhidden objects ps hidden backed r h =
    let o : ℕ = r.object.0 in
    let most = most_one (is_absent (object_at objects o)) in
    let one = backed.one o in
    let some = count_has o r (owned_regions ps) h refl in
    none_above _ (omega (arith, some, one, most, count_both o (owned_regions ps) (map hidden_region hidden), count_hidden o hidden))

pub unhidden : (k : Kernel) → IsGood k → (r : Region) → Has r (owned_regions k.spaces.processes) → is_among r.object.0 (objects_of k.hidden) ≡ false
unhidden k g r h = backed_unhidden k.memory.objects k.spaces.processes k.hidden g.backed r h

-- permissions that only shrink outside hidden regions leave read-only regions so
pub guards_outside : (k : Kernel) (m : Memory) → IsGood k → ((o i : ℕ) → is_among o (objects_of k.hidden) ≡ false → Narrows (entry_at k.memory.objects o i) (entry_at m.objects o i)) → AreGuarded m.objects (owned_regions k.spaces.processes)
guards_outside k m g narrows = λ n d l shut i.
    let r = get_or (owned_regions k.spaces.processes) n d in
    let was = g.guarded n d l shut i in
    let n = narrows r.object.0 i (unhidden k g r (has_at (owned_regions k.spaces.processes) n d l)) in
    ⊎_elim
    (λ (yes : (entry_at m.objects r.object.0 i).writable ≡ true). let before = n.writable yes in cc)
    (λ no. no)
    (cases_Bool (entry_at m.objects r.object.0 i).writable)

pub bytes_alike : (s t : ℕ → ℕ → List ℕ) (o : ℕ) (xs : List ℕ) → ((i : ℕ) → s o i ≡ t o i) → flat_map (s o) xs ≡ flat_map (t o) xs
bytes_alike s t o [] e = refl
bytes_alike s t o (x ∷ xs) e = ap₂ ◌++◌ (e x) (bytes_alike s t o xs e)

regions_alike : (s t : ℕ → ℕ → List ℕ) (rs : List Region) → ((r : Region) (i : ℕ) → Has r rs → s r.object.0 i ≡ t r.object.0 i) → map (region_view s) rs ≡ map (region_view t) rs
regions_alike s t [] e = refl
regions_alike s t (r ∷ rs) e = ap₂ ◌∷◌ (ap (λ bytes. record (region_view t r) { bytes = bytes }) (bytes_alike s t r.object.0 _ (λ i. e r i (inl refl)))) (regions_alike s t rs (λ q i h. e q i (inr h)))

process_alike : (s t : ℕ → ℕ → List ℕ) (p : Option (List Region)) (q : List ℕ) → ((r : Region) (i : ℕ) → Has r (regions_of p) → s r.object.0 i ≡ t r.object.0 i) → process_view s p q ≡ process_view t p q
process_alike s t None q e = refl
process_alike s t (Some rs) q e = ap (λ rows. Some (record { queue = q; regions = rows })) (regions_alike s t rs e)

processes_alike : (s t : ℕ → ℕ → List ℕ) (ps : List (Option (List Region))) (qs : List (List ℕ)) → ((r : Region) (i : ℕ) → Has r (owned_regions ps) → s r.object.0 i ≡ t r.object.0 i) → processes_view s ps qs ≡ processes_view t ps qs
processes_alike s t [] qs e = refl
processes_alike s t (p ∷ ps) [] e = ap₂ ◌∷◌ (process_alike s t p [] (λ r i h. e r i (has_left r (regions_of p) (owned_regions ps) h))) (processes_alike s t ps [] (λ r i h. e r i (has_right r (regions_of p) (owned_regions ps) h)))
processes_alike s t (p ∷ ps) (q ∷ qs) e = ap₂ ◌∷◌ (process_alike s t p q (λ r i h. e r i (has_left r (regions_of p) (owned_regions ps) h))) (processes_alike s t ps qs (λ r i h. e r i (has_right r (regions_of p) (owned_regions ps) h)))

abbrev bytes_outside : List ℕ → Bytes → Bytes
bytes_outside hidden b = record b { seen = outside hidden b.seen }

-- so what hidden regions hold is nothing of the state
pub state_outside : (k : Kernel) (b : Bytes) → IsGood k → state_of k (bytes_outside (objects_of k.hidden) b) ≡ state_of k b
state_outside k b g =
    let same = processes_alike (outside (objects_of k.hidden) b.seen).entry_bytes b.seen.entry_bytes k.spaces.processes k.queues (λ r i h. ap (λ x. cond x [] (b.seen.entry_bytes r.object.0 i)) (unhidden k g r h)) in
    ap (λ ps. record (state_of k b) { processes = ps }) same

told_outside : (k : Kernel) → IsGood k → (s : Option Seen) (rests sents : Option (ℕ → List ℕ)) → option_map (state_of k) (bytes_with (option_map (outside (objects_of k.hidden)) s) rests sents) ≡ option_map (state_of k) (bytes_with s rests sents)
told_outside k g None rests sents = refl
told_outside k g (Some s) None sents = refl
told_outside k g (Some s) (Some rests) None = refl
told_outside k g (Some s) (Some rests) (Some sents) = ap Some (state_outside k (record { seen = s; rests = rests; sents = sents }) g)

-- two memories that show the same outside hidden regions
pub told_same : (k : Kernel) → IsGood k → (s t : Option Seen) (rests sents : Option (ℕ → List ℕ)) → option_map (outside (objects_of k.hidden)) s ≡ option_map (outside (objects_of k.hidden)) t → option_map (state_of k) (bytes_with s rests sents) ≡ option_map (state_of k) (bytes_with t rests sents)
told_same k g s t rests sents same = sym (told_outside k g s rests sents) ∙ ap (λ x. option_map (state_of k) (bytes_with x rests sents)) same ∙ told_outside k g t rests sents

-- an object of a process's region shows the same then
pub told_object : (k : Kernel) (r : Region) → IsGood k → Has r (owned_regions k.spaces.processes) → (s t : Seen) → outside (objects_of k.hidden) s ≡ outside (objects_of k.hidden) t → (i : ℕ) → s.entry_bytes r.object.0 i ≡ t.entry_bytes r.object.0 i
told_object k r g h s t same i =
    let shown : (if is_among r.object.0 (objects_of k.hidden) then [] else s.entry_bytes r.object.0 i) ≡ (if is_among r.object.0 (objects_of k.hidden) then [] else t.entry_bytes r.object.0 i) = ap (λ (x : Seen). x.entry_bytes r.object.0 i) same in
    let no = unhidden k g r h in
    sym (ap (λ b. cond b [] (s.entry_bytes r.object.0 i)) no) ∙ shown ∙ ap (λ b. cond b [] (t.entry_bytes r.object.0 i)) no

pub object_alike : (s t : ℕ → ℕ → List ℕ) (o n : ℕ) → ((i : ℕ) → s o i ≡ t o i) → object_bytes s o n ≡ object_bytes t o n
object_alike s t o n e = bytes_alike s t o (range_with_len 0 n) e
