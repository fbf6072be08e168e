-- A read that isn't refused.
use Rattle.std.proofs.Common.{◌≡◌, ℕ, ◌+◌, ◌-◌, ◌*◌, ◌≤◌, ◌^◌, zero, suc, Bool, true, false, not, List, [], ◌∷◌, ◌++◌, refl, sym, ap, subst, arith, rules, ◌∙◌, length, get_or, inl, inr, ⊎_elim}
use Rattle.std.specs.Prelude.{Option, Some, None, IfSome, find, is_some, nat_le, ◌&&◌, ◌==◌}
use Rattle.std.specs.Option.{option_map}
use Rattle.std.proofs.lemmas.Bool.{and_parts, not-false, leb-true, cases_Bool, eqb-true}
use Rattle.std.proofs.lemmas.Bool.Decides.{eqb_tells}
use Rattle.genie_base.specs.Bytes.{part}
use Rattle.genie_base.specs.Regions.{reach, is_reached}
use Rattle.genie_base.specs.declared.event.Event.TheVariants.{Read}
use Rattle.genie_base.specs.declared.numbers.ObjectId.{ObjectId}
use Rattle.genie_base.specs.declared.refusal.Refusal.{Refusal}
use Rattle.genie_base.specs.declared.refusal.Refusal.TheVariants as cause
use Rattle.genie_base.specs.declared.reply.Reply.TheVariants as reply
use Rattle.genie_frame.specs.declared.frame.Meters.{Meters}
use Rattle.genie_host.specs.Host.{HostView}
use Rattle.genie_store.specs.StoreView.{StoreView}
use Rattle.genie_object.specs.declared.memory.Memory.{Memory}
use Rattle.genie_object.specs.Calls.{OnlyMoves}
use Rattle.genie_object.specs.Costs.{AreBelow, Spends}
use Rattle.genie_object.specs.Memory.{seen}
use Rattle.genie_object.specs.Objects.{object_at, entry_at}
use Rattle.genie_object.specs.Lemmas.Spending.{below_spent}
use Rattle.genie_object.specs.Lemmas.Touching.{keeps_on}
use Rattle.genie_object.specs.Lemmas.Works.{below_more, page_most}
use Rattle.genie_region.specs.declared.region.Region.{Region}
use Rattle.genie_region.specs.Layouts.{extent}
use Rattle.genie_space.specs.Translations.{IsBacked}
use Rattle.genie_hiding.specs.Hidden.{objects_of, outside, is_among}
use Rattle.genie_model.specs.Refusing.{refuse, is_within}
use Rattle.genie_model.specs.Regions as model
use Rattle.genie_model.specs.Space.{bytes_reached}
use Rattle.genie_model.specs.State as flat
use Rattle.genie_model.specs.Tables.{entry}
use Rattle.genie_model.specs.Lemmas.Causes.{first_none}
use Rattle.genie_model.specs.Lemmas.Lists.{Has, find_has, has_left, has_right, all_has}
use Rattle.genie_kernel.specs.declared.kernel.Kernel.{Kernel}
use Rattle.genie_kernel.specs.Backed.{all_regions}
use Rattle.genie_kernel.specs.Good.{IsGood}
use Rattle.genie_kernel.specs.Laws.{ViewIsTidy, HiddenStay}
use Rattle.genie_kernel.specs.Regions.{regions_of, owned_regions, region_view, object_bytes}
use Rattle.genie_kernel.specs.Steps.{StepsTold, bytes_over}
use Rattle.genie_kernel.specs.Told.{rests_of, sents_of}
use Rattle.genie_kernel.specs.View.{Bytes, state_of, outline, no_bytes, bytes_with, view}
use Rattle.genie_kernel.specs.Lemmas.Asking.{ask_regions, ask_alive}
use Rattle.genie_kernel.specs.Lemmas.Processes.{find_map, is_some_map}
use Rattle.genie_kernel.specs.Lemmas.Stepping.{accepted_step}
use Rattle.genie_access.specs.Moving.{with_memory, KeepsSeen}
use Rattle.genie_access.specs.Reached.{LeadsTo, ReadsAt, bytes_at}
use Rattle.genie_access.specs.Reading.{ReadsObject, is_of_object}
use Rattle.genie_access.proofs.Outside.{told_object, object_alike, unhidden}
use Rattle.genie_access.proofs.Alike.{view_moved}

pub reach_view : (k : Kernel) (b : Bytes) (p a n : ℕ) → model.reach_of (state_of k b) p a n ≡ option_map (region_view b.seen.entry_bytes) (reach extent k.config.page a n (regions_of (entry k.spaces.processes p)))
reach_view k b p a n =
    let q : flat.Region → Bool = λ r. is_reached k.config.page a n (model.extent_of r) in
    ap (find q) (ask_regions k b p) ∙ find_map q (region_view b.seen.entry_bytes) (regions_of (entry k.spaces.processes p))

pub record MayRead (k : Kernel) (p a n : ℕ) : Type 0 where
  pub alive : is_some (entry k.spaces.processes p) ≡ true
  pub some : 1 ≤ n
  pub most : n ≤ k.config.page
  pub reached : is_some (reach extent k.config.page a n (regions_of (entry k.spaces.processes p))) ≡ true

-- what is known where it isn't refused
pub may_read : (k : Kernel) (p a n : ℕ) → refuse (outline k) (Read p a n) ≡ None → MayRead k p a n
may_read k p a n h =
    let s = outline k in
    let range : Bool × Refusal = (not (is_within 1 k.config.page n && is_some (model.reach_of s p a n)), cause.Range) in
    let first = first_none (not (model.is_alive s p), cause.Proc) (range ∷ []) h in
    let last = first_none range [] first.1 in
    let both = and_parts (is_within 1 k.config.page n) (is_some (model.reach_of s p a n)) (not-false _ last.0) in
    let within = and_parts (nat_le 1 n) (nat_le n k.config.page) both.0 in
    record {
      alive = sym (ask_alive k (no_bytes k.config.page) p) ∙ not-false (model.is_alive s p) first.0;
      some = leb-true 1 n within.0;
      most = leb-true n k.config.page within.1;
      reached = sym (ap is_some (reach_view k (no_bytes k.config.page) p a n) ∙ is_some_map (region_view (no_bytes k.config.page).seen.entry_bytes) (reach extent k.config.page a n (regions_of (entry k.spaces.processes p)))) ∙ both.1;
    }

pub record IsInside (page a n : ℕ) (r : Region) : Type 0 where
  pub low : r.start * page ≤ a
  pub high : a + n ≤ (r.start + r.pages) * page

inside_reached : (page a n : ℕ) (r : Region) → is_reached page a n (extent r) ≡ true → IsInside page a n r
inside_reached page a n r e = record { low = grind (arith, rules, e); high = grind (arith, rules, e) }

pub region_inside : (page a n : ℕ) (rs : List Region) (r : Region) → reach extent page a n rs ≡ Some r → IsInside page a n r
region_inside page a n rs r e = inside_reached page a n r (find_has (λ (x : Region). is_reached page a n (extent x)) rs r e).1

pub leads_to : (k : Kernel) (p a n off : ℕ) (r : Region) → refuse (outline k) (Read p a n) ≡ None → reach extent k.config.page a n (regions_of (entry k.spaces.processes p)) ≡ Some r → off ≡ a - r.start * k.config.page → LeadsTo k p a n r.object off
leads_to k p a n off r h e place =
    let may = may_read k p a n h in
    let inside = region_inside k.config.page a n (regions_of (entry k.spaces.processes p)) r e in
    let whole : (r.start + r.pages) * k.config.page ≡ r.start * k.config.page + k.config.page * r.pages = grind arith in
    record { region = r; found = e; object_is = refl; place = place; some = may.some; most = may.most; inside = omega (arith, inside.low, inside.high, whole, place) }

has_owned : (r : Region) (ps : List (Option (List Region))) (p : ℕ) → Has r (regions_of (entry ps p)) → Has r (owned_regions ps)
has_owned r [] p h = absurd h
has_owned r (x ∷ ps) zero h = has_left r (regions_of x) (owned_regions ps) h
has_owned r (x ∷ ps) (suc p) h = has_right r (regions_of x) (owned_regions ps) (has_owned r ps p h)

pub led_owned : (k : Kernel) (p a n : ℕ) (r : Region) → reach extent k.config.page a n (regions_of (entry k.spaces.processes p)) ≡ Some r → Has r (owned_regions k.spaces.processes)
led_owned k p a n r e = has_owned r k.spaces.processes p (find_has (λ (x : Region). is_reached k.config.page a n (extent x)) (regions_of (entry k.spaces.processes p)) r e).0

-- its object has an entry for each page
pub led_backed : (k : Kernel) (p a n : ℕ) (r : Region) → IsGood k → reach extent k.config.page a n (regions_of (entry k.spaces.processes p)) ≡ Some r → length (object_at k.memory.objects r.object.0) ≡ r.pages
led_backed k p a n r g e = all_has (IsBacked k.memory.objects) (all_regions k.spaces.processes k.hidden) g.backed.each r (has_left r (owned_regions k.spaces.processes) _ (led_owned k p a n r e))

-- what is read of the object, once room was made, is what the flat machine reads
pub reads_at : (k : Kernel) (m : Memory) (v w : StoreView) (p a n : ℕ) (o : ObjectId) (off : ℕ) (bytes : List ℕ) → IsGood k → KeepsSeen k m v w → LeadsTo k p a n o off → ReadsObject m w o.0 off n [] bytes → ReadsAt k v p a n bytes
reads_at k m v w p a n o off bytes g s l reads = by v.slots w.slots s.seen reads
  where
    by : (t u : Option (ℕ → List ℕ)) → option_map (outside (objects_of k.hidden)) (option_map (seen m) u) ≡ option_map (outside (objects_of k.hidden)) (option_map (seen k.memory) t) → IfSome u (λ slots. bytes ≡ [] ++ part off n (object_bytes (seen m slots).entry_bytes o.0 (length (object_at m.objects o.0)))) → IfSome t (λ slots. (rests sents : ℕ → List ℕ) → bytes ≡ bytes_at (state_of k (bytes_over k.memory slots rests sents)) p a n)
    by None u e z = tt
    by (Some t) None e z = absurd (cc)
    by (Some t) (Some u) e z = λ rests sents.
        let same : outside (objects_of k.hidden) (seen m u) ≡ outside (objects_of k.hidden) (seen k.memory t) = cc in
        let region = l.region in
        let has = led_owned k p a n region l.found in
        let pages : length (object_at m.objects region.object.0) ≡ region.pages = s.keeps.entries region.object.0 ∙ led_backed k p a n region g l.found in
        let whole = object_alike (seen m u).entry_bytes (seen k.memory t).entry_bytes region.object.0 region.pages (told_object k region g has (seen m u) (seen k.memory t) same) in
        z ∙ (λ i. part (l.place i) n (object_bytes (seen m u).entry_bytes (l.object_is i).0 (length (object_at m.objects (l.object_is i).0))))
        ∙ ap (λ c. part (a - region.start * k.config.page) n (object_bytes (seen m u).entry_bytes region.object.0 c)) pages
        ∙ ap (part (a - region.start * k.config.page) n) whole
        ∙ sym (ap (λ (x : Option flat.Region). bytes_reached (state_of k (bytes_over k.memory t rests sents)) x a n) (reach_view k (bytes_over k.memory t rests sents) p a n ∙ ap (option_map (region_view (seen k.memory t).entry_bytes)) l.found))

pub other_object : (o a : ℕ) (hidden : List ℕ) → is_among o hidden ≡ false → is_among a hidden ≡ true → (a == o) ≡ false
other_object o a hidden out among = ⊎_elim (λ (e : (a == o) ≡ true). let same : a ≡ o = eqb-true a o e in let clash : true ≡ false = sym among ∙ ap (λ z. is_among z hidden) same ∙ out in absurd (cc)) (λ e. e) (cases_Bool (a == o))

still : (p q : Bool) → (p ≡ true → q ≡ true) → q ≡ false → p ≡ false
still true q f e = let t = f refl in cc
still false q f e = refl

-- calls on one object that only move pages, once room was made
pub seen_on : HiddenStay → (k : Kernel) (mid m : Memory) (u v w : StoreView) (o : ℕ) → is_among o (objects_of k.hidden) ≡ false → KeepsSeen k mid u v → OnlyMoves (is_of_object o) mid m v w → ((i : ℕ) → (entry_at m.objects o i).writable ≡ true → (entry_at mid.objects o i).writable ≡ true) → KeepsSeen k m u w
seen_on law k mid m u v w o out s x narrow = record {
  sound = x.sound;
  sized = x.sized;
  fits = law (is_of_object o) mid m (objects_of k.hidden) s.sound x.keeps x.touches (λ a b among. other_object o a (objects_of k.hidden) out among) s.fits;
  seen = ap (option_map (outside (objects_of k.hidden))) x.seen ∙ s.seen;
  keeps = keeps_on k.memory mid m s.keeps x.keeps;
  counts = x.counts ∙ s.counts;
  guarded = λ n d l shut i. shut_still mid m o x narrow (get_or (owned_regions k.spaces.processes) n d).object.0 i (s.guarded n d l shut i);
}
  where
    shut_still : (mid m : Memory) (o : ℕ) → OnlyMoves (is_of_object o) mid m v w → ((i : ℕ) → (entry_at m.objects o i).writable ≡ true → (entry_at mid.objects o i).writable ≡ true) → (a i : ℕ) → (entry_at mid.objects a i).writable ≡ false → (entry_at m.objects a i).writable ≡ false
    shut_still mid m o x narrow a i was = elim (eqb_tells a o) [
      | inl e ↦ still (entry_at m.objects a i).writable (entry_at mid.objects a i).writable (subst (λ z. (entry_at m.objects z i).writable ≡ true → (entry_at mid.objects z i).writable ≡ true) (sym e.1) (narrow i)) was
      | inr e ↦ still (entry_at m.objects a i).writable (entry_at mid.objects a i).writable (x.touches.entries a i e.0).writable was
    ]

read_step : ViewIsTidy → (k : Kernel) (p a n : ℕ) (bytes : List ℕ) (slots rests sents : Option (ℕ → List ℕ)) → refuse (outline k) (Read p a n) ≡ None → IfSome slots (λ t. (rests sents : ℕ → List ℕ) → bytes ≡ bytes_at (state_of k (bytes_over k.memory t rests sents)) p a n) → StepsTold (option_map (state_of k) (bytes_with (option_map (seen k.memory) slots) rests sents)) (Read p a n) (option_map (state_of k) (bytes_with (option_map (seen k.memory) slots) rests sents)) (reply.Bytes bytes)
read_step tidy k p a n bytes None rests sents h r = tt
read_step tidy k p a n bytes (Some t) None sents h r = tt
read_step tidy k p a n bytes (Some t) (Some rs) None h r = tt
read_step tidy k p a n bytes (Some t) (Some rs) (Some ss) h r = accepted_step k (bytes_over k.memory t rs ss) (Read p a n) (state_of k (bytes_over k.memory t rs ss)) (reply.Bytes bytes) h (record { state = sym (tidy k (bytes_over k.memory t rs ss)); reply_is = ap reply.Bytes (r rs ss) })

-- a read that is answered is one step
pub read_told : ViewIsTidy → (k new : Kernel) (host : HostView) (v w : StoreView) (p a n : ℕ) (bytes : List ℕ) → IsGood k → new ≡ with_memory k new.memory new.clock → KeepsSeen k new.memory v w → refuse (outline k) (Read p a n) ≡ None → ReadsAt k v p a n bytes → StepsTold (view k host v) (Read p a n) (view new host w) (reply.Bytes bytes)
read_told tidy k new host v w p a n bytes g only s h r = subst (λ x. StepsTold (view k host v) (Read p a n) x (reply.Bytes bytes)) (sym (view_moved k new host v w g only s)) (read_step tidy k p a n bytes v.slots (rests_of host k.config) (sents_of host k.config) h r)

failed_step : (k : Kernel) (p a n : ℕ) (o : Option Bytes) → refuse (outline k) (Read p a n) ≡ None → StepsTold (option_map (state_of k) o) (Read p a n) (option_map (state_of k) o) reply.StoreFault
failed_step k p a n None h = tt
failed_step k p a n (Some b) h = accepted_step k b (Read p a n) (state_of k b) reply.StoreFault h (record { state = refl; reply_is = refl })

-- and so is one that the store fails
pub fault_told : (k new : Kernel) (host : HostView) (v w : StoreView) (p a n : ℕ) → IsGood k → new ≡ with_memory k new.memory new.clock → KeepsSeen k new.memory v w → refuse (outline k) (Read p a n) ≡ None → StepsTold (view k host v) (Read p a n) (view new host w) reply.StoreFault
fault_told k new host v w p a n g only s h = subst (λ x. StepsTold (view k host v) (Read p a n) x reply.StoreFault) (sym (view_moved k new host v w g only s)) (failed_step k p a n _ h)

-- the meters once room was made
pub room_meters : (old new : Meters) → AreBelow (2 ^ 63) old → Spends 0 0 8192 0 old new → AreBelow (2 ^ 63 + 2 ^ 20) new
room_meters old new below s = below_more (2 ^ 63 + 0 + 0 + 8192 + 0) (2 ^ 63 + 2 ^ 20) new (omega arith) (below_spent (2 ^ 63) 0 0 8192 0 old new below s)

led_page : (k : Kernel) (m : Memory) (v w : StoreView) → IsGood k → KeepsSeen k m v w → m.frames.page ≡ k.config.page
led_page k m v w g s = s.keeps.page ∙ g.sized.page

-- what was reached is inside its object, also once room was made
pub led_inside : (k : Kernel) (m : Memory) (v w : StoreView) (p a n : ℕ) (o : ObjectId) (off : ℕ) → IsGood k → KeepsSeen k m v w → LeadsTo k p a n o off → off + n ≤ m.frames.page * length (object_at m.objects o.0)
led_inside k m v w p a n o off g s l =
    let pages : length (object_at m.objects o.0) ≡ l.region.pages = (λ i. length (object_at m.objects (l.object_is i).0)) ∙ s.keeps.entries l.region.object.0 ∙ led_backed k p a n l.region g l.found in
    subst (λ z. off + n ≤ z * length (object_at m.objects o.0)) (sym (led_page k m v w g s)) (subst (λ z. off + n ≤ k.config.page * z) (sym pages) l.inside)

pub led_most : (k : Kernel) (m : Memory) (v w : StoreView) (p a n : ℕ) (o : ObjectId) (off : ℕ) → IsGood k → KeepsSeen k m v w → LeadsTo k p a n o off → n ≤ m.frames.page
led_most k m v w p a n o off g s l = let page = led_page k m v w g s in omega (arith, l.most, page)

pub led_outside : (k : Kernel) (p a n : ℕ) (o : ObjectId) (off : ℕ) → IsGood k → LeadsTo k p a n o off → is_among o.0 (objects_of k.hidden) ≡ false
led_outside k p a n o off g l = ap (λ (z : ObjectId). is_among z.0 (objects_of k.hidden)) l.object_is ∙ unhidden k g l.region (led_owned k p a n l.region l.found)

-- a buffer that is empty has room for a page
pub buffer_room : (k : Kernel) (p a n : ℕ) (o : ObjectId) (off : ℕ) (into : List ℕ) → IsGood k → LeadsTo k p a n o off → into ≡ [] → length into + n ≤ 4096
buffer_room k p a n o off into g l e =
    let most = page_most k.memory.frames.page g.sound.shaped.size in
    let none = ap length e in
    omega (arith, none, l.most, most, g.sized.page)
