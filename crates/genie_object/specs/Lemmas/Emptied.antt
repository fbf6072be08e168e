-- An entry that is emptied: its page goes with its last holder.
use Rattle.std.proofs.Common.{◌≡◌, ◌≢◌, ℕ, ◌<◌, Bool, true, false, List, refl, arith, ap, rules, length, sym, ◌∙◌, inl, inr}
use Rattle.std.specs.Prelude.{◌==◌, ◌&&◌, Option, Some, None, if◌then◌else◌}
use Rattle.genie_object.specs.declared.pages.Place.{Place}
use Rattle.genie_object.specs.declared.pages.Place.TheVariants.{Zero}
use Rattle.genie_object.specs.declared.pages.PageId.{PageId}
use Rattle.genie_object.specs.declared.pages.PageInfo.{PageInfo}
use Rattle.genie_object.specs.declared.objects.Entry.{Entry}
use Rattle.genie_object.specs.declared.memory.Memory.{Memory}
use Rattle.genie_object.specs.Pages.{page_at}
use Rattle.genie_object.specs.Objects.{entry_at, object_at, set_entry, no_entry}
use Rattle.genie_object.specs.Memory.{Seen, seen, see_entry, zeros, page_bytes, frame_of, frame_in}
use Rattle.genie_object.specs.Sound.{IsSound}
use Rattle.genie_object.specs.Leaving.{dropped, left, left_one, left_by, emptied_entry, place_gone, see_gone, IsOwnPage, IsSharedPage, CanDrop, IsUnheld, IsEmpty, Empties, is_object}
use Rattle.genie_object.specs.Touching.{KeepsLoans, is_entry}
use Rattle.genie_object.specs.Lemmas.Entries.{entry_same, entry_or, entries_size}
use Rattle.genie_object.specs.Lemmas.PlaceOf.{same_place}
use Rattle.genie_object.specs.Lemmas.Naming.{named_shared}
use Rattle.genie_object.specs.Lemmas.Touching.{touches_more, touches_on, touches_none, lasts_on, keeps_all}
use Rattle.genie_object.specs.Lemmas.Dropped.{sound_dropped, shows_dropped, seen_dropped, keeps_dropped, entry_bytes, touches_dropped, lasts, systems, frame_dropped, fewer_dropped, page_other, unnamed_p, left_length as owners_length, slots_length, there as dropped_there}
use Rattle.genie_object.specs.Lemmas.Left.{here, sound_left, seen_left, keeps_left, touches_left, fewer_left, place_kept, there as left_there}

pub empties_none : (spoken : ℕ → ℕ → Bool) (m : Memory) → IsSound m → Empties spoken m m
empties_none spoken m s = record {
  sound = s;
  entries = λ slots a b n. refl;
  others = λ a b n. refl;
  places = λ a b n. refl;
  touches = touches_none spoken m;
  lent = λ f l. record { lent = l; bytes = refl; owner = inl refl };
  systems = λ f. refl;
  sizes = λ a. refl;
  frames = refl;
  number = refl;
  slots = refl;
  fewer = omega arith;
  most = refl;
}

-- an entry that the call doesn't speak of is another one
other_kept : (m : Memory) (o i : ℕ) → i < length (object_at m.objects o) → (a b : ℕ) → is_entry o i a b ≡ false → entry_at (set_entry m.objects o i no_entry) a b ≡ entry_at m.objects a b
other_kept m o i there a b e = elim (entry_or m.objects o i no_entry there a b) [
  | inl s ↦ let bad : true ≡ false = sym (ap (λ n. is_entry o i n b) s.0 ∙ ap (is_entry o i o) s.1 ∙ here o i) ∙ e in cc
  | inr n ↦ n.1
]

-- the entry's own page went with it
pub empties_own : (m : Memory) (o i : ℕ) (p : PageId) → IsOwnPage m o i p → Empties (is_entry o i) m (dropped m o i p.0)
empties_own m o i p x = record {
  sound = sound_dropped m o i p x;
  entries = λ slots a b n. entry_bytes m o i p x slots a b ∙ ap (λ v. if v then zeros m.frames else (seen m slots).entry_bytes a b) n;
  others = other_kept m o i (dropped_there m o i p x);
  places = λ a b n. let same = other_kept m o i (dropped_there m o i p x) a b n in same_place (dropped m o i p.0) m a b same (λ q e. ap (λ (r : PageInfo). r.place) (page_other m o i p x q.0 (unnamed_p m o i p x a b q (ap (λ (t : Entry). t.page) same ∙ e))));
  touches = touches_dropped m o i p x (is_entry o i) (here o i);
  lent = λ f l. lasts m o i p x f l (frame_dropped m o i p x f);
  systems = λ f. systems m o i p x f (frame_dropped m o i p x f);
  sizes = entries_size m.objects o i no_entry (dropped_there m o i p x);
  frames = refl;
  number = owners_length m.frames.owners m.frames.counts (page_at m.pages.pages p.0).place;
  slots = slots_length m.slots (page_at m.pages.pages p.0).place;
  fewer = fewer_dropped m o i p x;
  most = refl;
}

-- the page stays with those that share it
pub empties_shared : (m : Memory) (o i : ℕ) (p : PageId) → IsSharedPage m o i p → Empties (is_entry o i) m (left m o i p)
empties_shared m o i p x = record {
  sound = sound_left m o i p x;
  entries = λ slots a b n. ap (λ (t : Seen). t.entry_bytes a b) (seen_left m o i p x slots) ∙ ap (λ v. if v then zeros m.frames else (seen m slots).entry_bytes a b) n;
  others = other_kept m o i (left_there m o i p x);
  places = λ a b n. same_place (left m o i p) m a b (other_kept m o i (left_there m o i p x) a b n) (λ q e. place_kept m o i p x q.0);
  touches = touches_left m o i p x (is_entry o i) (here o i);
  lent = λ f l. record { lent = l; bytes = refl; owner = inl refl };
  systems = λ f. refl;
  sizes = entries_size m.objects o i no_entry (left_there m o i p x);
  frames = refl;
  number = refl;
  slots = refl;
  fewer = fewer_left m o i p x;
  most = refl;
}

-- what is so of an entry without a page, of one with a page of its own and of one that shares its page, is so of each
pub left_cases : (m : Memory) (o i : ℕ) (p : PageId) (P : Memory → Place → Type 0) → IsSound m → (entry_at m.objects o i).page ≡ Some p → (IsOwnPage m o i p → P (dropped m o i p.0) (page_at m.pages.pages p.0).place) → (IsSharedPage m o i p → P (left m o i p) Zero) → P (left_by m o i (Some p)) (place_gone m (Some p))
left_cases m o i p P s is own shared = elim ((page_at m.pages.pages p.0).shares == 1) as (λ v. ((page_at m.pages.pages p.0).shares == 1) ≡ v → P (left_one m o i p v) (if v then (page_at m.pages.pages p.0).place else Zero)) [
  | true ↦ λ e. let one : (page_at m.pages.pages p.0).shares ≡ 1 = grind (arith, rules, e) in own (record { sound = s; is_page = is; alone = one })
  | false ↦ λ e. let more : (page_at m.pages.pages p.0).shares ≢ 1 = grind (arith, rules, e) in shared (record { sound = s; is_page = is; many = omega (arith, more, named_shared m.pages.pages m.objects o i p s.shared is) })
] refl

pub emptied_cases : (m : Memory) (o i : ℕ) (P : Memory → Place → Type 0) → IsSound m → (IsEmpty m o i → P m Zero) → ((p : PageId) → IsOwnPage m o i p → P (dropped m o i p.0) (page_at m.pages.pages p.0).place) → ((p : PageId) → IsSharedPage m o i p → P (left m o i p) Zero) → P (emptied_entry m o i) (place_gone m (entry_at m.objects o i).page)
emptied_cases m o i P s none own shared = by_page (entry_at m.objects o i).page refl where
  by_page : (page : Option PageId) → (entry_at m.objects o i).page ≡ page → P (left_by m o i page) (place_gone m page)
  by_page None e = none e
  by_page (Some p) e = left_cases m o i p P s e (own p) (shared p)

pub empties_entry : (m : Memory) (o i : ℕ) → IsSound m → Empties (is_entry o i) m (emptied_entry m o i)
empties_entry m o i s = emptied_cases m o i (λ n from. Empties (is_entry o i) m n) s (λ e. empties_none (is_entry o i) m s) (empties_own m o i) (empties_shared m o i)

pub is_emptied : (m : Memory) (o i : ℕ) → IsSound m → IsEmpty (emptied_entry m o i) o i
is_emptied m o i s = emptied_cases m o i (λ n from. IsEmpty n o i) s (λ e. e)
    (λ p x. ap (λ (e : Entry). e.page) (entry_same m.objects o i no_entry (dropped_there m o i p x)))
    (λ p x. ap (λ (e : Entry). e.page) (entry_same m.objects o i no_entry (left_there m o i p x)))

-- an empty entry shows zeros
empty_shows : (m : Memory) (o i : ℕ) (slots : ℕ → List ℕ) → IsEmpty m o i → seen m slots ≡ see_entry (seen m slots) o i (zeros m.frames)
empty_shows m o i slots e = λ k. record { entry_bytes = λ a b. shown a b k; kept_bytes = (seen m slots).kept_bytes } where
  shown : (a b : ℕ) → (seen m slots).entry_bytes a b ≡ (see_entry (seen m slots) o i (zeros m.frames)).entry_bytes a b
  shown a b = elim ((a == o) && (b == i)) as (λ v. ((a == o) && (b == i)) ≡ v → (seen m slots).entry_bytes a b ≡ (if v then zeros m.frames else (seen m slots).entry_bytes a b)) [
    | true ↦ λ t. let w : (a ≡ o) × (b ≡ i) = grind (arith, rules) in (λ k. (seen m slots).entry_bytes (w.0 k) (w.1 k)) ∙ ap (page_bytes m.frames m.pages.pages slots) e
    | false ↦ λ t. refl
  ] refl

pub shows_emptied : (m : Memory) (o i : ℕ) (slots : ℕ → List ℕ) → IsSound m → seen (emptied_entry m o i) slots ≡ see_gone m (place_gone m (entry_at m.objects o i).page) (see_entry (seen m slots) o i (zeros m.frames))
shows_emptied m o i slots s = emptied_cases m o i (λ n from. seen n slots ≡ see_gone m from (see_entry (seen m slots) o i (zeros m.frames))) s (empty_shows m o i slots) (λ p x. shows_dropped m o i p x slots) (λ p x. seen_left m o i p x slots)

pub can_drop : (m : Memory) (o i : ℕ) (p : PageId) → IsUnheld m o i → IsOwnPage m o i p → CanDrop m o i p
can_drop m o i p h x = record { own = x; unheld = λ f e. h f.0 (ap (frame_of m.pages.pages) x.is_page ∙ ap frame_in e) }

-- where no device holds the page, no frame shows more than before, and all loans are kept
pub seen_emptied : (m : Memory) (o i : ℕ) (slots : ℕ → List ℕ) → IsSound m → IsUnheld m o i → seen (emptied_entry m o i) slots ≡ see_entry (seen m slots) o i (zeros m.frames)
seen_emptied m o i slots s h = emptied_cases m o i (λ n from. seen n slots ≡ see_entry (seen m slots) o i (zeros m.frames)) s (empty_shows m o i slots) (λ p x. seen_dropped m o i p (can_drop m o i p h x) slots) (λ p x. seen_left m o i p x slots)

pub keeps_emptied : (m : Memory) (o i : ℕ) → IsSound m → IsUnheld m o i → KeepsLoans m (emptied_entry m o i)
keeps_emptied m o i s h = emptied_cases m o i (λ n from. KeepsLoans m n) s (λ e. keeps_all m) (λ p x. keeps_dropped m o i p (can_drop m o i p h x)) (keeps_left m o i)

pub empties_on : (spoken : ℕ → ℕ → Bool) (a b c : Memory) → Empties spoken a b → Empties spoken b c → Empties spoken a c
empties_on spoken a b c x y = record {
  sound = y.sound;
  entries = λ slots o i e. y.entries slots o i e ∙ x.entries slots o i e;
  others = λ o i e. y.others o i e ∙ x.others o i e;
  places = λ o i e. y.places o i e ∙ x.places o i e;
  touches = touches_on spoken a b c x.touches y.touches;
  lent = λ f l. let u = x.lent f l in lasts_on a.frames b.frames c.frames f u (y.lent f u.lent);
  systems = λ f. y.systems f ∙ x.systems f;
  sizes = λ o. y.sizes o ∙ x.sizes o;
  frames = y.frames ∙ (λ k. record (x.frames k) { owners = c.frames.owners });
  number = y.number ∙ x.number;
  slots = y.slots ∙ x.slots;
  fewer = omega (arith, x.fewer, y.fewer);
  most = y.most ∙ x.most;
}

pub empties_more : (few many : ℕ → ℕ → Bool) (a b : Memory) → ((o i : ℕ) → many o i ≡ false → few o i ≡ false) → Empties few a b → Empties many a b
empties_more few many a b h x = record {
  sound = x.sound;
  entries = λ slots o i e. x.entries slots o i (h o i e);
  others = λ o i e. x.others o i (h o i e);
  places = λ o i e. x.places o i (h o i e);
  touches = touches_more few many a b h x.touches;
  lent = x.lent;
  systems = x.systems;
  sizes = x.sizes;
  frames = x.frames;
  number = x.number;
  slots = x.slots;
  fewer = x.fewer;
  most = x.most;
}

-- an entry of another object, and another entry of the same one
pub entry_object : (o i a b : ℕ) → is_object o a b ≡ false → is_entry o i a b ≡ false
entry_object o i a b e = ap (λ v. v && (b == i)) e

pub other_entry : (o i j : ℕ) → j ≢ i → is_entry o i o j ≡ false
other_entry o i j n = grind (arith, rules, n)
