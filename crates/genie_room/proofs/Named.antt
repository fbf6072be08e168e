-- Each page that is somewhere is named by an entry of an owned region's object, or of a hidden one's.
use Rattle.std.proofs.Common.{◌≡◌, ℕ, ◌<◌, ◌≤◌, ◌+◌, suc, zero, Bool, true, false, List, [], ◌∷◌, ◌++◌, refl, sym, arith, ap, map, get_or, ◌∙◌, inl, inr}
use Rattle.std.specs.Prelude.{◌==◌, ◌⊎◌, count_by, sum_by, All, Option, None, Some, if◌then◌else◌}
use Rattle.std.proofs.lemmas.Bool.{eqb-true, cases_lt}
use Rattle.std.proofs.lemmas.List.Sums.{sum_by-cons, sum_by-append}
use Rattle.std.proofs.lemmas.List.Concat.{flat_map-cons}
use Rattle.genie_base.specs.Lemmas.Mapped.{sum_by-map}
use Rattle.genie_base.specs.Lemmas.Places.{num}
use Rattle.genie_frame.specs.declared.frame.FrameId.{FrameId}
use Rattle.genie_object.specs.declared.memory.Memory.{Memory}
use Rattle.genie_object.specs.declared.objects.Entry.{Entry}
use Rattle.genie_object.specs.declared.pages.PageId.{PageId}
use Rattle.genie_object.specs.declared.pages.Place.TheVariants.{Frame}
use Rattle.genie_object.specs.Objects.{object_at, entry_at, names, is_absent}
use Rattle.genie_object.specs.Pages.{page_at}
use Rattle.genie_object.specs.Sound.{times_named, FitsHidden, IsCached}
use Rattle.genie_region.specs.declared.region.Region.{Region}
use Rattle.genie_space.specs.Translations.{IsBacked}
use Rattle.genie_hiding.specs.declared.hidden.Hidden.{Hidden}
use Rattle.genie_hiding.specs.Hidden.{times_hidden, is_hidden, objects_of, object_of}
use Rattle.genie_hiding.specs.Lemmas.Searching.{hidden_by}
use Rattle.genie_kernel.specs.Backed.{AreBacked, all_regions, has_object, hidden_region}
use Rattle.genie_kernel.specs.Asked.{pages_in}
use Rattle.genie_kernel.specs.Regions.{owned_regions, regions_of}
use Rattle.genie_kernel.specs.View.{no_bytes}
use Rattle.genie_kernel.specs.Lemmas.Asking.{ask_committed}
use Rattle.genie_room.specs.Places.{pages_of, PagesAreCommitted}
use Rattle.genie_room.specs.Lemmas.Totals.{total, total_none, total_same, total_counts, total_sums, sum_all}

-- how many entries of a region name the page
abbrev pub names_in : List (List Entry) → ℕ → Region → ℕ
names_in objects p r = count_by (names p) (object_at objects r.object.0)

abbrev pub times_owned : List (List Entry) → List Region → ℕ → ℕ
times_owned objects regions p = sum_by (names_in objects p) regions

-- an object with an entry that names the page
record NamesPage (objects : List (List Entry)) (p : ℕ) : Type 0 where
  object : ℕ
  some : 0 < count_by (names p) (object_at objects object)

naming : (objects : List (List Entry)) (p : ℕ) → 0 < times_named objects p → NamesPage objects p
naming [] p l = absurd (omega arith)
naming (x ∷ objects) p l = elim (cases_lt 0 (count_by (names p) x)) [
  | inl h ↦ record { object = 0; some = h }
  | inr h ↦ let at = naming objects p (omega (arith, l, h, sum_by-cons (count_by (names p)) x objects)) in record { object = suc at.object; some = at.some }
]

is_there : (p : ℕ) (es : List Entry) → 0 < count_by (names p) es → is_absent es ≡ false
is_there p [] l = absurd (omega arith)
is_there p (e ∷ es) l = refl

of_region : (objects : List (List Entry)) (p o : ℕ) (r : Region) (b : Bool) → has_object o r ≡ b → num b ≡ 1 → count_by (names p) (object_at objects o) ≤ names_in objects p r
of_region objects p o r true e one = let same = ap (λ a. count_by (names p) (object_at objects a)) (eqb-true r.object.0 o e) in omega (arith, same)
of_region objects p o r false e one = absurd (omega arith)

has_or : (b : Bool) → (num b ≡ 1) ⊎ (num b ≡ 0)
has_or true = inl refl
has_or false = inr refl

of_regions : (objects : List (List Entry)) (p o : ℕ) (regions : List Region) → 0 < count_by (has_object o) regions → count_by (names p) (object_at objects o) ≤ times_owned objects regions p
of_regions objects p o [] l = absurd (omega arith)
of_regions objects p o (r ∷ rs) l = elim (has_or (has_object o r)) [
  | inl one ↦ omega (arith, of_region objects p o r (has_object o r) refl one, sum_by-cons (names_in objects p) r rs)
  | inr none ↦ omega (arith, of_regions objects p o rs (omega (arith, l, none, sum_by-cons (λ x. num (has_object o x)) r rs)), sum_by-cons (names_in objects p) r rs)
]

-- an entry of a region names each page that an entry names
named_by : (objects : List (List Entry)) (regions : List Region) (p : ℕ) → AreBacked objects regions → 0 < times_named objects p → 0 < times_owned objects regions p
named_by objects regions p backed l =
    let at = naming objects p l in
    let one = backed.one at.object ∙ ap (λ b. if b then 0 else 1) (is_there p (object_at objects at.object) at.some) in
    omega (arith, at.some, of_regions objects p at.object regions (omega (arith, one)))

hidden_sum : (objects : List (List Entry)) (p : ℕ) (hidden : List Hidden) → times_owned objects (map hidden_region hidden) p ≡ times_hidden objects (objects_of hidden) p
hidden_sum objects p hidden = sum_by-map (names_in objects p) hidden_region hidden ∙ sym (sum_by-map (λ o. count_by (names p) (object_at objects o)) object_of hidden)

pub named_split : (objects : List (List Entry)) (ps : List (Option (List Region))) (hidden : List Hidden) (p : ℕ) → AreBacked objects (all_regions ps hidden) → 0 < times_named objects p → 0 < times_owned objects (owned_regions ps) p + times_hidden objects (objects_of hidden) p
named_split objects ps hidden p backed l = omega (arith, named_by objects (all_regions ps hidden) p backed l, sum_by-append (names_in objects p) (owned_regions ps) (map hidden_region hidden), hidden_sum objects p hidden)

-- where the page of a hidden region is
pub record IsInFrame (m : Memory) (p : ℕ) : Type 0 where
  pub frame : FrameId
  pub is_place : (page_at m.pages.pages p).place ≡ Frame frame

abbrev is_page : ℕ → Option PageId → Bool
is_page p page = elim page [ None ↦ false | Some q ↦ q.0 == p ]

framed_entry : (m : Memory) (o i p : ℕ) (page : Option PageId) (e : (entry_at m.objects o i).page ≡ page) → IsCached m o → names p (entry_at m.objects o i) ≡ true → IsInFrame m p
framed_entry m o i p None e cached n = let none : false ≡ true = sym (ap (is_page p) e) ∙ n in cc
framed_entry m o i p (Some q) e cached n =
    let same : (q.0 == p) ≡ true = sym (ap (is_page p) e) ∙ n in
    record {
      frame = cached.frame i q e;
      is_place = sym (ap (λ a. (page_at m.pages.pages a).place) (eqb-true q.0 p same)) ∙ cached.in_frame i q e;
    }

pub hidden_framed : (m : Memory) (hidden : List ℕ) (p : ℕ) → FitsHidden m hidden → is_hidden m.objects hidden p ≡ true → IsInFrame m p
hidden_framed m hidden p fits e =
    let by = hidden_by m.objects hidden p e in
    let o = get_or hidden by.place 0 in
    framed_entry m o by.index p (entry_at m.objects o by.index).page refl (fits.cached by.place by.there) by.named

-- an entry names one page
name_one : (n : ℕ) (page : Option PageId) → total (λ p. num (is_page p page)) n ≤ 1
name_one n None = omega (arith, total_none n)
name_one n (Some q) = total_same q.0 n

region_total : (objects : List (List Entry)) (n : ℕ) (r : Region) → IsBacked objects r → total (λ p. names_in objects p r) n ≤ r.pages
region_total objects n r backed = omega (arith, backed, total_counts names n (object_at objects r.object.0) (λ (e : Entry). name_one n e.page))

first_all : {X : Type 0} (P : X → Type 0) (xs ys : List X) → All P (xs ++ ys) → All P xs
first_all P [] ys a k d l = absurd (omega arith)
first_all P (x ∷ xs) ys a zero d l = a 0 d (omega arith)
first_all P (x ∷ xs) ys a (suc k) d l = first_all P xs ys (λ i e b. a (suc i) e (omega arith)) k d (omega arith)

-- the pages of owned regions are at most named once for each of their entries
pub owned_total : (objects : List (List Entry)) (ps : List (Option (List Region))) (hidden : List Hidden) (n : ℕ) → AreBacked objects (all_regions ps hidden) → total (λ p. times_owned objects (owned_regions ps) p) n ≤ pages_of ps
owned_total objects ps hidden n backed =
    let each = first_all (IsBacked objects) (owned_regions ps) (map hidden_region hidden) backed.each in
    omega (arith, total_sums (names_in objects) n (owned_regions ps), sum_all (λ r. total (λ p. names_in objects p r) n) (λ (r : Region). r.pages) (owned_regions ps) (λ k d l. region_total objects n (get_or (owned_regions ps) k d) (each k d l)))

first_pages : (p : Option (List Region)) (ps : List (Option (List Region))) → pages_of (p ∷ ps) ≡ pages_in p + pages_of ps
first_pages p ps = ap (sum_by (λ (r : Region). r.pages)) (flat_map-cons regions_of p ps) ∙ sum_by-append (λ (r : Region). r.pages) (regions_of p) (owned_regions ps)

owned_sum : (ps : List (Option (List Region))) → pages_of ps ≡ sum_by pages_in ps
owned_sum [] = refl
owned_sum (p ∷ ps) = omega (arith, first_pages p ps, owned_sum ps, sum_by-cons pages_in p ps)

pub owned_committed : PagesAreCommitted
owned_committed k = owned_sum k.spaces.processes ∙ sym (ask_committed k (no_bytes k.config.page))
