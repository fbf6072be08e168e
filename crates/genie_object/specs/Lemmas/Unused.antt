-- Memory that isn't used yet, and an object that is made.
use Rattle.std.proofs.Common.{◌≡◌, ℕ, ◌+◌, ◌<◌, ◌≤◌, zero, suc, false, List, [], ◌∷◌, refl, sym, ap, subst, arith, ◌∙◌, length, replicate, get_or, set, inl, inr}
use Rattle.std.specs.Prelude.{Bool, IsTrue, All, count_by, cond, if◌then◌else◌}
use Rattle.std.proofs.lemmas.List.{length-replicate}
use Rattle.std.proofs.lemmas.List.Sums.{sum_by-cons}
use Rattle.std.proofs.lemmas.List.Elements.{All-replicate}
use Rattle.std.proofs.lemmas.List.Folds.{sum_by-replicate}
use Rattle.genie_base.specs.Counts.{is_page_size}
use Rattle.genie_base.specs.Lemmas.Places.{set_at, sum_by-set}
use Rattle.genie_frame.specs.declared.frame.Owner.TheVariants.{Free}
use Rattle.genie_frame.specs.declared.frame.Counts.{Counts}
use Rattle.genie_frame.specs.FrameTable.{FrameTable, is_lent, no_counts, owner_at, counts_at, IsShaped}
use Rattle.genie_object.specs.declared.memory.Memory.{Memory}
use Rattle.genie_object.specs.declared.objects.Entry.{Entry}
use Rattle.genie_object.specs.declared.pages.PageInfo.{PageInfo}
use Rattle.genie_object.specs.Memory.{seen, page_bytes}
use Rattle.genie_object.specs.Objects.{entry_at, object_at, no_entry, names}
use Rattle.genie_object.specs.Pages.{page_at, no_page}
use Rattle.genie_object.specs.Sound.{IsSound, IsUnused, is_in_slot, times_named}

-- a list of equal elements has that element at each place, and past its end
pub get_replicate : {X : Type 0} (n k : ℕ) (x : X) → get_or (replicate n x) k x ≡ x
get_replicate zero k x = refl
get_replicate (suc n) zero x = refl
get_replicate (suc n) (suc k) x = get_replicate n k x

none_at : (pages : List PageInfo) → All (λ q. q ≡ no_page) pages → (p : ℕ) → page_at pages p ≡ no_page
none_at [] a p = refl
none_at (q ∷ pages) a zero = a 0 no_page (omega arith)
none_at (q ∷ pages) a (suc p) = none_at pages (λ k d l. a (suc k) d (omega arith)) p

-- none is counted of elements that don't pass
none_counted : {X : Type 0} (p : X → Bool) (xs : List X) (x : X) → All (λ q. q ≡ x) xs → p x ≡ false → count_by p xs ≡ 0
none_counted p [] x a e = refl
none_counted p (y ∷ ys) x a e = let rest = none_counted p ys x (λ k d l. a (suc k) d (omega arith)) e in let first : p y ≡ false = ap p (a 0 x (omega arith)) ∙ e in sum_by-cons (λ z. cond (p z) 1 0) y ys ∙ ap (λ b. cond b 1 0 + count_by p ys) first ∙ omega (arith, rest)

shaped_frames : (n page : ℕ) → IsTrue (is_page_size page) → 1 ≤ n → n ≤ 4096 → IsShaped page (replicate n Free) (replicate n no_counts) (replicate n (replicate page 0))
shaped_frames n page size low high =
    let owners = length-replicate n Free in
    record {
      size = size;
      some = omega (arith, owners);
      most = omega (arith, owners);
      counted = length-replicate n no_counts ∙ sym owners;
      filled = length-replicate n (replicate page 0) ∙ sym owners;
      paged = All-replicate (λ b. length b ≡ page) n (replicate page 0) (length-replicate page 0);
    }

-- memory without a page is sound
pub unused_sound : (m : Memory) (n page slots : ℕ) → IsTrue (is_page_size page) → 1 ≤ n → n ≤ 4096 → IsUnused m n page slots → IsSound m
unused_sound m n page slots size low high x =
    let frames = x.free in
    let pages = x.pages in
    let objects = x.absent in
    let taken = x.untaken in
    let shaped = shaped_frames n page size low high in
    let owner : (f : ℕ) → owner_at m.frames f ≡ Free = λ f. ap (λ (t : FrameTable). owner_at t f) frames ∙ get_replicate n f Free in
    let counts : (f : ℕ) → counts_at m.frames f ≡ no_counts = λ f. ap (λ (t : FrameTable). counts_at t f) frames ∙ get_replicate n f no_counts in
    let place : (p : ℕ) → page_at m.pages.pages p ≡ no_page = λ p. none_at m.pages.pages pages p in
    let none : (o i : ℕ) → entry_at m.objects o i ≡ no_entry = λ o i. ap (λ os. entry_at os o i) objects ∙ ap (λ es. get_or es i no_entry) (get_replicate 512 o []) in
    record {
      shaped = subst (λ (t : FrameTable). IsShaped t.page t.owners t.counts t.bytes) (sym frames) shaped;
      placed = record {
        in_frame = λ p f e. let h = sym (ap (λ (q : PageInfo). q.place) (place p)) ∙ e in cc;
        of_page = λ f p e. let h = sym (owner f.0) ∙ e in cc;
      };
      lent = λ f. record { free = λ e. ap is_lent (counts f); nobody = λ e. let h = sym (owner f) ∙ e in cc };
      held = record { alone = λ f p e h. let g = sym (owner f) ∙ e in cc; unlent = λ f e h. ap (λ (c : Counts). c.strong) (counts f) };
      wired = λ f l. let z : 0 < 0 = subst (λ (c : Counts). 0 < c.wires) (counts f) l in absurd (omega arith);
      slotted = record { counted = λ s. none_counted (is_in_slot s) m.pages.pages no_page pages refl ∙ sym (ap (λ (t : Bool). if t then 1 else 0) (ap (λ ts. get_or ts s false) taken ∙ get_replicate slots s false)) };
      shared = record { counted = λ p. ap (λ (q : PageInfo). q.shares) (place p) ∙ sym (ap (λ os. times_named os p) objects ∙ sum_by-replicate (count_by (names p)) 512 []); spare = λ p e. ap (λ (q : PageInfo). q.place) (place p) };
      guarded = record { readable = λ o i e. let h = sym (ap (λ (x : Entry). x.readable) (none o i)) ∙ e in cc; writable = λ o i e. let h = sym (ap (λ (x : Entry). x.writable) (none o i)) ∙ e in cc };
    }

-- an object of empty entries was made
module _ (m : Memory) (o n : ℕ) (there : o < length m.objects) (absent : object_at m.objects o ≡ []) where
  abbrev new : Memory
  new = record m { objects = set m.objects o (replicate n no_entry) }

  -- an entry that isn't there is empty too
  entries_same : (a i : ℕ) → entry_at new.objects a i ≡ entry_at m.objects a i
  entries_same a i = elim (set_at m.objects o a (replicate n no_entry) [] there) [
    | inl v ↦ ap (λ es. get_or es i no_entry) v.1 ∙ get_replicate n i no_entry ∙ sym (ap (λ es. get_or es i no_entry) (ap (object_at m.objects) v.0 ∙ absent))
    | inr v ↦ ap (λ es. get_or es i no_entry) v.1
  ]

  none_names : (p k : ℕ) → count_by (names p) (replicate k no_entry) ≡ 0
  none_names p zero = refl
  none_names p (suc k) = omega (arith, sum_by-cons (λ e. cond (names p e) 1 0) no_entry (replicate k no_entry), none_names p k)

  times_same : (p : ℕ) → times_named new.objects p ≡ times_named m.objects p
  times_same p =
      let change = sum_by-set (count_by (names p)) m.objects o (replicate n no_entry) [] there in
      omega (arith, change, none_names p n, ap (count_by (names p)) absent)

  pub number_made : length (object_at new.objects o) ≡ n
  number_made = ap length (set_same m.objects o (replicate n no_entry) there) ∙ length-replicate n no_entry where
    set_same : (xs : List (List Entry)) (k : ℕ) (x : List Entry) → k < length xs → get_or (set xs k x) k [] ≡ x
    set_same xs k x l = elim (set_at xs k k x [] l) [ inl v ↦ v.1 | inr v ↦ absurd (v.0 refl) ]

  pub sound_made : IsSound m → IsSound new
  sound_made s = record {
    shaped = s.shaped;
    placed = s.placed;
    lent = s.lent;
    held = s.held;
    wired = s.wired;
    slotted = s.slotted;
    shared = record { counted = λ p. s.shared.counted p ∙ sym (times_same p); spare = s.shared.spare };
    guarded = record {
      readable = λ a i e. rw (entries_same a i) (s.guarded.readable a i (sym (ap (λ (x : Entry). x.readable) (entries_same a i)) ∙ e));
      writable = λ a i e. rw (entries_same a i) (s.guarded.writable a i (sym (ap (λ (x : Entry). x.writable) (entries_same a i)) ∙ e));
    };
  }

  pub seen_made : (slots : ℕ → List ℕ) → seen new slots ≡ seen m slots
  seen_made slots = λ k. record { entry_bytes = λ a i. page_bytes m.frames m.pages.pages slots (entries_same a i k).page; kept_bytes = (seen m slots).kept_bytes }
