-- What is seen of a memory hangs on its taken slots alone.
use Rattle.std.proofs.Common.{◌≡◌, ℕ, ◌<◌, Bool, true, false, List, refl, sym, ap, arith, rules, ◌∙◌, length}
use Rattle.std.specs.Prelude.{Option, Some, None, nat_lt, replicate, if◌then◌else◌}
use Rattle.std.proofs.lemmas.List.{length-replicate}
use Rattle.genie_object.specs.declared.memory.Memory.{Memory}
use Rattle.genie_object.specs.declared.pages.PageId.{PageId}
use Rattle.genie_object.specs.declared.pages.PageInfo.{PageInfo}
use Rattle.genie_object.specs.declared.pages.Place.{Place}
use Rattle.genie_object.specs.declared.pages.Place.TheVariants.{Zero, Frame, Slot}
use Rattle.genie_object.specs.Memory.{place_bytes, page_bytes, seen}
use Rattle.genie_object.specs.Objects.{entry_at}
use Rattle.genie_object.specs.Pages.{page_at, no_page}
use Rattle.genie_object.specs.Sound.{IsSound}
use Rattle.genie_object.specs.Lemmas.Lookup.{in_range, slot_taken}
use Rattle.genie_changes.specs.Paged.{HavePages}

-- the slots of a memory, and a page of zeros for any other number
abbrev pub padded : ℕ → ℕ → (ℕ → List ℕ) → ℕ → List ℕ
padded page n slots s = if nat_lt s n then slots s else replicate page 0

pub padded_paged : (m : Memory) (slots : ℕ → List ℕ) → HavePages m slots → (s : ℕ) → length (padded m.frames.page (length m.slots) slots s) ≡ m.frames.page
padded_paged m slots have s = elim (nat_lt s (length m.slots)) as (λ b. nat_lt s (length m.slots) ≡ b → length (if b then slots s else replicate m.frames.page 0) ≡ m.frames.page) [
  | true ↦ λ e. have s (grind (arith, rules, e))
  | false ↦ λ e. length-replicate m.frames.page 0
] refl

place_padded : (m : Memory) (slots : ℕ → List ℕ) (page n p : ℕ) (q : Place) → IsSound m → n ≡ length m.slots → (page_at m.pages.pages p).place ≡ q → place_bytes m.frames (padded page n slots) q ≡ place_bytes m.frames slots q
place_padded m slots page n p Zero s is e = refl
place_padded m slots page n p (Frame f) s is e = refl
place_padded m slots page n p (Slot r) s is e =
    let there : p < length m.pages.pages = in_range m.pages.pages p no_page (λ n. let bad : Zero ≡ Slot r = sym (ap (λ (z : PageInfo). z.place) n) ∙ e in cc) in
    let taken = slot_taken m.pages.pages m.slots p r e there s.slotted in
    let known : r < length m.slots = in_range m.slots r false (λ n. let bad : false ≡ true = sym n ∙ taken in cc) in
    let below : nat_lt r n ≡ true = grind (arith, rules, known, is) in
    ap (λ (b : Bool). if b then slots r else replicate page 0) below

entry_padded : (m : Memory) (slots : ℕ → List ℕ) (page n : ℕ) (p : Option PageId) → IsSound m → n ≡ length m.slots → page_bytes m.frames m.pages.pages (padded page n slots) p ≡ page_bytes m.frames m.pages.pages slots p
entry_padded m slots page n None s is = refl
entry_padded m slots page n (Some p) s is = place_padded m slots page n p.0 (page_at m.pages.pages p.0).place s is refl

pub seen_padded : (m : Memory) (slots : ℕ → List ℕ) (page n : ℕ) → IsSound m → n ≡ length m.slots → seen m (padded page n slots) ≡ seen m slots
seen_padded m slots page n s is = λ i. record (seen m slots) { entry_bytes = λ a b. entry_padded m slots page n (entry_at m.objects a b).page s is i }
