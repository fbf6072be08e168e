-- A page that no device held isn't held once pages have only moved.
use Rattle.std.proofs.Common.{◌≡◌, ℕ, ◌<◌, suc, Bool, true, false, List, [], ◌∷◌, refl, sym, ap, subst, arith, ◌∙◌, ⊎_elim, inl, inr}
use Rattle.std.specs.Prelude.{Option, Some, None, count_by, nat_lt, slice_index_or, ◌||◌}
use Rattle.std.proofs.lemmas.Bool.{cases_Bool, cases_lt}
use Rattle.std.proofs.lemmas.List.Sums.{sum_by-cons}
use Rattle.genie_frame.specs.declared.frame.Counts.{Counts}
use Rattle.genie_frame.specs.declared.frame.FrameId.{FrameId}
use Rattle.genie_frame.specs.declared.frame.Owner.TheVariants.{Page, Nobody}
use Rattle.genie_frame.specs.FrameTable.{counts_at, is_held, is_lent, is_page, no_counts, owner_at}
use Rattle.genie_hiding.specs.Lemmas.Naming.{names_page}
use Rattle.genie_hiding.specs.Lemmas.Searching.{count_found}
use Rattle.genie_object.specs.declared.memory.Memory.{Memory}
use Rattle.genie_object.specs.declared.objects.Entry.{Entry}
use Rattle.genie_object.specs.Lemmas.Naming.{named_once}
use Rattle.genie_object.specs.Memory.{entry_frame, frame_in, frame_of}
use Rattle.genie_object.specs.Objects.{entry_at, names, no_entry}
use Rattle.genie_object.specs.Sound.{IsSound, times_named}
use Rattle.genie_object.specs.Touching.{KeepsLoans}
use Rattle.genie_plan.specs.Lemmas.Landings.{page_in}
use Rattle.genie_copying.specs.Kinds.{is_weakly_held}
use Rattle.genie_arrivals.specs.EarlyCosts.{HoldsNoMore}

-- an entry that names the page
record NamesPage (objects : List (List Entry)) (p : ℕ) : Type 0 where
  object : ℕ
  index : ℕ
  named : names p (entry_at objects object index) ≡ true

named_by : (objects : List (List Entry)) (p : ℕ) → 0 < times_named objects p → NamesPage objects p
named_by [] p l = absurd (omega arith)
named_by (x ∷ objects) p l = elim (cases_lt 0 (count_by (names p) x)) [
  | inl h ↦ let at = count_found (names p) no_entry x h in record { object = 0; index = at.at; named = at.passes }
  | inr h ↦ let at = named_by objects p (omega (arith, l, h, sum_by-cons (count_by (names p)) x objects)) in record { object = suc at.object; index = at.index; named = at.named }
]

lent_of : (a b c : Bool) → (b || c) ≡ true → (a || b || c) ≡ true
lent_of true b c e = refl
lent_of false b c e = e

-- it was in the frame before
was_there : (old new : Memory) (o i f : ℕ) → IsSound old → IsSound new → KeepsLoans old new → is_held (counts_at old.frames f) ≡ true → is_held (counts_at new.frames f) ≡ true → entry_frame new o i ≡ Some f → entry_frame old o i ≡ Some f
was_there old new o i f was is keeps held now here =
    let frame : FrameId = record { 0 = f } in
    let x = page_in new o i f here in
    let own : owner_at new.frames f ≡ Page x.number.0 = is.placed.in_frame x.number.0 frame x.is_place in
    let lent : is_lent (counts_at old.frames f) ≡ true = lent_of (nat_lt 0 (counts_at old.frames f).strong) (nat_lt 0 (counts_at old.frames f).weak) (nat_lt 0 (counts_at old.frames f).input) held in
    let owned : owner_at old.frames f ≡ Page x.number.0 = ⊎_elim
    (λ (same : owner_at new.frames f ≡ owner_at old.frames f). sym same ∙ own)
    (λ (gone : (is_page (owner_at old.frames f) ≡ true) × (owner_at new.frames f ≡ Nobody)). let clash : Page x.number.0 ≡ Nobody = sym own ∙ gone.1 in absurd (cc))
    (keeps.lent f lent).owner in
    let namer = named_by old.objects x.number.0 (omega (arith, was.held.alone f x.number.0 owned held, was.shared.counted x.number.0)) in
    let named : (entry_at old.objects namer.object namer.index).page ≡ Some x.number = names_page x.number (entry_at old.objects namer.object namer.index) namer.named in
    let framed : entry_frame old namer.object namer.index ≡ Some f = ap (frame_of old.pages.pages) named ∙ ap frame_in (was.placed.of_page frame x.number.0 owned) in
    let y = page_in new namer.object namer.index f (keeps.entry_held namer.object namer.index f framed held) in
    let two : Page x.number.0 ≡ Page y.number.0 = sym own ∙ is.placed.in_frame y.number.0 frame y.is_place in
    let number : x.number.0 ≡ y.number.0 = cc in
    let same : x.number ≡ y.number = λ k. record { 0 = number k } in
    let one = named_once new.pages.pages new.objects namer.object namer.index o i x.number is.shared (is.held.alone f x.number.0 own now) (y.is_page ∙ ap Some (sym same)) x.is_page in
    (λ k. entry_frame old (sym one.0 k) (sym one.1 k)) ∙ framed

still_free : (old new : Memory) (o i f : ℕ) → IsSound old → IsSound new → KeepsLoans old new → new.frames.counts ≡ old.frames.counts → is_weakly_held old o i ≡ false → entry_frame new o i ≡ Some f → is_held (counts_at new.frames f) ≡ false
still_free old new o i f was is keeps counts un here =
    let same : is_held (counts_at new.frames f) ≡ is_held (counts_at old.frames f) = ap (λ (cs : List Counts). is_held (slice_index_or cs f no_counts)) counts in
    ⊎_elim
    (λ (yes : is_held (counts_at new.frames f) ≡ true).
    let held : is_held (counts_at old.frames f) ≡ true = sym same ∙ yes in
    let there = was_there old new o i f was is keeps held yes here in
    let free : is_held (counts_at old.frames f) ≡ false = subst (λ (z : Option ℕ). (elim z [ None ↦ false | Some g ↦ is_held (counts_at old.frames g) ]) ≡ false) there un in
    let clash : true ≡ false = sym held ∙ free in absurd (cc))
    (λ (no : is_held (counts_at new.frames f) ≡ false). no)
    (cases_Bool (is_held (counts_at new.frames f)))

pub holds_no_more : (old new : Memory) → IsSound old → IsSound new → KeepsLoans old new → new.frames.counts ≡ old.frames.counts → HoldsNoMore old new
holds_no_more old new was is keeps counts o i un = by_frame (entry_frame new o i) refl where
  by_frame : (z : Option ℕ) → entry_frame new o i ≡ z → (elim z [ None ↦ false | Some g ↦ is_held (counts_at new.frames g) ]) ≡ false
  by_frame None e = refl
  by_frame (Some f) e = still_free old new o i f was is keeps counts un e

pub holds_none_more_on : (a b c : Memory) → HoldsNoMore a b → HoldsNoMore b c → HoldsNoMore a c
holds_none_more_on a b c x y o i un = y o i (x o i un)
