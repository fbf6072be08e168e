-- The entries of an object, copied one after another.
use Rattle.std.proofs.Common.{◌≡◌, ◌≢◌, ℕ, zero, suc, ◌+◌, ◌-◌, ◌*◌, ◌<◌, ◌≤◌, ◌^◌, Bool, true, false, List, refl, arith, rules, ap, length, get_or, sym, ◌∙◌, subst, ⊎_elim}
use Rattle.std.specs.Prelude.{◌==◌, if◌then◌else◌, Option, Some, None, Result}
use Rattle.std.proofs.lemmas.Bool.{cases_Bool, cases_eq}
use Rattle.genie_base.specs.Causes.{HasCause}
use Rattle.genie_frame.specs.declared.frame.Meters.{Meters}
use Rattle.genie_frame.specs.declared.frame.Counts.{Counts}
use Rattle.genie_frame.specs.declared.frame.Owner.TheVariants.{Nobody, Page}
use Rattle.genie_frame.specs.FrameTable.{counts_at, is_held, is_lent, is_page, no_counts, owner_at}
use Rattle.genie_store.specs.StoreView.{StoreView}
use Rattle.genie_object.specs.declared.memory.Memory.{Memory}
use Rattle.genie_object.specs.Costs.{AreBelow, Spends, place_of}
use Rattle.genie_object.specs.declared.pages.PageId.{PageId}
use Rattle.genie_object.specs.declared.pages.Place.{Place}
use Rattle.genie_object.specs.declared.pages.Place.TheVariants.{Zero, Frame, Slot}
use Rattle.genie_object.specs.Leaving.{IsEmpty, IsUnheld, is_object}
use Rattle.genie_object.specs.Memory.{entry_frame, frame_in, frame_of}
use Rattle.genie_object.specs.Pages.{page_at}
use Rattle.genie_object.specs.Objects.{entry_at, object_at}
use Rattle.genie_object.specs.Lemmas.Relocated.{frame_is}
use Rattle.genie_object.specs.Sound.{IsSound, IsSized, FitsHidden}
use Rattle.genie_object.specs.Touching.{KeepsLoans, is_entry}
use Rattle.genie_object.specs.Lemmas.Emptied.{entry_object, other_entry}
use Rattle.genie_object.specs.Lemmas.Spending.{place_named, spends_more, spends_none, spends_on, below_spent}
use Rattle.genie_object.specs.Lemmas.Touching.{keeps_on}
use Rattle.genie_object.specs.Lemmas.Works.{below_more}
use Rattle.genie_hiding.specs.declared.hidden.Hidden.{Hidden}
use Rattle.genie_hiding.specs.Hidden.{is_among, objects_of}
use Rattle.genie_sharing.specs.Copying.{Copies, CopiesEntry, CopiesObject, StaysRoomy, copies_work, copy_work, is_held_in}
use Rattle.genie_sharing.specs.Lemmas.Composing.{copies_more, copies_none, copies_on}

-- the first n entries were copied, and the rest are empty
pub record IsCopying (was is : List Hidden) (source o n : ℕ) (old new : Memory) (v w : StoreView) : Type 0 where
  pub copies : Copies (objects_of was) (is_object o) old new v w
  pub from : (i : ℕ) → i < n → copies.source o i ≡ source
  pub same : (i : ℕ) → i < n → IsUnheld old source i → (entry_at new.objects o i).page ≡ (entry_at old.objects source i).page
  pub rest : (i : ℕ) → n ≤ i → IsEmpty new o i
  pub cache : is ≡ was
  pub steady : w.faults ≡ v.faults
  pub meters : Spends (copies_work old source n) 0 (8192 * n) n old.frames.meters new.frames.meters

pub copying_none : (was : List Hidden) (source o : ℕ) (m : Memory) (v : StoreView) → IsSound m → IsSized m v → FitsHidden m (objects_of was) → ((i : ℕ) → IsEmpty m o i) → IsCopying was was source o 0 m m v v
copying_none was source o m v sound sized fits empty = record {
  copies = copies_none (objects_of was) (is_object o) m v sound sized fits;
  from = λ i l. absurd (omega (arith, l));
  same = λ i l. absurd (omega (arith, l));
  rest = λ i l. empty i;
  cache = refl;
  steady = refl;
  meters = spends_none 0 0 0 0 m.frames.meters;
}

-- the page of an entry that is in a frame
record FramedPage (m : Memory) (o i f : ℕ) : Type 0 where
  number : PageId
  is : (entry_at m.objects o i).page ≡ Some number
  at : (page_at m.pages.pages number.0).place ≡ Frame (record { 0 = f })

framed_page : (m : Memory) (o i f : ℕ) → entry_frame m o i ≡ Some f → FramedPage m o i f
framed_page m o i f = by_page (entry_at m.objects o i).page refl where
  by_page : (page : Option PageId) → (entry_at m.objects o i).page ≡ page → frame_of m.pages.pages page ≡ Some f → FramedPage m o i f
  by_page None e h = cc
  by_page (Some q) e h = let y = frame_is (page_at m.pages.pages q.0).place f h in record { number = q; is = e; at = y.is ∙ (λ k. Frame (record { 0 = sym y.number k })) }

pub other_object : (o p b : ℕ) → o ≢ p → is_object p o b ≡ false
other_object o p b n = let f : (o == p) ≡ false = grind (arith, rules, n) in f

-- an entry whose page no device held, and which names it still, is unheld after calls that keep loans and change no count
pub unheld_kept : (old new : Memory) (o i : ℕ) → IsSound old → IsSound new → KeepsLoans old new → new.frames.counts ≡ old.frames.counts → (entry_at new.objects o i).page ≡ (entry_at old.objects o i).page → IsUnheld old o i → IsUnheld new o i
unheld_kept old new o i s t keeps counts same free f is = ⊎_elim
    (λ (held : is_held (counts_at new.frames f) ≡ true).
    let q = framed_page new o i f is in
    let was : is_held (counts_at old.frames f) ≡ true = sym (ap (λ c. is_held (get_or c f no_counts)) counts) ∙ held in
    let owner : owner_at new.frames f ≡ Page q.number.0 = t.placed.in_frame q.number.0 (record { 0 = f }) q.at in
    let before : owner_at old.frames f ≡ Page q.number.0 = ⊎_elim
    (λ e. sym e ∙ owner)
    (λ (left : (is_page (owner_at old.frames f) ≡ true) × (owner_at new.frames f ≡ Nobody)). let bad : Nobody ≡ Page q.number.0 = sym left.1 ∙ owner in cc)
    (keeps.lent f (lent_held (counts_at old.frames f) was)).owner in
    let framed : entry_frame old o i ≡ Some f = ap (frame_of old.pages.pages) (sym same ∙ q.is) ∙ ap frame_in (s.placed.of_page (record { 0 = f }) q.number.0 before) in
    let bad : true ≡ false = sym was ∙ free f framed in cc)
    (λ other. other)
    (cases_Bool (is_held (counts_at new.frames f)))
  where
    lent_held : (c : Counts) → is_held c ≡ true → is_lent c ≡ true
    lent_held c h = grind (arith, rules, h)

-- where no device holds the page at its place, the entry is unheld
unheld_by : (m : Memory) (o i : ℕ) → is_held_in m.frames.counts (place_of m o i) ≡ false → IsUnheld m o i
unheld_by m o i none f framed =
    let q = framed_page m o i f framed in
    let place : place_of m o i ≡ Frame (record { 0 = f }) = place_named m o i q.number q.is ∙ q.at in
    sym (ap (is_held_in m.frames.counts) place) ∙ none

held_by : (m : Memory) (o i : ℕ) → IsUnheld m o i → is_held_in m.frames.counts (place_of m o i) ≡ false
held_by m o i free = by_page (entry_at m.objects o i).page refl where
  by_place : (place : Place) → ((f : ℕ) → frame_in place ≡ Some f → is_held (counts_at m.frames f) ≡ false) → is_held_in m.frames.counts place ≡ false
  by_place Zero h = refl
  by_place (Frame f) h = h f.0 refl
  by_place (Slot s) h = refl

  by_page : (page : Option PageId) → (entry_at m.objects o i).page ≡ page → is_held_in m.frames.counts (elim page as (λ _. Place) [ None ↦ Zero | Some q ↦ (page_at m.pages.pages q.0).place ]) ≡ false
  by_page None e = refl
  by_page (Some q) e = by_place (page_at m.pages.pages q.0).place (λ f h. free f (ap (frame_of m.pages.pages) e ∙ h))

-- an entry that keeps its page costs no more to copy
pub work_kept : (old new : Memory) (o i : ℕ) → IsSound old → IsSound new → KeepsLoans old new → new.frames.counts ≡ old.frames.counts → (entry_at new.objects o i).page ≡ (entry_at old.objects o i).page → copy_work new o i ≤ copy_work old o i
work_kept old new o i s t keeps counts same = ⊎_elim
    (λ (held : is_held_in old.frames.counts (place_of old o i) ≡ true). omega (arith, most (is_held_in new.frames.counts (place_of new o i)), keeps.page, ap (λ b. if b then old.frames.page else 0) held))
    (λ free. let none = held_by new o i (unheld_kept old new o i s t keeps counts same (unheld_by old o i free)) in omega (arith, ap (λ b. if b then new.frames.page else 0) none))
    (cases_Bool (is_held_in old.frames.counts (place_of old o i)))
  where
    most : (b : Bool) → (if b then new.frames.page else 0) ≤ new.frames.page
    most true = omega arith
    most false = omega arith

pub next_work : (m : Memory) (o n k : ℕ) → k ≡ n + 1 → copies_work m o n + copy_work m o n ≡ copies_work m o k
next_work m o n zero e = absurd (omega (arith, e))
next_work m o n (suc j) e = let same : n ≡ j = omega (arith, e) in (λ i. copies_work m o (same i) + copy_work m o (same i))

-- as much as all pages at most
pub works_most : (m : Memory) (o n : ℕ) → m.frames.page ≤ 4096 → copies_work m o n ≤ 4096 * n
works_most m o zero small = omega arith
works_most m o (suc n) small = let rest = works_most m o n small in omega (arith, rest, small, most (is_held_in m.frames.counts (place_of m o n))) where
  most : (b : Bool) → (if b then m.frames.page else 0) ≤ m.frames.page
  most true = omega arith
  most false = omega arith

pub copying_more : (was is now : List Hidden) (source o n : ℕ) (old mid new : Memory) (u v w : StoreView) → source ≢ o → old.frames.page ≤ 4096 → is_among o (objects_of was) ≡ false → is_among source (objects_of was) ≡ false → IsSound old
    → IsCopying was is source o n old mid u v → now ≡ is → CopiesEntry (objects_of is) source o n mid new v w → w.faults ≡ v.faults → Spends (copy_work mid source n) 0 8192 1 mid.frames.meters new.frames.meters → IsCopying was now source o (n + 1) old new u w
copying_more was is now source o n old mid new u v w apart small owned source_owned sound x cached y faults spent =
    let hidden : List ℕ = objects_of was in
    let one : CopiesEntry hidden source o n mid new v w = subst (λ (h : List Hidden). CopiesEntry (objects_of h) source o n mid new v w) x.cache y in
    let wide = copies_more hidden (is_entry o n) (is_object o) mid new v w (λ a b e. entry_object o n a b e) one.copies in
    let page = x.copies.keeps.page in
    record {
      copies = copies_on hidden (is_object o) old mid new u v w x.copies wide;
      from = λ i l. ⊎_elim
          (λ (here : i ≡ n). ap (λ c. x.copies.source c i) (ap (one.copies.source o) here ∙ one.from) ∙ x.copies.own source i (other_object source o i apart))
          (λ other. let below : i < n = omega (arith, l, other) in ap (λ c. x.copies.source c i) (one.copies.own o i (other_entry o n i other)) ∙ x.from i below)
          (cases_eq i n);
      same = λ i l free. ⊎_elim
          (λ (here : i ≡ n).
          let kept = x.copies.pages source n source_owned (other_object source o n apart) in
          let now = unheld_kept old mid source n sound x.copies.sound x.copies.keeps x.copies.counts kept (subst (IsUnheld old source) here free) in
          (λ k. (entry_at new.objects o (here k)).page) ∙ one.same now ∙ kept ∙ (λ k. (entry_at old.objects source (sym here k)).page))
          (λ other. let below : i < n = omega (arith, l, other) in one.copies.pages o i owned (other_entry o n i other) ∙ x.same i below free)
          (cases_eq i n);
      rest = λ i l. let past : i ≢ n = λ e. absurd (omega (arith, l, e)) in one.copies.pages o i owned (other_entry o n i past) ∙ x.rest i (omega (arith, l));
      cache = cached ∙ x.cache;
      steady = faults ∙ x.steady;
      meters =
          let kept = x.copies.pages source n source_owned (other_object source o n apart) in
          let less = work_kept old mid source n sound x.copies.sound x.copies.keeps x.copies.counts kept in
          subst (λ k. Spends k 0 (8192 * (n + 1)) (n + 1) old.frames.meters new.frames.meters) (next_work old source n (n + 1) refl)
          (spends_more (copies_work old source n + copy_work mid source n) (0 + 0) (8192 * n + 8192) (n + 1) (copies_work old source n + copy_work old source n) 0 (8192 * (n + 1)) (n + 1) old.frames.meters new.frames.meters (spends_on (copies_work old source n) 0 (8192 * n) n (copy_work mid source n) 0 8192 1 old.frames.meters mid.frames.meters new.frames.meters x.meters spent) (omega (arith, less)) (omega arith) (omega arith) (omega arith));
    }

-- an entry failed
pub copying_failed : (was is : List Hidden) (source o n : ℕ) (old mid new : Memory) (u v w : StoreView) → IsCopying was is source o n old mid u v → Copies (objects_of is) (is_entry o n) mid new v w → Copies (objects_of was) (is_object o) old new u w
copying_failed was is source o n old mid new u v w x y =
    let one : Copies (objects_of was) (is_entry o n) mid new v w = subst (λ (h : List Hidden). Copies (objects_of h) (is_entry o n) mid new v w) x.cache y in
    copies_on (objects_of was) (is_object o) old mid new u v w x.copies (copies_more (objects_of was) (is_entry o n) (is_object o) mid new v w (λ a b e. entry_object o n a b e) one)

-- what the next entry asks for
pub below_next : (n : ℕ) (m : Memory) (o : ℕ) (new : Meters) → n < 64 → m.frames.page ≤ 4096 → AreBelow (2 ^ 64 - 2 ^ 22) m.frames.meters → Spends (copies_work m o n) 0 (8192 * n) n m.frames.meters new → AreBelow (2 ^ 64 - 2 ^ 21) new
below_next n m o new l small b s = let most = works_most m o n small in below_more (2 ^ 64 - 2 ^ 22 + copies_work m o n + 0 + 8192 * n + n) (2 ^ 64 - 2 ^ 21) new (omega (arith, l, most)) (below_spent (2 ^ 64 - 2 ^ 22) (copies_work m o n) 0 (8192 * n) n m.frames.meters new b s)

pub roomy_next : (was is : List Hidden) (spoken : ℕ → ℕ → Bool) (old new : Memory) (v w : StoreView) → is ≡ was → Copies (objects_of was) spoken old new v w → StaysRoomy (objects_of was) old → StaysRoomy (objects_of is) new
roomy_next was is spoken old new v w same x room = subst (λ (h : List Hidden). StaysRoomy (objects_of h) new) (sym same) (λ m sound fits keeps counts. room m sound fits (keeps_on old new m x.keeps keeps) (counts ∙ x.counts))

-- all entries were copied
pub copied_all : (was is : List Hidden) (source o n : ℕ) (old new : Memory) (v w : StoreView) → n ≡ length (object_at old.objects source) → IsCopying was is source o n old new v w → CopiesObject (objects_of was) source o old new v w
copied_all was is source o n old new v w all x = record { copies = x.copies; from = λ i l. x.from i (omega (arith, l, all)); same = λ i l. x.same i (omega (arith, l, all)) }

pub spent_all : (n k : ℕ) (m : Memory) (o : ℕ) (new : Meters) → n ≤ 64 → n ≡ k → Spends (copies_work m o n) 0 (8192 * n) n m.frames.meters new → Spends (copies_work m o k) 0 (2 ^ 19) 64 m.frames.meters new
spent_all n k m o new l same s = subst (λ j. Spends (copies_work m o j) 0 (2 ^ 19) 64 m.frames.meters new) same (spends_more (copies_work m o n) 0 (8192 * n) n (copies_work m o n) 0 (2 ^ 19) 64 m.frames.meters new s (omega arith) (omega arith) (omega (arith, l)) l)

-- an entry failed
pub spent_failed : (n : ℕ) (old mid : Memory) (o : ℕ) (new : Meters) → n < length (object_at old.objects o) → length (object_at old.objects o) ≤ 64 → copy_work mid o n ≤ copy_work old o n → Spends (copies_work old o n) 0 (8192 * n) n old.frames.meters mid.frames.meters → Spends (copy_work mid o n) 0 8192 1 mid.frames.meters new → Spends (copies_work old o (length (object_at old.objects o))) 0 (2 ^ 19) 64 old.frames.meters new
spent_failed n old mid o new l long less x y = spends_more (copies_work old o n + copy_work mid o n) (0 + 0) (8192 * n + 8192) (n + 1) (copies_work old o (length (object_at old.objects o))) 0 (2 ^ 19) 64 old.frames.meters new (spends_on (copies_work old o n) 0 (8192 * n) n (copy_work mid o n) 0 8192 1 old.frames.meters mid.frames.meters new x y) (omega (arith, less, next_work old o n (n + 1) refl, up (n + 1) (length (object_at old.objects o)) (omega (arith, l)))) (omega arith) (omega (arith, l, long)) (omega (arith, l, long)) where
  up : (a b : ℕ) → a ≤ b → copies_work old o a ≤ copies_work old o b
  up a zero h = let none : a ≡ 0 = omega (arith, h) in omega (arith, ap (copies_work old o) none)
  up a (suc b) h = ⊎_elim (λ (same : a ≡ suc b). omega (arith, ap (copies_work old o) same)) (λ other. let rest = up a b (omega (arith, h, other)) in omega (arith, rest)) (cases_eq a (suc b))

-- nothing had failed before
pub cause_later : {T E : Type 0} (a b c : ℕ) (result : Result T E) → b ≡ a → HasCause b c result → HasCause a c result
cause_later a b c result same x = subst (λ n. HasCause n c result) same x
