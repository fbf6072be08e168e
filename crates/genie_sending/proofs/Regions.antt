-- The bytes of a weak output are those of its region.
use Rattle.std.proofs.Common.{◌≡◌, ℕ, ◌+◌, ◌-◌, ◌*◌, ◌/◌, ◌%◌, ◌<◌, ◌≤◌, Bool, true, false, not, List, refl, sym, ap, subst, arith, rules, ◌∙◌, length, get_or, ⊎_elim, eqb-true, ◌≢◌}
use Rattle.std.specs.Prelude.{Option, Some, None, find, flat_map, nat_le, nat_lt, ◌==◌, ◌&&◌, replicate, if◌then◌else◌}
use Rattle.std.specs.List.{range_with_len}
use Rattle.std.specs.Option.{option_map}
use Rattle.std.proofs.Math.Nat.{div-add-mod}
use Rattle.std.proofs.lemmas.List.{length-replicate}
use Rattle.genie_base.specs.Bytes.{part}
use Rattle.genie_base.specs.Counts.{span}
use Rattle.genie_base.specs.Lemmas.Places.{same_or}
use Rattle.genie_base.specs.declared.numbers.RegionId.{RegionId}
use Rattle.genie_object.specs.declared.memory.Memory.{Memory}
use Rattle.genie_object.specs.declared.pages.PageId.{PageId}
use Rattle.genie_object.specs.declared.pages.PageInfo.{PageInfo}
use Rattle.genie_object.specs.declared.pages.Place.{Place}
use Rattle.genie_object.specs.declared.pages.Place.TheVariants.{Zero, Frame, Slot}
use Rattle.genie_object.specs.Memory.{page_bytes, place_bytes, seen}
use Rattle.genie_object.specs.Objects.{entry_at}
use Rattle.genie_object.specs.Pages.{no_page, page_at}
use Rattle.genie_object.specs.Sound.{IsSound}
use Rattle.genie_object.specs.Lemmas.Lookup.{in_range, slot_taken}
use Rattle.genie_plan.specs.Landings.{AreOfEntries}
use Rattle.genie_plan.specs.Lemmas.Landings.{reads_region}
use Rattle.genie_region.specs.declared.region.Region.{Region}
use Rattle.genie_model.specs.Lemmas.Lists.{find_has, has_any}
use Rattle.genie_model.specs.Pending as pending
use Rattle.genie_model.specs.Regions as model
use Rattle.genie_model.specs.Sending.{named_bytes}
use Rattle.genie_model.specs.State as flat
use Rattle.genie_kernel.specs.declared.kernel.Kernel.{Kernel}
use Rattle.genie_kernel.specs.declared.transfer.Transfer.{Transfer}
use Rattle.genie_kernel.specs.Calls.{is_named, is_strong_call, region_number, waits_for}
use Rattle.genie_kernel.specs.Good.{IsGood}
use Rattle.genie_kernel.specs.Held.{IsInFrame, region_named}
use Rattle.genie_kernel.specs.Loans.{first_of, frames_of}
use Rattle.genie_kernel.specs.Orphans.{covers}
use Rattle.genie_kernel.specs.Regions.{has_id, owned_regions, region_view}
use Rattle.genie_kernel.specs.Steps.{bytes_over}
use Rattle.genie_kernel.specs.View.{state_of}
use Rattle.genie_changes.specs.Premises.{RegionsLeavePages}
use Rattle.genie_sending.specs.Sending.{IsLentOut, payload_under}
use Rattle.genie_sending.proofs.Lending.{begins_there, lends, page_above, whole_pages}
use Rattle.genie_sending.proofs.Named.{its_pages, nothing_named, part_of_part, payload_is, range_of, region_seen, within_is}
use Rattle.genie_sending.proofs.Outputs.{IsFirstOutput}
use Rattle.genie_sending.proofs.Sent.{AreFull}

-- slots that the memory hasn't are read by no entry
abbrev all_full : Kernel → (ℕ → List ℕ) → ℕ → List ℕ
all_full k slots s = if nat_lt s (length k.memory.slots) then slots s else replicate k.memory.frames.page 0

full_size : (k : Kernel) (slots : ℕ → List ℕ) → AreFull k slots → (s : ℕ) → length (all_full k slots s) ≡ k.memory.frames.page
full_size k slots h s = by (nat_lt s (length k.memory.slots)) refl
  where
    by : (c : Bool) → nat_lt s (length k.memory.slots) ≡ c → length (if c then slots s else replicate k.memory.frames.page 0) ≡ k.memory.frames.page
    by true e = let l : s < length k.memory.slots = grind (arith, rules, e) in h s l
    by false e = length-replicate k.memory.frames.page 0

place_same : (k : Kernel) (slots : ℕ → List ℕ) (p : ℕ) (q : Place) → IsSound k.memory → (page_at k.memory.pages.pages p).place ≡ q → place_bytes k.memory.frames (all_full k slots) q ≡ place_bytes k.memory.frames slots q
place_same k slots p Zero s e = refl
place_same k slots p (Frame f) s e = refl
place_same k slots p (Slot r) s e =
    let m : Memory = k.memory in
    let there : p < length m.pages.pages = in_range m.pages.pages p no_page (λ n. let bad : Zero ≡ Slot r = sym (ap (λ (z : PageInfo). z.place) n) ∙ e in cc) in
    let taken = slot_taken m.pages.pages m.slots p r e there s.slotted in
    let known : r < length m.slots = in_range m.slots r false (λ n. let bad : false ≡ true = sym n ∙ taken in cc) in
    let yes_it_is : nat_lt r (length m.slots) ≡ true = grind (arith, rules, known) in
    ap (λ c. if c then slots r else replicate m.frames.page 0) yes_it_is

page_same : (k : Kernel) (slots : ℕ → List ℕ) (p : Option PageId) → IsSound k.memory → page_bytes k.memory.frames k.memory.pages.pages (all_full k slots) p ≡ page_bytes k.memory.frames k.memory.pages.pages slots p
page_same k slots None s = refl
page_same k slots (Some p) s = place_same k slots p.0 (page_at k.memory.pages.pages p.0).place s refl

entries_same : (k : Kernel) (slots : ℕ → List ℕ) → IsSound k.memory → (o : ℕ) → (seen k.memory (all_full k slots)).entry_bytes o ≡ (seen k.memory slots).entry_bytes o
entries_same k slots s o = λ z i. page_same k slots (entry_at k.memory.objects o i).page s z

named_same : (o : Option RegionId) (n : ℕ) → option_map (λ (r : RegionId). r.0) o ≡ Some n → is_named o n ≡ true
named_same o n e = ap (λ z. pending.is_just z n) e ∙ grind (arith, rules)

-- the last place of a range lies in the last page that it touches
last_page : (page at len pages : ℕ) → 0 < page → 0 < len → at + len - 1 < pages * page → at / page + span page at len ≤ pages
last_page page at len pages some l inside =
    let none : (len == 0) ≡ false = grind (arith, rules, l) in
    let is : span page at len ≡ (at + len - 1) / page - at / page + 1 = ap (λ b. if b then 0 else (at + len - 1) / page - at / page + 1) none in
    let low : at / page ≤ (at + len - 1) / page = whole_pages page at (at + len - 1) some (omega (arith, l)) in
    let below : (at + len - 1) / page < pages = div_below page (at + len - 1) pages some inside in
    omega (arith, is, low, below)
  where
    div_below : (page x pages : ℕ) → 0 < page → x < pages * page → x / page < pages
    div_below page x pages some l = grind (arith, some, l)

module _ (law : RegionsLeavePages) (k : Kernel) (g : IsGood k) (d : ℕ) (t : Transfer) (is : IsFirstOutput k.transfers d t) (weak : is_strong_call t ≡ false) (lent : IsLentOut k.memory.frames t.len t.loans) (n : ℕ) (number : region_number t ≡ Some n) (r : Region) (found : find (has_id n) (owned_regions k.spaces.processes) ≡ Some r) where
  abbrev page : ℕ
  page = k.config.page

  abbrev frames : List ℕ
  frames = frames_of t.loans

  id_is : r.id.0 ≡ n
  id_is = eqb-true r.id.0 n (find_has (has_id n) (owned_regions k.spaces.processes) r found).1

  of_entries : AreOfEntries k.memory r.object.0 (t.offset / page) frames
  of_entries j l = subst (λ o. IsInFrame k.memory o (t.offset / page + j) (get_or frames j 0)) (ap (region_named (owned_regions k.spaces.processes)) number ∙ found) ((its_pages k g d t is weak).held j l)

  inside : 0 < t.len → t.offset + t.len - 1 < r.pages * page
  inside some =
      let x : ℕ = t.offset + t.len - 1 in
      let zeros : List ℕ = replicate page 0 in
      let leaves = law k r (λ o i. zeros) (λ f. zeros) g (page_above k g d t is) (subst (λ i. find (has_id i) (owned_regions k.spaces.processes) ≡ Some r) (sym id_is) found) (record { shown = λ i f a b. refl; full = λ i. length-replicate page 0 }) in
      let named : is_named t.region r.id.0 ≡ true = named_same t.region r.id.0 (number ∙ ap Some (sym id_is)) in
      let low : nat_le t.offset x ≡ true = grind (arith, rules, some) in
      let high : nat_lt x (t.offset + t.len) ≡ true = grind (arith, rules, some) in
      let covered : covers r.id.0 x t ≡ true = (λ i. not (weak i) && named i && low i && high i) in
      leaves.inside x (has_any (covers r.id.0 x) t k.transfers (find_has (waits_for d) k.transfers t is.waits).0 covered)

  module _ (slots : ℕ → List ℕ) (full : AreFull k slots) (rests sents : ℕ → List ℕ) (j m : ℕ) (l : j + m ≤ t.len) where
    abbrev s : flat.State
    s = state_of k (bytes_over k.memory slots rests sents)

    none : t.len ≡ 0 → named_bytes s (region_number t) (t.offset + j) m ≡ part j m (payload_under k.memory.frames t.loans)
    none e = let zero_bytes : m ≡ 0 = omega (arith, l, e) in ap (named_bytes s (region_number t) (t.offset + j)) zero_bytes ∙ nothing_named s (region_number t) (t.offset + j) ∙ sym (ap (λ z. part j z (payload_under k.memory.frames t.loans)) zero_bytes)

    some : t.len ≢ 0 → named_bytes s (region_number t) (t.offset + j) m ≡ part j m (payload_under k.memory.frames t.loans)
    some ne =
        let e : ℕ → List ℕ = (seen k.memory slots).entry_bytes r.object.0 in
        let bytes : List ℕ = flat_map e (range_with_len 0 r.pages) in
        let lent_is = lends k g d t is in
        let range = range_of page t t.loans lent_is in
        let begins = begins_there t is.outward in
        let pages : length frames ≡ span page t.offset t.len = range.pages ∙ ap (λ at. span page at t.len) begins in
        let first : first_of t.loans ≡ t.offset % page = range.begins ∙ ap (λ at. at % page) begins in
        let above : 0 < t.len = omega (arith, ne) in
        let fits = last_page page t.offset t.len r.pages (page_above k g d t is) above (inside above) in
        let frame_page : k.memory.frames.page ≡ page = g.sized.page in
        let reads = reads_region k.memory r.object.0 (t.offset / page) r.pages (first_of t.loans) t.len frames (all_full k slots) g.sound of_entries (omega (arith, fits, pages)) (within_is page k.memory.frames t t.loans lent_is lent) (full_size k slots full) in
        let split = div-add-mod t.offset page in
        let place : k.memory.frames.page * (t.offset / page) + first_of t.loans ≡ t.offset = (λ i. frame_page i * (t.offset / page) + first i) ∙ omega (arith, split) in
        let shown : payload_under k.memory.frames t.loans ≡ part t.offset t.len bytes = payload_is page k.memory.frames t t.loans lent_is ∙ reads ∙ (λ i. part (place i) t.len (flat_map (entries_same k slots g.sound r.object.0 i) (range_with_len 0 r.pages))) in
        let region : named_bytes s (region_number t) (t.offset + j) m ≡ part (t.offset + j) m bytes =
        ap (λ o. named_bytes s o (t.offset + j) m) number
        ∙ ap (λ o. model.region_part (t.offset + j) m o (model.orphan_part (t.offset + j) m (model.orphan_numbered s n))) (region_seen k (bytes_over k.memory slots rests sents) n ∙ ap (option_map (region_view (seen k.memory slots).entry_bytes)) found) in
        region ∙ sym (part_of_part j m t.offset t.len bytes l) ∙ sym (ap (part j m) shown)

    -- the region's bytes, from a place of the range on
    pub region_shown : named_bytes s (region_number t) (t.offset + j) m ≡ part j m (payload_under k.memory.frames t.loans)
    region_shown = ⊎_elim none some (same_or t.len 0)
