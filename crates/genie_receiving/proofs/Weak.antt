-- Bytes that land in the pages of a region.
use Rattle.std.proofs.Common.{◌≡◌, ◌≢◌, ℕ, ◌+◌, ◌-◌, ◌*◌, ◌/◌, ◌%◌, ◌<◌, ◌≤◌, zero, suc, Bool, true, false, List, [], ◌∷◌, ◌++◌, refl, sym, ap, ap₂, subst, arith, rules, ◌∙◌, ⊎_elim, length, take, get_or, eqb-true, eq-eqb}
use Rattle.std.specs.Prelude.{Option, Some, None, find, flat_map, nat_le, nat_lt, unwrap_or, ◌==◌, ◌&&◌, if◌then◌else◌}
use Rattle.std.specs.List.{range_with_len}
use Rattle.std.proofs.Math.Nat.{div-add-mod}
use Rattle.genie_base.specs.Bytes.{overlaid}
use Rattle.genie_base.specs.Counts.{span}
use Rattle.genie_base.specs.Lemmas.Overlaid.{overlaid-nothing}
use Rattle.genie_base.specs.Transfers.{class_of, is_strong}
use Rattle.genie_base.specs.declared.semantics.Class.{Class}
use Rattle.genie_base.specs.declared.semantics.Class.TheVariants.{Copy, Share, Move, WeakMove}
use Rattle.genie_base.specs.declared.semantics.Direction.{Direction}
use Rattle.genie_frame.specs.declared.frame.Owner.{Owner}
use Rattle.genie_frame.specs.declared.frame.Owner.TheVariants.{Free, Page}
use Rattle.genie_frame.specs.declared.frame.Counts.{Counts}
use Rattle.genie_frame.specs.FrameTable.{owner_at, counts_at, bytes_at, is_held, is_system, no_counts}
use Rattle.genie_object.specs.declared.memory.Memory.{Memory}
use Rattle.genie_object.specs.Memory.{seen, entry_frame, is_kept}
use Rattle.genie_object.specs.Sound.{IsSound}
use Rattle.genie_plan.specs.declared.plan.InPlan.{InPlan}
use Rattle.genie_plan.specs.Landings.{AreOfEntries, Lands}
use Rattle.genie_plan.specs.Plans.{CanLand, input_frames, times}
use Rattle.genie_plan.specs.Lemmas.Landings.{entry_kept, entry_shown, entry_size, frame_kept, held_once, in_region, page_in, times_some}
use Rattle.genie_region.specs.declared.region.Region.{Region}
use Rattle.genie_model.specs.Pending.{is_just}
use Rattle.genie_model.specs.Regions.{changed, put, with_bytes}
use Rattle.genie_model.specs.State as flat
use Rattle.genie_model.specs.Lemmas.Lists.{Has, find_has, has_any}
use Rattle.genie_kernel.specs.declared.kernel.Kernel.{Kernel}
use Rattle.genie_kernel.specs.declared.transfer.Loans.TheVariants as loans
use Rattle.genie_kernel.specs.declared.transfer.Transfer.{Transfer}
use Rattle.genie_kernel.specs.Calls.{begins_at, is_copy_input, is_named, is_strong_call, region_number}
use Rattle.genie_kernel.specs.Good.{IsGood}
use Rattle.genie_kernel.specs.Held.{IsInFrame, region_named}
use Rattle.genie_kernel.specs.Loans.{frames_of}
use Rattle.genie_kernel.specs.Orphans.{covers, is_owned, all_numbers}
use Rattle.genie_kernel.specs.Planned.{LendsRange}
use Rattle.genie_kernel.specs.Regions.{has_id, object_bytes, owned_regions, region_view}
use Rattle.genie_kernel.specs.Steps.{bytes_over}
use Rattle.genie_kernel.specs.View.{state_of}
use Rattle.genie_changes.specs.Premises.{ShowsLeft}
use Rattle.genie_receiving.specs.Laws.{ReceiveLaws}
use Rattle.genie_receiving.specs.Receiving.{ArePages}
use Rattle.genie_receiving.specs.Lemmas.Landed.{good_page}
use Rattle.genie_receiving.specs.Lemmas.Owned.{same_number, same_object}
use Rattle.genie_receiving.specs.Lemmas.Put.{processes_put, orphans_put}
use Rattle.genie_receiving.specs.Lemmas.Ready.{below, input_out, some_span, weak_holds}
use Rattle.genie_receiving.proofs.Strong.{none_or}

-- a weak transfer keeps no address: its pages are counted from its place in the region
keeps_none : (c : Class) (d : Direction) → is_strong c ≡ false → is_copy_input c d ≡ false
keeps_none Copy d e = absurd (cc)
keeps_none Share d e = refl
keeps_none Move d e = refl
keeps_none WeakMove d e = refl

pub begins_in : (t : Transfer) → is_strong_call t ≡ false → begins_at t ≡ t.offset
begins_in t weak = ap (λ (b : Bool). unwrap_or (if b then Some t.addr else None) t.offset) (keeps_none (class_of t.sem) t.dir weak)

-- an input whose loans are on the pages of region or orphan r; ts has it at whatever point of its work
pub record IsWeakInto (k : Kernel) (t : Transfer) (p : InPlan) (r : ℕ) : Type 0 where
  pub pends : Has t k.transfers
  pub weak : is_strong_call t ≡ false
  pub named : region_number t ≡ Some r
  pub is : t.loans ≡ loans.Inward p
  pub range : LendsRange k.config.page (begins_at t) t.len (input_frames p.loans.items) p.first p.len
  pub ready : CanLand k.memory.frames (input_frames p.loans.items) p.first p.len

named_by : (t : Transfer) (r : ℕ) → region_number t ≡ Some r → is_named t.region r ≡ true
named_by t r e = ap (λ (o : Option ℕ). is_just o r) e ∙ eq-eqb r r refl

in_range : (a l x : ℕ) → a ≤ x → x < a + l → (nat_le a x && nat_lt x (a + l)) ≡ true
in_range a l x from to = grind (arith, rules, from, to)

pub covers_place : (t : Transfer) (r x : ℕ) → is_strong_call t ≡ false → region_number t ≡ Some r → t.offset ≤ x → x < t.offset + t.len → covers r x t ≡ true
covers_place t r x weak named from to =
    let name = named_by t r named in
    let range = in_range t.offset t.len x from to in
    grind (arith, rules, weak, name, range)

held_input : (c : Counts) → 0 < c.input → is_held c ≡ true
held_input c h = grind (arith, rules, h)

unkept : (o : Owner) (n : ℕ) (c : Counts) → o ≡ Page n → c.strong ≡ 0 → is_kept o c ≡ false
unkept o n c e none = ap (λ z. is_kept z c) e ∙ ap (nat_lt 0) none

bytes_alike : (s t : ℕ → ℕ → List ℕ) (o : ℕ) (xs : List ℕ) → ((i : ℕ) → s o i ≡ t o i) → flat_map (s o) xs ≡ flat_map (t o) xs
bytes_alike s t o [] e = refl
bytes_alike s t o (x ∷ xs) e = ap₂ ◌++◌ (e x) (bytes_alike s t o xs e)

-- a place of the last page
last_page : (page x pages : ℕ) → 0 < page → x < pages * page → x / page < pages
last_page page x pages some l = grind arith

module _ (laws : ReceiveLaws) (k : Kernel) (g : IsGood k) (t : Transfer) (p : InPlan) (m : Memory) (x r : ℕ) (bytes : List ℕ) (h : IsWeakInto k t p r) (q : Region) (found : find (has_id r) (owned_regions k.spaces.processes) ≡ Some q) (lands : Lands (input_frames p.loans.items) p.first p.len x bytes k.memory m) (slots : ℕ → List ℕ) (paged : ArePages k.memory.frames.page slots) where
  abbrev frames : List ℕ
  frames = input_frames p.loans.items

  abbrev page : ℕ
  page = k.config.page

  abbrev i : ℕ
  i = t.offset / page

  region_is : region_named (owned_regions k.spaces.processes) (region_number t) ≡ Some q
  region_is = ap (region_named (owned_regions k.spaces.processes)) h.named ∙ found

  -- each of its frames has a page of the region
  of_entries : AreOfEntries k.memory q.object.0 i frames
  of_entries j l =
      let held : (j : ℕ) → j < length (frames_of t.loans) → IsInFrame k.memory (region_named (owned_regions k.spaces.processes) (region_number t)) (i + j) (get_or (frames_of t.loans) j 0) = (weak_holds k t g h.pends h.weak).held in
      let here : IsInFrame k.memory (region_named (owned_regions k.spaces.processes) (region_number t)) (i + j) (get_or frames j 0) = (subst (λ l. (j : ℕ) → j < length (frames_of l) → IsInFrame k.memory (region_named (owned_regions k.spaces.processes) (region_number t)) (i + j) (get_or (frames_of l) j 0)) h.is held) j l in
      subst (λ o. IsInFrame k.memory o (i + j) (get_or frames j 0)) region_is here

  out : (j : ℕ) → j < length frames → 0 < (counts_at k.memory.frames (get_or frames j 0)).input
  out = input_out k t p g h.pends h.is

  -- a frame of its own is that of its page
  page_of : (f : ℕ) → 0 < times frames f → (j : ℕ) × (j < length frames) × (entry_frame k.memory q.object.0 (i + j) ≡ Some f) × (0 < (counts_at k.memory.frames f).input)
  page_of f some =
      let at = times_some frames f some in
      (at.0, at.1, of_entries at.0 at.1 ∙ ap Some at.2, subst (λ y. 0 < (counts_at k.memory.frames y).input) at.2 (out at.0 at.1))

  -- no frame shows anything by itself
  kept_same : (f : ℕ) → (seen m slots).kept_bytes f ≡ (seen k.memory slots).kept_bytes f
  kept_same f = ⊎_elim
      (λ (none : times frames f ≡ 0). frame_kept k.memory m p.first p.len x frames bytes slots lands f none)
      (λ (some : 0 < times frames f).
      let y = page_of f some in
      let at = page_in k.memory q.object.0 (i + y.0) f y.2 in
      let owner : owner_at k.memory.frames f ≡ Page at.number.0 = g.sound.placed.in_frame at.number.0 (record { 0 = f }) at.is_place in
      let unlent = g.sound.held.unlent f (ap is_system owner) (held_input (counts_at k.memory.frames f) y.3) in
      let hidden : is_kept (owner_at k.memory.frames f) (counts_at k.memory.frames f) ≡ false = unkept (owner_at k.memory.frames f) at.number.0 (counts_at k.memory.frames f) owner unlent in
      let now : is_kept (owner_at m.frames f) (counts_at m.frames f) ≡ false = (λ z. is_kept (get_or (lands.only.owners z) f Free) (get_or (lands.only.counts z) f no_counts)) ∙ hidden in
      ap (λ b. if b then bytes_at m.frames f else []) now ∙ sym (ap (λ b. if b then bytes_at k.memory.frames f else []) hidden))
      (none_or (times frames f))

  -- other objects show what they showed
  other_objects : (a e : ℕ) → a ≢ q.object.0 → (seen m slots).entry_bytes a e ≡ (seen k.memory slots).entry_bytes a e
  other_objects a e apart = entry_kept k.memory m p.first p.len x frames bytes slots lands a e (λ f there. ⊎_elim (λ z. z)
      (λ (some : 0 < times frames f). let y = page_of f some in absurd (apart (held_once k.memory a e q.object.0 (i + y.0) f g.sound y.3 there y.2).0))
      (none_or (times frames f)))

  -- the range lies in the region
  inside : 0 < t.len → t.offset + t.len ≤ q.pages * page
  inside some =
      let number : q.id.0 ≡ r = eqb-true q.id.0 r (find_has (has_id r) (owned_regions k.spaces.processes) q found).1 in
      let sound : IsSound k.memory = g.sound in
      let shows : ShowsLeft k q (seen k.memory slots).entry_bytes (λ f. bytes_at k.memory.frames f) = record {
        shown = λ e f at held. sym (entry_shown k.memory slots q.object.0 e f at);
        full = λ e. entry_size k.memory slots q.object.0 e g.sound paged ∙ g.sized.page;
      } in
      let left = laws.leaves k q (seen k.memory slots).entry_bytes (λ f. bytes_at k.memory.frames f) g (good_page k g) (ap (λ n. find (has_id n) (owned_regions k.spaces.processes)) number ∙ found) shows in
      let last : ℕ = t.offset + t.len - 1 in
      let covered : covers q.id.0 (t.offset + t.len - 1) t ≡ true = ap (λ n. covers n (t.offset + t.len - 1) t) number ∙ covers_place t r (t.offset + t.len - 1) h.weak h.named (omega (arith, some)) (omega (arith, some)) in
      let within = left.inside (t.offset + t.len - 1) (has_any (covers q.id.0 (t.offset + t.len - 1)) t k.transfers h.pends covered) in
      omega (arith, within, some)

  count : length frames ≡ span page t.offset t.len
  count = h.range.pages ∙ ap (λ a. span page a t.len) (begins_in t h.weak)

  first_is : p.first ≡ t.offset % page
  first_is = h.range.begins ∙ ap (λ a. a % page) (begins_in t h.weak)

  -- so in the region the bytes stand at their place
  in_place : object_bytes (seen m slots).entry_bytes q.object.0 q.pages ≡ overlaid (t.offset + x) (take (t.len - x) bytes) (object_bytes (seen k.memory slots).entry_bytes q.object.0 q.pages)
  in_place = by t.len refl
    where
      place : k.memory.frames.page * i + (p.first + x) ≡ t.offset + x
      place =
          let parts = div-add-mod t.offset page in
          let first = first_is in
          let same : k.memory.frames.page * i ≡ page * i = ap (λ n. n * i) g.sized.page in
          omega (arith, parts, first, same)

      by : (l : ℕ) → t.len ≡ l → object_bytes (seen m slots).entry_bytes q.object.0 q.pages ≡ overlaid (t.offset + x) (take (t.len - x) bytes) (object_bytes (seen k.memory slots).entry_bytes q.object.0 q.pages)
      by zero e =
          let none : length frames ≡ 0 = count ∙ ap (λ l. if l == 0 then 0 else (t.offset + l - 1) / page - t.offset / page + 1) e in
          let no_len : p.len - x ≡ 0 = (let a = h.range.length_kept in omega (arith, a, e)) in
          let no_bytes : take (p.len - x) bytes ≡ [] = ap (λ n. take n bytes) no_len in
          let no_more : t.len - x ≡ 0 = omega (arith, e) in
          in_region k.memory m q.object.0 0 q.pages p.first p.len x frames bytes slots g.sound h.ready lands (λ j l. absurd (omega (arith, l, none))) (omega (arith, none)) paged
          ∙ ap (λ b. overlaid (k.memory.frames.page * 0 + (p.first + x)) b (object_bytes (seen k.memory slots).entry_bytes q.object.0 q.pages)) no_bytes
          ∙ overlaid-nothing (k.memory.frames.page * 0 + (p.first + x)) (object_bytes (seen k.memory slots).entry_bytes q.object.0 q.pages)
          ∙ sym (ap (λ n. overlaid (t.offset + x) (take n bytes) (object_bytes (seen k.memory slots).entry_bytes q.object.0 q.pages)) no_more ∙ overlaid-nothing (t.offset + x) (object_bytes (seen k.memory slots).entry_bytes q.object.0 q.pages))
      by (suc l) e =
          let some : 0 < t.len = omega (arith, e) in
          let lies = inside some in
          let pages : (t.offset + t.len - 1) / page < q.pages = last_page page (t.offset + t.len - 1) q.pages (good_page k g) (omega (arith, lies, some)) in
          let low : i ≤ (t.offset + t.len - 1) / page = below page t.offset (t.offset + t.len - 1) (good_page k g) (omega (arith, some)) in
          let long : length frames ≡ (t.offset + t.len - 1) / page - t.offset / page + 1 = count ∙ some_span page t.offset t.len some in
          in_region k.memory m q.object.0 i q.pages p.first p.len x frames bytes slots g.sound h.ready lands of_entries (omega (arith, pages, low, long)) paged
          ∙ (λ z. overlaid (place z) (take (h.range.length_kept z - x) bytes) (object_bytes (seen k.memory slots).entry_bytes q.object.0 q.pages))

  has_region : Has q (owned_regions k.spaces.processes)
  has_region = (find_has (has_id r) (owned_regions k.spaces.processes) q found).0

  number_is : q.id.0 ≡ r
  number_is = eqb-true q.id.0 r (find_has (has_id r) (owned_regions k.spaces.processes) q found).1

  -- each region shows what it showed, but for this one
  each_region : (y : Region) → Has y (owned_regions k.spaces.processes) → region_view (seen m slots).entry_bytes y ≡ changed r (with_bytes (t.offset + x) (take (t.len - x) bytes)) (region_view (seen k.memory slots).entry_bytes y)
  each_region y here = by (y.id.0 == r) refl
    where
      by : (b : Bool) → (y.id.0 == r) ≡ b → region_view (seen m slots).entry_bytes y ≡ (if b then with_bytes (t.offset + x) (take (t.len - x) bytes) (region_view (seen k.memory slots).entry_bytes y) else region_view (seen k.memory slots).entry_bytes y)
      by true e =
          let same = same_number k y q g here has_region (eqb-true y.id.0 r e ∙ sym number_is) in
          subst (λ (z : Region). region_view (seen m slots).entry_bytes z ≡ with_bytes (t.offset + x) (take (t.len - x) bytes) (region_view (seen k.memory slots).entry_bytes z)) (sym same)
          (ap (λ l. record (region_view (seen k.memory slots).entry_bytes q) { bytes = l }) in_place)
      by false e =
          let apart : y.object.0 ≢ q.object.0 = λ s. let one = same_object k y q g here has_region s in let clash : false ≡ true = sym e ∙ eq-eqb y.id.0 r (ap (λ (z : Region). z.id.0) one ∙ number_is) in absurd (cc) in
          ap (λ l. record (region_view (seen k.memory slots).entry_bytes y) { bytes = l }) (bytes_alike (seen m slots).entry_bytes (seen k.memory slots).entry_bytes y.object.0 (range_with_len 0 y.pages) (λ e. other_objects y.object.0 e apart))

  owned : is_owned (owned_regions k.spaces.processes) r ≡ true
  owned = has_any (has_id r) q (owned_regions k.spaces.processes) has_region (eq-eqb q.id.0 r number_is)

  -- the state is that in which the bytes are put
  pub region_put : (ts : List Transfer) (rests sents : ℕ → List ℕ) → state_of (record k { transfers = ts }) (bytes_over m slots rests sents) ≡ put (state_of (record k { transfers = ts }) (bytes_over k.memory slots rests sents)) r (t.offset + x) (take (t.len - x) bytes)
  region_put ts rests sents =
      let k1 : Kernel = record k { transfers = ts } in
      let old : flat.State = state_of k1 (bytes_over k.memory slots rests sents) in
      let kept : (seen m slots).kept_bytes ≡ (seen k.memory slots).kept_bytes = λ z f. kept_same f z in
      let processes = processes_put (seen k.memory slots).entry_bytes (seen m slots).entry_bytes r (with_bytes (t.offset + x) (take (t.len - x) bytes)) k.spaces.processes k.queues each_region in
      let orphans = sym (orphans_put page (seen k.memory slots).kept_bytes (owned_regions k.spaces.processes) ts r (t.offset + x) (take (t.len - x) bytes) owned all_numbers) in
      ap (λ (f : ℕ → List ℕ). state_of k1 (record { seen = record { entry_bytes = (seen m slots).entry_bytes; kept_bytes = f }; rests = rests; sents = sents })) kept
      ∙ (λ z. record old { processes = processes z; orphans = orphans z })
