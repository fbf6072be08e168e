-- A receive step where host and store tell their bytes.
use Rattle.std.proofs.Common.{◌≡◌, ◌≢◌, ℕ, ◌<◌, ◌≤◌, zero, suc, true, false, List, [], ◌∷◌, ◌++◌, refl, sym, ap, subst, arith, ◌∙◌, length, map, get_or, set, inl, inr, eq-eqb, rules}
use Rattle.std.specs.Prelude.{Option, Some, None, IfSome, option_and_then, replicate, nat_lt, ◌==◌, if◌then◌else◌}
use Rattle.std.specs.Option.{option_map}
use Rattle.std.specs.Io.KnownBytes.{Consumes, IsAtEnd}
use Rattle.std.proofs.lemmas.Bool.{ne_eqb, cases_lt}
use Rattle.std.proofs.lemmas.List.{length-replicate}
use Rattle.genie_base.specs.Lemmas.Places.{set_at}
use Rattle.genie_base.specs.declared.config.Config.{Config}
use Rattle.genie_base.specs.declared.config.DeviceConfig.{DeviceConfig}
use Rattle.genie_base.specs.declared.event.Event.TheVariants.{Recv}
use Rattle.genie_base.specs.declared.reply.Reply.{Reply}
use Rattle.genie_host.specs.Host.{HostView, HandleState, OthersKept}
use Rattle.genie_object.specs.declared.memory.Memory.{Memory}
use Rattle.genie_object.specs.declared.pages.PageId.{PageId}
use Rattle.genie_object.specs.declared.pages.PageInfo.{PageInfo}
use Rattle.genie_object.specs.declared.pages.Place.{Place}
use Rattle.genie_object.specs.declared.pages.Place.TheVariants.{Zero, Frame, Slot}
use Rattle.genie_object.specs.Memory.{Seen, seen, place_bytes, page_bytes}
use Rattle.genie_object.specs.Objects.{entry_at}
use Rattle.genie_object.specs.Pages.{page_at, no_page}
use Rattle.genie_object.specs.Sound.{IsSound, IsSized}
use Rattle.genie_object.specs.Lemmas.Lookup.{in_range, slot_taken}
use Rattle.genie_store.specs.StoreView.{StoreView}
use Rattle.genie_model.specs.Refusing.{refuse}
use Rattle.genie_model.specs.Tables.{entry}
use Rattle.genie_kernel.specs.declared.kernel.Kernel.{Kernel}
use Rattle.genie_kernel.specs.Good.{IsGood}
use Rattle.genie_kernel.specs.Handles.{HasHandles}
use Rattle.genie_kernel.specs.Steps.{Steps, StepsTold}
use Rattle.genie_kernel.specs.Told.{told, told_at, input_at, output_at, rests_of, sents_of, by_number}
use Rattle.genie_kernel.specs.View.{Bytes, bytes_with, state_of, outline, view}
use Rattle.genie_kernel.specs.Lemmas.OpenHandles.{handles_kept}
use Rattle.genie_kernel.specs.Lemmas.Stepping.{accepted_step}
use Rattle.genie_receiving.specs.Receiving.{Receives, IsReceived, ArePages, HasPages, input_of}
use Rattle.genie_receiving.specs.Lemmas.Handles.{IsAlone, input_alone}
use Rattle.std.proofs.Common.{append-nil}
use Rattle.genie_changes.specs.Filling.{StepsFilled, filled_at}
use Rattle.genie_changes.specs.Lemmas.Filling.{filled_same, filled_twice, none_sent}

option_same : (before after : HostView) (h : ℕ) (o : Option ℕ) → o ≢ Some h → OthersKept h before.handle after.handle → told_at after o ≡ told_at before o
option_same before after h None other kept = refl
option_same before after h (Some a) other kept = ap (λ (s : HandleState). s.bytes) (kept a (λ e. other (ap Some e)))

-- what other handles tell is as before
told_same : (before after : HostView) (h : ℕ) (f : Option DeviceConfig → Option ℕ) (ds : List (Option DeviceConfig)) → f None ≡ None → ((j : ℕ) → f (entry ds j) ≢ Some h) → OthersKept h before.handle after.handle → told after (map f ds) ≡ told before (map f ds)
told_same before after h f [] none other kept = refl
told_same before after h f (x ∷ ds) none other kept =
    let first = option_same before after h (f x) (other 0) kept in
    let later = told_same before after h f ds none (λ j. other (suc j)) kept in
    λ i. option_and_then (λ bytes. option_map (λ rest. bytes ∷ rest) (later i)) (first i)

-- the bytes of the first one and of the others
record Parts (first : Option (List ℕ)) (later : Option (List (List ℕ))) (rs : List (List ℕ)) : Type 0 where
  pub head : List ℕ
  pub tail : List (List ℕ)
  pub head_is : first ≡ Some head
  pub tail_is : later ≡ Some tail
  pub joined : rs ≡ head ∷ tail

parts : (first : Option (List ℕ)) (later : Option (List (List ℕ))) (rs : List (List ℕ)) → option_and_then (λ bytes. option_map (λ rest. bytes ∷ rest) later) first ≡ Some rs → Parts first later rs
parts None later rs e = absurd (cc)
parts (Some x) None rs e = absurd (cc)
parts (Some x) (Some xs) rs e = record { head = x; tail = xs; head_is = refl; tail_is = refl; joined = cc }

consumed : (old new : Option (List ℕ)) (taken xs : List ℕ) → old ≡ Some xs → Consumes old new taken → (ys : List ℕ) × (new ≡ Some ys) × (xs ≡ taken ++ ys)
consumed None new taken xs e h = absurd (cc)
consumed (Some x) None taken xs e h = absurd h
consumed (Some x) (Some y) taken xs e h = let same : x ≡ xs = cc in (y, refl, sym same ∙ h)

-- what is told afterwards
record Left (d : ℕ) (taken : List ℕ) (after : HostView) (h : ℕ) (ds : List (Option DeviceConfig)) (rs : List (List ℕ)) : Type 0 where
  pub rest : List ℕ
  pub told_rest : (after.handle h).bytes ≡ Some rest
  pub is : get_or rs d [] ≡ taken ++ rest
  pub place : d < length rs
  pub now : told after (map input_at ds) ≡ Some (set rs d rest)

told_left : (before after : HostView) (h d : ℕ) (taken : List ℕ) (ds : List (Option DeviceConfig)) (rs : List (List ℕ)) → input_at (entry ds d) ≡ Some h → ((j : ℕ) → j ≢ d → input_at (entry ds j) ≢ Some h) → OthersKept h before.handle after.handle → Consumes (before.handle h).bytes (after.handle h).bytes taken → told before (map input_at ds) ≡ Some rs → Left d taken after h ds rs
told_left before after h d taken [] rs at other kept bytes e = absurd (cc)
told_left before after h zero taken (x ∷ ds) rs at other kept bytes e =
    let p = parts (told_at before (input_at x)) (told before (map input_at ds)) rs e in
    let old : (before.handle h).bytes ≡ Some p.head = sym (ap (told_at before) at) ∙ p.head_is in
    let c = consumed (before.handle h).bytes (after.handle h).bytes taken p.head old bytes in
    let later : told after (map input_at ds) ≡ Some p.tail = told_same before after h input_at ds refl (λ j. other (suc j) (λ z. absurd (omega (arith, z)))) kept ∙ p.tail_is in
    let first : told_at after (input_at x) ≡ Some c.0 = ap (told_at after) at ∙ c.1 in
    record {
      rest = c.0;
      told_rest = c.1;
      is = ap (λ l. get_or l 0 []) p.joined ∙ c.2;
      place = subst (λ (l : List (List ℕ)). 0 < length l) (sym p.joined) (omega arith);
      now = (λ i. option_and_then (λ y. option_map (λ l. y ∷ l) (later i)) (first i)) ∙ ap (λ l. Some (set l 0 c.0)) (sym p.joined);
    }
told_left before after h (suc d) taken (x ∷ ds) rs at other kept bytes e =
    let p = parts (told_at before (input_at x)) (told before (map input_at ds)) rs e in
    let l = told_left before after h d taken ds p.tail at (λ j n. other (suc j) (λ z. n (omega (arith, z)))) kept bytes p.tail_is in
    let now : told after (map input_at ds) ≡ Some (set p.tail d l.rest) = l.now in
    let first : told_at after (input_at x) ≡ Some p.head = option_same before after h (input_at x) (other 0 (λ z. absurd (omega (arith, z)))) kept ∙ p.head_is in
    record {
      rest = l.rest;
      told_rest = l.told_rest;
      is = ap (λ r. get_or r (suc d) []) p.joined ∙ l.is;
      place = subst (λ (r : List (List ℕ)). suc d < length r) (sym p.joined) (omega (arith, l.place));
      now = (λ i. option_and_then (λ y. option_map (λ r. y ∷ r) (now i)) (first i)) ∙ ap (λ r. Some (set r (suc d) l.rest)) (sym p.joined);
    }

-- by numbers of devices
left_at : (rs : List (List ℕ)) (d j : ℕ) (rest : List ℕ) → d < length rs → by_number (set rs d rest) j ≡ (if j == d then rest else by_number rs j)
left_at rs d j rest place = elim (set_at rs d j rest [] place) [
  | inl h ↦ h.1 ∙ sym (ap (λ c. if c then rest else by_number rs j) (eq-eqb j d h.0))
  | inr h ↦ h.1 ∙ sym (ap (λ c. if c then rest else by_number rs j) (ne_eqb j d h.0))
]

end_left : (told : Option (List ℕ)) (rest : List ℕ) → told ≡ Some rest → IsAtEnd told → rest ≡ []
end_left None rest e h = absurd (cc)
end_left (Some x) rest e h = let same : x ≡ rest = cc in sym same ∙ h

-- slots of which those that a memory doesn't have are zeros
abbrev paged : ℕ → ℕ → (ℕ → List ℕ) → ℕ → List ℕ
paged count page slots s = if nat_lt s count then slots s else replicate page 0

below : (s count : ℕ) → s < count → nat_lt s count ≡ true
below s count l = grind (arith, rules, l)

past : (s count : ℕ) → count ≤ s → nat_lt s count ≡ false
past s count l = grind (arith, rules, l)

are_paged : (count page : ℕ) (slots : ℕ → List ℕ) → ((s : ℕ) → s < count → length (slots s) ≡ page) → ArePages page (paged count page slots)
are_paged count page slots h s = elim (cases_lt s count) [
  | inl l ↦ ap (λ b. length (if b then slots s else replicate page 0)) (below s count l) ∙ h s l
  | inr l ↦ ap (λ b. length (if b then slots s else replicate page 0)) (past s count l) ∙ length-replicate page 0
]

place_shown : (m : Memory) (page : ℕ) (slots : ℕ → List ℕ) (p : PageId) (place : Place) → IsSound m → (page_at m.pages.pages p.0).place ≡ place → place_bytes m.frames (paged (length m.slots) page slots) place ≡ place_bytes m.frames slots place
place_shown m page slots p Zero sound e = refl
place_shown m page slots p (Frame f) sound e = refl
place_shown m page slots p (Slot s) sound e =
    let there : p.0 < length m.pages.pages = in_range m.pages.pages p.0 no_page (λ n. let clash : Slot s ≡ Zero = sym e ∙ ap (λ (q : PageInfo). q.place) n in absurd (cc)) in
    let taken = slot_taken m.pages.pages m.slots p.0 s e there sound.slotted in
    let within : s < length m.slots = in_range m.slots s false (λ n. let clash : true ≡ false = sym taken ∙ n in absurd (cc)) in
    ap (λ b. if b then slots s else replicate page 0) (below s (length m.slots) within)

page_shown : (m : Memory) (page : ℕ) (slots : ℕ → List ℕ) (q : Option PageId) → IsSound m → page_bytes m.frames m.pages.pages (paged (length m.slots) page slots) q ≡ page_bytes m.frames m.pages.pages slots q
page_shown m page slots None sound = refl
page_shown m page slots (Some p) sound = place_shown m page slots p (page_at m.pages.pages p.0).place sound refl

-- they show what the slots show
seen_paged : (m : Memory) (page : ℕ) (slots : ℕ → List ℕ) → IsSound m → seen m (paged (length m.slots) page slots) ≡ seen m slots
seen_paged m page slots sound = λ i. record { entry_bytes = λ o x. page_shown m page slots (entry_at m.objects o x).page sound i; kept_bytes = (seen m slots).kept_bytes }

module _ (d n : ℕ) (before after : HostView) (store : StoreView) (old new : Kernel) (r : Reply) (good : IsGood old) (accepted : refuse (outline old) (Recv d n) ≡ None) (alone : IsAlone old.config d (input_of old.config d)) (h : Receives d n before after old new r) (sized : IsSized old.memory store) where
  told_steps : (slots : Option (ℕ → List ℕ)) (rs ss : Option (List (List ℕ))) → IfSome slots (λ t. (s : ℕ) → s < store.count → length (t s) ≡ store.page) → told before (map input_at old.config.devices) ≡ rs → told before (map output_at old.config.devices) ≡ ss
      → StepsTold (option_map (state_of old) (bytes_with (option_map (seen old.memory) slots) (option_map by_number rs) (option_map by_number ss))) (Recv d n) (option_map (state_of new) (bytes_with (option_map (seen new.memory) slots) (rests_of after old.config) (sents_of after old.config))) r
  told_steps None rs ss pages e f = tt
  told_steps (Some slots) None ss pages e f = tt
  told_steps (Some slots) (Some rs) None pages e f = tt
  told_steps (Some slots) (Some rs) (Some ss) pages e f =
      let left = told_left before after (input_of old.config d) d h.taken old.config.devices rs alone.input alone.inputs h.only.others h.bytes e in
      let out : sents_of after old.config ≡ Some (by_number ss) = ap (option_map by_number) (told_same before after (input_of old.config d) output_at old.config.devices refl alone.outputs h.only.others ∙ f) in
      let page : ℕ = old.memory.frames.page in
      let more : ℕ → List ℕ = paged (length old.memory.slots) page slots in
      let are : ArePages page more = are_paged (length old.memory.slots) page slots (λ s l. pages s (subst (λ c. s < c) (sym sized.count) l) ∙ sized.page) in
      let rest : ℕ → List ℕ = by_number rs in
      let sent : ℕ → List ℕ = by_number ss in
      let steps = h.steps more rest sent left.rest are left.is (λ ended. end_left _ left.rest left.told_rest (h.at_end ended)) in
      let was : seen old.memory more ≡ seen old.memory slots = seen_paged old.memory page slots good.sound in
      let is : seen new.memory more ≡ seen new.memory slots = ap (λ (m : Memory). seen new.memory (paged (length m.slots) page slots)) (sym h.memory) ∙ seen_paged new.memory page slots h.good.sound in
      let now : Bytes = record { seen = seen new.memory slots; rests = λ j. if j == d then left.rest else rest j; sents = sent } in
      let flat : Steps (state_of old (record { seen = seen old.memory slots; rests = rest; sents = sent })) (Recv d n) (state_of new now) r =
      subst (λ (z : Seen). Steps (state_of old (record { seen = z; rests = rest; sents = sent })) (Recv d n) (state_of new now) r) was
      (subst (λ (z : Seen). Steps (state_of old (record { seen = seen old.memory more; rests = rest; sents = sent })) (Recv d n) (state_of new (record { seen = z; rests = λ j. if j == d then left.rest else rest j; sents = sent })) r) is steps) in
      let same : by_number (set rs d left.rest) ≡ (λ j. if j == d then left.rest else rest j) = λ i j. left_at rs d j left.rest left.place i in
      let told_now : rests_of after old.config ≡ Some (λ j. if j == d then left.rest else rest j) = ap (option_map by_number) left.now ∙ ap Some same in
      let old_bytes : Bytes = record { seen = seen old.memory slots; rests = rest; sents = sent } in
      subst (λ (x : Option (ℕ → List ℕ)). StepsTold (Some (state_of old old_bytes)) (Recv d n) (option_map (state_of new) (bytes_with (Some (seen new.memory slots)) x (sents_of after old.config))) r) (sym told_now)
      (subst (λ (x : Option (ℕ → List ℕ)). StepsTold (Some (state_of old old_bytes)) (Recv d n) (option_map (state_of new) (bytes_with (Some (seen new.memory slots)) (Some (λ j. if j == d then left.rest else rest j)) x)) r) (sym out)
      (accepted_step old old_bytes (Recv d n) (state_of new now) r accepted flat))

  received_told : HasPages store → StepsTold (view old before store) (Recv d n) (view new after store) r
  received_told pages = subst (λ (c : Config). StepsTold (view old before store) (Recv d n) (option_map (state_of new) (bytes_with (option_map (seen new.memory) store.slots) (rests_of after c) (sents_of after c))) r) (sym h.config)
      (told_steps store.slots (told before (map input_at old.config.devices)) (told before (map output_at old.config.devices)) pages refl refl)

  -- over every bytes that the other files may have
  filled_steps : (slots : Option (ℕ → List ℕ)) → IfSome slots (λ t. (s : ℕ) → s < store.count → length (t s) ≡ store.page) → (rests sents : ℕ → List ℕ) → (h.ended ≡ true → rests d ≡ [])
      → StepsTold (option_map (λ (z : Seen). state_of old (record { seen = z; rests = filled_at d (h.taken ++ rests d) rests; sents = sents })) (option_map (seen old.memory) slots)) (Recv d n) (option_map (λ (z : Seen). state_of new (record { seen = z; rests = rests; sents = filled_at d (sents d ++ []) sents })) (option_map (seen new.memory) slots)) r
  filled_steps None pages rests sents left = tt
  filled_steps (Some slots) pages rests sents left =
      let page : ℕ = old.memory.frames.page in
      let more : ℕ → List ℕ = paged (length old.memory.slots) page slots in
      let are : ArePages page more = are_paged (length old.memory.slots) page slots (λ s l. pages s (subst (λ c. s < c) (sym sized.count) l) ∙ sized.page) in
      let first : ℕ → List ℕ = filled_at d (h.taken ++ rests d) rests in
      let start : first d ≡ h.taken ++ rests d = ap (λ b. if b then h.taken ++ rests d else rests d) (eq-eqb d d refl) in
      let steps = h.steps more first sents (rests d) are start left in
      let was : seen old.memory more ≡ seen old.memory slots = seen_paged old.memory page slots good.sound in
      let is : seen new.memory more ≡ seen new.memory slots = ap (λ (m : Memory). seen new.memory (paged (length m.slots) page slots)) (sym h.memory) ∙ seen_paged new.memory page slots h.good.sound in
      let back : (λ j. if j == d then rests d else first j) ≡ rests = filled_twice d (h.taken ++ rests d) rests in
      let same : filled_at d (sents d ++ []) sents ≡ sents = filled_same d sents (sents d ++ []) (append-nil (sents d)) in
      let flat : Steps (state_of old (record { seen = seen old.memory slots; rests = first; sents = sents })) (Recv d n) (state_of new (record { seen = seen new.memory slots; rests = rests; sents = filled_at d (sents d ++ []) sents })) r =
      subst (λ (z : ℕ → List ℕ). Steps (state_of old (record { seen = seen old.memory slots; rests = first; sents = sents })) (Recv d n) (state_of new (record { seen = seen new.memory slots; rests = rests; sents = z })) r) (sym same)
      (subst (λ (z : ℕ → List ℕ). Steps (state_of old (record { seen = seen old.memory slots; rests = first; sents = sents })) (Recv d n) (state_of new (record { seen = seen new.memory slots; rests = z; sents = sents })) r) back
      (subst (λ (z : Seen). Steps (state_of old (record { seen = z; rests = first; sents = sents })) (Recv d n) (state_of new (record { seen = seen new.memory slots; rests = λ j. if j == d then rests d else first j; sents = sents })) r) was
      (subst (λ (z : Seen). Steps (state_of old (record { seen = seen old.memory more; rests = first; sents = sents })) (Recv d n) (state_of new (record { seen = z; rests = λ j. if j == d then rests d else first j; sents = sents })) r) is steps))) in
      accepted_step old (record { seen = seen old.memory slots; rests = first; sents = sents }) (Recv d n) (state_of new (record { seen = seen new.memory slots; rests = rests; sents = filled_at d (sents d ++ []) sents })) r accepted flat

  pub received_filled : HasPages store → StepsFilled old (Recv d n) new r before after store store
  received_filled pages = record {
    taken = h.taken;
    sent = [];
    ended = h.ended;
    input = subst (λ (o : Option ℕ). Consumes (told_at before o) (told_at after o) h.taken) (sym alone.input) h.bytes;
    output = none_sent (told_at before (output_at (entry old.config.devices d))) (told_at after (output_at (entry old.config.devices d))) (option_same before after (input_of old.config d) (output_at (entry old.config.devices d)) (alone.outputs d) h.only.others);
    at_end = λ ended. subst (λ (o : Option ℕ). IsAtEnd (told_at after o)) (sym alone.input) (h.at_end ended);
    steps = λ rests sents a b left. filled_steps store.slots pages rests sents left;
  }

-- so it is received
pub is_received : (d n : ℕ) (before after : HostView) (old new : Kernel) (r : Reply) → IsGood old → refuse (outline old) (Recv d n) ≡ None → HasHandles old.config before → input_at (entry old.config.devices d) ≡ Some (input_of old.config d) → Receives d n before after old new r → IsReceived d n before after old new r
is_received d n before after old new r good accepted handles input h = record {
  good = h.good;
  kept = h.kept;
  config = h.config;
  numbers = h.numbers;
  step = λ store sized pages. received_told d n before after store old new r good accepted (input_alone old.config before d (input_of old.config d) handles input) h sized pages;
  filled = λ store sized pages. received_filled d n before after store old new r good accepted (input_alone old.config before d (input_of old.config d) handles input) h sized pages;
  sized = λ store sized. record { count = sized.count ∙ sym (ap (λ (m : Memory). length m.slots) h.memory); page = sized.page ∙ sym (ap (λ (m : Memory). m.frames.page) h.memory) };
  cause = h.cause;
  only = h.only;
  handles = subst (λ (c : Config). HasHandles c after) (sym h.config) (handles_kept old.config (input_of old.config d) before after h.only handles);
  memory = h.memory;
  landed = h.landed;
}
